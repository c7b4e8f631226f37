-- What is done with the matches of a text: the pieces between them, and other text in their place.
use Rattle.std.specs.Prelude.{◌==◌, ◌<◌, ℕ, zero, suc, List, [], map, take, Option, Some, None, if◌then◌else◌}
use Rattle.fancy_steps.specs.Outcomes.{first_pair}
use Rattle.fancy_matches.specs.Listing.{in_turn, pieces}

-- so many from the start, or all
abbrev pub take_limit : {A : Type 0} → Option ℕ → List A → List A
take_limit None xs = xs
take_limit (Some n) xs = take n xs

-- 0 is no limit
abbrev pub as_limit : ℕ → Option ℕ
as_limit limit = if limit == 0 then None else Some limit

-- so many are not yet as many as the limit
abbrev pub IsBelow : Option ℕ → ℕ → Type 0
IsBelow None n = Unit {0}
IsBelow (Some limit) n = n < limit

-- the pieces between these matches, each by its numbers
abbrev pub pieces_between : List ℕ → ℕ → List (List ℕ) → List (List ℕ)
pieces_between text from matches = pieces text from (map first_pair matches)

-- at most so many pieces, of which the last is the rest of the text
abbrev pub at_most_pieces : List ℕ → ℕ → List (List ℕ) → List (List ℕ)
at_most_pieces text zero matches = []
at_most_pieces text (suc n) matches = pieces_between text 0 (take n matches)

-- the text with what is written for each match in its place
abbrev pub rewrite : (List ℕ → List ℕ) → List ℕ → List (List ℕ) → List ℕ
rewrite replacement text matches = in_turn (pieces_between text 0 matches) (map replacement matches)
