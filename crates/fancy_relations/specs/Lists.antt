-- The list of all matches by single searches.
use Rattle.std.specs.Prelude.{◌≡◌, ℕ, false, ◌&&◌, ◌==◌, List, [], ◌∷◌, Option, Some, None, if◌then◌else◌}
use Rattle.fancy_meaning.specs.Answer.{answer, search_of}
use Rattle.fancy_meaning.specs.MatchState.{Span}
use Rattle.fancy_meaning.specs.Options.{Plan, RunOptions}
use Rattle.fancy_meaning.specs.Places.{is_place}
use Rattle.fancy_meaning.specs.Premises.{IsText}
use Rattle.fancy_steps.specs.Outcomes.{first_pair}
use Rattle.fancy_starts.specs.Matches.{has_continue, has_keep_out}
use Rattle.fancy_matches.specs.Listing.{all_matches, begun_at, further}

module _ (p : Plan) (text : List ℕ) (o : RunOptions) where
  -- what `find_from_pos` finds from here, by its numbers; past the end of the text nothing
  abbrev pub found_from : ℕ → Option (List ℕ)
  found_from pos = if is_place text pos then answer (search_of p text (begun_at o pos)) else None

  -- of an empty match where the one before ended, what is found one character further on
  abbrev pub past_empty : ℕ → Option (List ℕ) → Option (List ℕ)
  past_empty end None = None
  past_empty end (Some m) =
      if (first_pair m).0 == end && (first_pair m).1 == end then found_from (further text end) else Some m

  -- what is found after a match: from its end on, but no empty match there; after an empty match, one character
  -- further on
  abbrev pub found_after : Span → Option (List ℕ)
  found_after (start, end) =
      if start == end then found_from (further text end) else past_empty end (found_from end)

  -- these are the next match, and for each the match after it, until there is none
  abbrev pub AreInTurn : Option (List ℕ) → List (List ℕ) → Type 0
  AreInTurn next [] = next ≡ None
  AreInTurn next (m ∷ ms) = (next ≡ Some m) × AreInTurn (found_after (first_pair m)) ms

-- ---- theorem

-- Without `\G` and `\K` the list has what `find` finds, and after each match what `find_from_pos` finds next.
abbrev pub ListIsFoundInTurn : Type 0
ListIsFoundInTurn =
    (p : Plan) (text : List ℕ) (o : RunOptions) → IsText text → has_continue (p.analysis).tree ≡ false →
    has_keep_out (p.analysis).tree ≡ false → AreInTurn p text o (found_from p text o 0) (all_matches p text o)
