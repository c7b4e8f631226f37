-- What is kept of a search for a tree.
use Rattle.std.specs.Prelude.{ℕ, List, Option, option_and_then, option_map, slice_get}
use Rattle.fancy_meaning.specs.MatchState.{Span}
use Rattle.fancy_steps.specs.Outcomes.{first_pair}
use Rattle.fancy_matches.specs.Matchers.{captures_text, numbers_in}
use Rattle.fancy_matches.specs.declared.found.Captures.{Captures}
use Rattle.fancy_scanner.specs.declared.answers.Answer.{Answer}

-- where the match of these groups begins
abbrev pub start_of : Captures → ℕ
start_of c = (first_pair (numbers_in c)).0

-- where the match of an answer begins
abbrev pub answer_start : Answer → Option ℕ
answer_start a = option_map start_of a.found

-- the groups of the match in an answer that is kept
abbrev pub found_in : Option Answer → Option Captures
found_in = option_and_then (λ a. a.found)

-- the groups of the match that is kept of the tree with this number
abbrev pub kept_captures : List (Option Answer) → ℕ → Option Captures
kept_captures answers k = option_and_then found_in (slice_get answers k)

-- what is shown of a match by its groups: its text and its span
abbrev pub shown_whole : Captures → List ℕ × Span
shown_whole c = (captures_text c, first_pair (numbers_in c))
