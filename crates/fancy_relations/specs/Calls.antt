-- What calls of one regex say of one another, on the same text and from the same place on, if none exceeds a limit.
use Rattle.std.specs.Prelude.{◌≡◌, ℕ, Bool, List, Option, Some, None, Ok, is_some}
use Rattle.fancy_meaning.specs.Options.{RunOptions}
use Rattle.fancy_meaning.specs.Premises.{Input, IsText}
use Rattle.fancy_matches.specs.Listing.{begun_at, group_span}
use Rattle.fancy_matches.specs.Matchers.{span_of, text_of}
use Rattle.fancy_matches.specs.declared.found.Match.{Match}
use Rattle.fancy_regex.specs.Builders.{IsBuilt}
use Rattle.fancy_regex.specs.Found.{captures_text, numbers_in}
use Rattle.fancy_regex.specs.Regexes.{FindsCaptures, FindsMatch, FindsWhether, IsRegexOf}
use Rattle.fancy_regex.specs.declared.found.Captures.{Captures}
use Rattle.fancy_regex.specs.declared.options.RegexOptions.{RegexOptions}
use Rattle.fancy_regex.specs.declared.regexes.Regex.{Regex}

-- a call returned this without an error, as its contract says
module _ (r : Regex) (text : List ℕ) (pos : ℕ) where
  -- `is_match`, where `pos` is 0
  abbrev pub ReturnsWhether : Bool → Type 0
  ReturnsWhether there =
      (i : Input) (o : RunOptions) → IsRegexOf i text o r → FindsWhether i text (begun_at o pos) (Ok there)

  -- `find`, where `pos` is 0, and `find_from_pos`
  abbrev pub ReturnsMatch : Option Match → Type 0
  ReturnsMatch found =
      (i : Input) (o : RunOptions) → IsRegexOf i text o r → FindsMatch i text (begun_at o pos) (Ok found)

  -- `captures`, where `pos` is 0, and `captures_from_pos`
  abbrev pub ReturnsCaptures : Option Captures → Type 0
  ReturnsCaptures groups =
      (i : Input) (o : RunOptions) → IsRegexOf i text o r → FindsCaptures i text (begun_at o pos) (Ok groups)

-- both are none, or the match is group 0, in the same text
abbrev pub IsGroupZero : Option Match → Option Captures → Type 0
IsGroupZero None None = Unit {0}
IsGroupZero (Some m) (Some c) = (text_of m ≡ captures_text c) × (Some (span_of m) ≡ group_span (numbers_in c) 0)
IsGroupZero found groups = ⊥

-- ---- theorems, of a regex that was built from a pattern

-- `is_match` returns true if and only if `find` finds a match.
abbrev pub IsMatchIsFind : Type 0
IsMatchIsFind =
    (pattern : List ℕ) (options : RegexOptions) (r : Regex) (text : List ℕ) (pos : ℕ) (there : Bool)
    (found : Option Match) → IsBuilt pattern options r → ReturnsWhether r text pos there →
    ReturnsMatch r text pos found → there ≡ is_some found

-- `find` returns group 0 of what `captures` returns.
abbrev pub FindIsGroupZero : Type 0
FindIsGroupZero =
    (pattern : List ℕ) (options : RegexOptions) (r : Regex) (text : List ℕ) (pos : ℕ) (found : Option Match)
    (groups : Option Captures) → IsBuilt pattern options r → IsText text → ReturnsMatch r text pos found →
    ReturnsCaptures r text pos groups → IsGroupZero found groups
