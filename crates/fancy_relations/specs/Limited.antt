-- Limits change nothing that is found.
use Rattle.std.specs.Prelude.{◌≡◌, ℕ, List, Option, option_map}
use Rattle.fancy_matches.specs.Matchers.{shown_match}
use Rattle.fancy_matches.specs.declared.found.Match.{Match}
use Rattle.fancy_regex.specs.Builders.{IsBuilt}
use Rattle.fancy_regex.specs.Found.{shown_captures}
use Rattle.fancy_regex.specs.declared.found.Captures.{Captures}
use Rattle.fancy_regex.specs.declared.options.RegexOptions.{RegexOptions}
use Rattle.fancy_regex.specs.declared.regexes.Regex.{Regex}
use Rattle.fancy_relations.specs.Calls.{ReturnsCaptures, ReturnsMatch}

-- options that are the same but for limits: of backtracks, steps, visits and memory, of the analysis, of nesting and of
-- the program's size
pub record AreButForLimits (a b : RegexOptions) : Type 0 where
  pub parsing : a.parsing ≡ b.parsing
  pub not_empty : a.not_empty ≡ b.not_empty
  pub longest : a.longest ≡ b.longest

-- ---- theorems

-- Regexes of one pattern, whatever their limits, find the same match, if neither returns an error.
abbrev pub LimitsChangeNoMatch : Type 0
LimitsChangeNoMatch =
    (pattern : List ℕ) (a b : RegexOptions) (r q : Regex) (text : List ℕ) (pos : ℕ) (found other : Option Match) →
    AreButForLimits a b → IsBuilt pattern a r → IsBuilt pattern b q → ReturnsMatch r text pos found →
    ReturnsMatch q text pos other → option_map shown_match found ≡ option_map shown_match other

-- And the same groups.
abbrev pub LimitsChangeNoCaptures : Type 0
LimitsChangeNoCaptures =
    (pattern : List ℕ) (a b : RegexOptions) (r q : Regex) (text : List ℕ) (pos : ℕ) (found other : Option Captures) →
    AreButForLimits a b → IsBuilt pattern a r → IsBuilt pattern b q → ReturnsCaptures r text pos found →
    ReturnsCaptures q text pos other → option_map shown_captures found ≡ option_map shown_captures other
