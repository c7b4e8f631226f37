-- A text is found under `i` wherever it is found without.
use Rattle.std.specs.Prelude.{◌≡◌, ◌≤◌, ℕ, true, false, List, Option, Some, None, chars}
use Rattle.fancy_matches.specs.Matchers.{span_of}
use Rattle.fancy_matches.specs.declared.found.Match.{Match}
use Rattle.fancy_pattern.specs.Escape.{SpellsText}
use Rattle.fancy_regex.specs.Builders.{IsBuilt}
use Rattle.fancy_regex.specs.declared.options.RegexOptions.{RegexOptions}
use Rattle.fancy_regex.specs.declared.regexes.Regex.{Regex}
use Rattle.fancy_relations.specs.Calls.{ReturnsMatch}

-- the same options under `i`
abbrev pub folding : RegexOptions → RegexOptions
folding o = record o { parsing = record (o.parsing) { case_insensitive = true } }

-- if there is a match, the other is there too, and it does not begin later
abbrev pub BeginsNoLater : (other found : Option Match) → Type 0
BeginsNoLater other None = Unit {0}
BeginsNoLater None (Some m) = ⊥
BeginsNoLater (Some n) (Some m) = (span_of n).0 ≤ (span_of m).0

-- ---- theorem

-- If a search for a pattern that spells a text finds a match, so does the same search under `i`, at the same start or
-- an earlier one.
abbrev pub FoldedIsNoLater : Type 0
FoldedIsNoLater =
    (s pattern : List ℕ) (o : RegexOptions) (r q : Regex) (text : List ℕ) (pos : ℕ) (found other : Option Match) →
    (o.parsing).case_insensitive ≡ false → SpellsText (chars pattern) (chars s) → IsBuilt pattern o r →
    IsBuilt pattern (folding o) q → ReturnsMatch r text pos found → ReturnsMatch q text pos other →
    BeginsNoLater other found
