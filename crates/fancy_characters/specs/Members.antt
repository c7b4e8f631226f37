-- The members of a pattern that is one set, as ranges.
use Rattle.std.specs.Prelude.{◌≡◌, ℕ, Bool, List, Option, is_some, encode_utf8, option_and_then}
use Rattle.std.specs.Char.{IsScalar}
use Rattle.regex_class.specs.Ranges.{Range, in_ranges}
use Rattle.regex_hir.specs.Find.{find_str}
use Rattle.regex_hir.specs.Re.{Re, empty, look, cat}
use Rattle.regex_hir.specs.declared.look.Look.TheVariants.{Start, End}

-- the ranges hold the characters that pass the test
abbrev pub AreMembersBy : (ℕ → Bool) → List Range → Type 0
AreMembersBy test ranges = (c : ℕ) → IsScalar c → in_ranges ranges c ≡ test c

-- the ranges hold the characters that the pattern finds
abbrev pub AreMembersOf : Re → List Range → Type 0
AreMembersOf re = AreMembersBy (λ c. is_some (find_str re (encode_utf8 c) 0))

-- the same of a text's pattern, if it has one
abbrev pub AreMembersIn : Option Re → List Range → Type 0
AreMembersIn pattern = AreMembersBy (λ c. is_some (option_and_then (λ re. find_str re (encode_utf8 c) 0) pattern))

-- the pattern between the start and the end of the text
abbrev pub whole : Re → Re
whole re = cat (look Start) (cat re (cat (look End) empty))
