-- Tests on one character. `unicode` is the option of that name.
use Rattle.std.specs.Prelude.{ℕ, Bool, true, false, ◌&&◌, ◌||◌, not, List, ◌++◌, ◌==◌, nat_le, Option, Some, None, is_some, if◌then◌else◌, codes, chars, encode_utf8, option_and_then}
use Rattle.std.specs.Char.{eq_ignore_ascii_case}
use Rattle.regex_hir.specs.Find.{find_str}
use Rattle.regex_hir.specs.Re.{Re}
use Rattle.regex_syntax.specs.Grammar.{read}
use Rattle.regex_syntax.specs.Verdict.{default_config}
use Rattle.ucd_perl.specs.Perl.{is_word_byte, is_word_char}
use Rattle.ucd_case.specs.CaseFolding.{simple_fold}
use lib.Pointwise.{pointwise}

-- equal simple foldings
unfoldable pub fold_equal : ℕ → ℕ → Bool
fold_equal a b = simple_fold a == simple_fold b

-- the same; without `unicode` only ASCII letters fold
abbrev pub folds_to : Bool → ℕ → ℕ → Bool
folds_to unicode a b = if unicode then fold_equal a b else eq_ignore_ascii_case a b

-- as many characters, equal by folding in pairs
abbrev pub fold_equal_chars : List ℕ → List ℕ → Bool
fold_equal_chars = pointwise fold_equal

-- what a literal of the character c takes
abbrev pub literal_takes : Bool → ℕ → Bool → ℕ → Bool
literal_takes unicode c casei d = if casei then folds_to unicode c d else c == d

-- what `Any` takes: LF is 10, CR is 13
abbrev pub any_takes : Bool → Bool → ℕ → Bool
any_takes newline crlf c = newline || not (c == 10 || (crlf && c == 13))

-- LF, VT, FF, CR, and with `unicode` NEL and the separators of lines and paragraphs
abbrev pub is_newline : Bool → ℕ → Bool
is_newline unicode c =
    (nat_le 10 c && nat_le c 13) || (unicode && (c == 0x85 || (nat_le 0x2028 c && nat_le c 0x2029)))

-- Alphabetic, Mark, Decimal_Number, Connector_Punctuation or Join_Control; without `unicode` ASCII letters, digits
-- and `_`
unfoldable pub is_word : Bool → ℕ → Bool
is_word unicode c = if unicode then is_word_char c else is_word_byte c

-- ---- classes: what the crate `regex` matches

-- the group in which a class text stands in its pattern, without its end
abbrev pub class_opening : Bool → Bool → List ℕ
class_opening true true = codes "(?i:"
class_opening true false = codes "(?:"
class_opening false true = codes "(?i-u:"
class_opening false false = codes "(?-u:"

-- the pattern of a class text
abbrev pub class_pattern : Bool → List ℕ → Bool → List ℕ
class_pattern unicode inner casei = codes "\\A" ++ class_opening unicode casei ++ inner ++ codes ")\\z"

-- what `regex` reads in a pattern's text: it is one, and is not nested too deep
abbrev pub pattern_in : List ℕ → Option Re
pattern_in text =
    option_and_then
    (λ r. if nat_le r.0.depth default_config.nest_limit then Some r.0.value else None)
    (read default_config (chars text))

-- the class text has a pattern
unfoldable pub is_class : Bool → List ℕ → Bool → Bool
is_class unicode inner casei = is_some (pattern_in (class_pattern unicode inner casei))

-- the class holds the character
unfoldable pub class_takes : Bool → List ℕ → Bool → ℕ → Bool
class_takes unicode inner casei c =
    is_some (option_and_then (λ re. find_str re (encode_utf8 c) 0) (pattern_in (class_pattern unicode inner casei)))
