-- The classes that are told by their texts: one escape, or one range of ASCII letters or digits in brackets.
use Rattle.std.specs.Prelude.{◌≡◌, ℕ, ◌≤◌, Bool, false, List, [], ◌∷◌, IsTrue, ⊤, codes}
use Rattle.std.specs.Char.{is_ascii_alphanumeric}
use Rattle.std.specs.Int.{is_in_range}
use Rattle.ucd_perl.specs.Perl.{is_word_char, is_digit_char, is_space_char}
use Rattle.fancy_characters.specs.declared.simple_classes.SimpleClass.{SimpleClass}
use Rattle.fancy_characters.specs.declared.simple_classes.SimpleClass.TheVariants.{Word, Digit, Space, Range}

-- the class text
abbrev pub simple_text : SimpleClass → List ℕ
simple_text Word = codes "\\w"
simple_text Digit = codes "\\d"
simple_text Space = codes "\\s"
simple_text (Range first last) = 0x5B ∷ first ∷ 0x2D ∷ last ∷ 0x5D ∷ []

-- the text is told: a range has its ends in order, letters or digits, and is not folded
abbrev pub IsTold : Bool → SimpleClass → Type 0
IsTold casei Word = ⊤
IsTold casei Digit = ⊤
IsTold casei Space = ⊤
IsTold casei (Range first last) =
    (casei ≡ false) × IsTrue (is_ascii_alphanumeric first) × IsTrue (is_ascii_alphanumeric last) × (first ≤ last)

-- the class holds the character
abbrev pub is_in_simple : SimpleClass → ℕ → Bool
is_in_simple Word = is_word_char
is_in_simple Digit = is_digit_char
is_in_simple Space = is_space_char
is_in_simple (Range first last) = is_in_range first last
