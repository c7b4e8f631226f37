-- The classes that are told by their texts, as `regex` reads their pattern.
use Rattle.std.proofs.Common.{◌≡◌, ℕ, zero, suc, ◌<◌, Bool, true, false, List, [], ◌∷◌, ◌||◌, ◌&&◌, ◌==◌, refl, sym, ap, ◌∙◌, arith, Option, Some, is_some, encode_utf8, option_and_then, nat_le, nat_lt, ltb-true, le-leb, true≢false, drop, None, if◌then◌else◌}
use Rattle.std.proofs.lemmas.Bool.Decides.{nat_tests}
use Rattle.std.proofs.lemmas.Bool.{and_parts}
use Rattle.std.proofs.lemmas.Str.{chars-IsAscii}
use Rattle.std.specs.List.{list_all}
use Rattle.std.specs.Str.{IsAscii}
use Rattle.std.specs.Bool.{beq}
use Rattle.std.specs.Char.{IsScalar, is_ascii_alphanumeric, is_ascii_digit}
use Rattle.std.specs.Int.{is_in_range}
use Rattle.ucd_table.proofs.Computing.{tables}
use Rattle.ucd_table.proofs.Facts.{Stepped-below, same_from_beq}
use Rattle.ucd_props.proofs.BinaryLemmas.{is_white_space_stepped}
use Rattle.ucd_perl.specs.Perl.{is_word_char, is_digit_char, is_space_char}
use Rattle.ucd_perl.proofs.PerlLemmas.{is_digit_char_stepped}
use Rattle.regex_class.specs.Ranges.{in_ranges}
use Rattle.regex_class.proofs.RangesLemmas.{or-false}
use Rattle.regex_hir.specs.Find.{find_str}
use Rattle.regex_hir.specs.Re.{Re, empty, look, cat, alt, char_in, byte_in}
use Rattle.regex_hir.specs.declared.look.Look.TheVariants.{Start, End}
use Rattle.regex_syntax.specs.Same.{SameMatches}
use Rattle.regex_syntax.specs.Sets.{Set, members, one_of, negate_if, case_fold, is_member}
use Rattle.regex_syntax.specs.Brackets.{Nested, flat, operator, posix, unite, member, single, range, after_hyphen, set_item, bracket_start, item_or, set_items, operations, bracket}
use Rattle.regex_syntax.specs.Reading.{first, skip, take_up_to, take_run}
use Rattle.regex_syntax.specs.Escapes.{one_letter, escape}
use Rattle.regex_syntax.specs.Grammar.{set_flag, set_flags, opening, piece_meaning, char_meaning, atom, repetitions, with_repetitions, item, items, branches, join_parts, read, names_below}
use Rattle.regex_syntax.specs.Verdict.{default_config}
use Rattle.regex_syntax.proofs.CapturesLemmas.{alike_of_same}
use Rattle.regex_syntax.proofs.SameLemmas.{alt-fail, cat-empty, cat_cong, same_refl, same_sym, ◌then◌}
use Rattle.regex_syntax.proofs.SetLemmas.{in_ranges-members}
use Rattle.regex.proofs.ForCallers.{is_match_alike}
use Rattle.fancy_meaning.specs.Chars.{class_pattern, class_takes, is_class, pattern_in}
use Rattle.fancy_characters.specs.SimpleClasses.{IsTold, simple_text, is_in_simple}
use Rattle.fancy_characters.specs.declared.simple_classes.SimpleClass.{SimpleClass}
use Rattle.fancy_characters.specs.declared.simple_classes.SimpleClass.TheVariants.{Word, Digit, Space, Range}
use Rattle.fancy_characters.specs.Members.{whole}
use Rattle.fancy_characters.proofs.ClassLaws.{encoded_below}
use Rattle.fancy_characters.proofs.MembersLaws.{set_lists}

-- ---- the pattern of a simple class

-- a set between the ends of the text, as it is read
abbrev as_read : Re → Re
as_read re = alt (whole (alt (cat re empty) (byte_in []))) (byte_in [])

abbrev pattern : SimpleClass → Bool → List ℕ
pattern k casei = class_pattern true (simple_text k) casei

are_ascii : (bs : List ℕ) → list_all (λ b. nat_lt b 128) bs ≡ true → IsAscii bs
are_ascii [] h i = omega arith
are_ascii (b ∷ bs) h zero = ltb-true b 128 (and_parts (nat_lt b 128) (list_all (λ d. nat_lt d 128) bs) h).0
are_ascii (b ∷ bs) h (suc i) = are_ascii bs (and_parts (nat_lt b 128) (list_all (λ d. nat_lt d 128) bs) h).1 i

is_small : (x : ℕ) → is_ascii_alphanumeric x ≡ true → nat_lt x 128 ≡ true
is_small x h = grind (arith, nat_tests, h)

ascii_pattern : (k : SimpleClass) (casei : Bool) → IsTold casei k → IsAscii (pattern k casei)
ascii_pattern Word true told = are_ascii (pattern Word true) refl
ascii_pattern Word false told = are_ascii (pattern Word false) refl
ascii_pattern Digit true told = are_ascii (pattern Digit true) refl
ascii_pattern Digit false told = are_ascii (pattern Digit false) refl
ascii_pattern Space true told = are_ascii (pattern Space true) refl
ascii_pattern Space false told = are_ascii (pattern Space false) refl
ascii_pattern (Range x y) true told = absurd (true≢false told.0)
ascii_pattern (Range x y) false told = are_ascii (pattern (Range x y) false) (rw (is_small x told.1, is_small y told.2) refl)

-- the pattern, if it is not nested too deep
abbrev within : List ℕ → Option Re
within text = option_and_then (λ r. if nat_le r.0.depth default_config.nest_limit then Some r.0.value else None) (read default_config text)

-- ---- a range of two letters or digits in brackets

abbrev IsNone : ℕ → ℕ → Type 0
IsNone x k = (x == k) ≡ false

abbrev AreNone : ℕ → Type 0
AreNone x = IsNone x 93 × IsNone x 45 × IsNone x 92 × IsNone x 94 × IsNone 38 x × IsNone 45 x × IsNone 126 x × IsNone 91 x × IsNone x 91

no_sign : (x : ℕ) → is_ascii_alphanumeric x ≡ true → AreNone x
no_sign x h = (
  grind (arith, nat_tests, h),
  grind (arith, nat_tests, h),
  grind (arith, nat_tests, h),
  grind (arith, nat_tests, h),
  grind (arith, nat_tests, h),
  grind (arith, nat_tests, h),
  grind (arith, nat_tests, h),
  grind (arith, nat_tests, h),
  grind (arith, nat_tests, h),
)

-- the set that is read
abbrev read_set : SimpleClass → Set
read_set Word = is_word_char
read_set Digit = is_digit_char
read_set Space = is_space_char
read_set (Range x y) = λ c. is_in_range x y c || false

read_set_is : (k : SimpleClass) (c : ℕ) → is_in_simple k c ≡ read_set k c
read_set_is Word c = refl
read_set_is Digit c = refl
read_set_is Space c = refl
read_set_is (Range x y) c = sym (or-false (is_in_range x y c))

module _ (x y : ℕ) (p : AreNone x) (q : AreNone y) (order : nat_le x y ≡ true) where
  abbrev text : List ℕ
  text = 91 ∷ x ∷ 45 ∷ y ∷ 93 ∷ 41 ∷ 92 ∷ 122 ∷ []

  abbrev inside : Nested Set
  inside = record { value = read_set (Range x y); depth = 1 }

  starts : bracket_start default_config (drop 1 text) ≡ (false, [], drop 1 text)
  unfolding bracket_start skip take_up_to take_run first
  starts = rw (p.3, p.1, p.0) refl

  ranged : set_item default_config (drop 1 text) ≡ Some (is_in_range x y, drop 4 text)
  unfolding set_item member single range after_hyphen skip first is_member
  ranged = rw (p.2, q.0, q.1, q.2, order) refl

  no_operator : operator (drop 1 text) ≡ None
  unfolding operator
  no_operator = rw (p.4, p.5, p.6) refl

  no_posix : posix (drop 1 text) ≡ None
  unfolding posix
  no_posix = rw p.7 refl

  listed : set_items default_config 16 (drop 1 text) ≡ Some (flat (is_in_range x y) ∷ [], drop 4 text)
  unfolding set_items skip item_or first
  listed = rw (p.0, no_operator, no_posix, p.8, ranged) refl

  bracketed : bracket default_config 17 text ≡ Some (inside, drop 5 text)
  unfolding bracket skip unite operations first negate_if case_fold
  bracketed = rw (starts, listed) refl

  range_within : within (pattern (Range x y) false) ≡ Some (as_read (char_in (members (read_set (Range x y)))))
  unfolding one_of first skip take_up_to take_run one_letter escape set_flag set_flags opening piece_meaning char_meaning atom repetitions with_repetitions item items branches join_parts read names_below
  range_within = rw bracketed refl

-- ---- what is read

read_within : (k : SimpleClass) (casei : Bool) → IsTold casei k → within (pattern k casei) ≡ Some (as_read (char_in (members (read_set k))))
unfolding one_of negate_if first skip take_up_to take_run one_letter escape set_flag set_flags opening piece_meaning char_meaning atom repetitions with_repetitions item items branches join_parts read names_below
read_within Word true told = refl
read_within Word false told = refl
read_within Digit true told = refl
read_within Digit false told = refl
read_within Space true told = refl
read_within Space false told = refl
read_within (Range x y) true told = absurd (true≢false told.0)
read_within (Range x y) false told = range_within x y (no_sign x told.1) (no_sign y told.2) (le-leb x y told.3)

simple_pattern : (k : SimpleClass) (casei : Bool) → IsTold casei k → pattern_in (pattern k casei) ≡ Some (as_read (char_in (members (read_set k))))
simple_pattern k casei told = ap within (chars-IsAscii (pattern k casei) (ascii_pattern k casei told)) ∙ read_within k casei told

read_alike : (re : Re) → SameMatches (whole re) (as_read re)
read_alike re =
    same_sym (alt-fail _ then cat_cong (same_refl (look Start)) (cat_cong (alt-fail (cat re empty) then cat-empty re) (same_refl (cat (look End) empty))))

pub simple_is_class : (k : SimpleClass) (casei : Bool) → IsTold casei k → is_class true (simple_text k) casei ≡ true
unfolding is_class
simple_is_class k casei told = ap is_some (simple_pattern k casei told)

module _ (c : ℕ) (scalar : IsScalar c) where
  below : nat_lt c 0x11_0000 ≡ true
  below = grind (arith, nat_tests, scalar)

  listed_in : (set : Set) → set c ≡ in_ranges (members set) c
  listed_in set = sym (in_ranges-members set c ∙ ap (λ b. b && set c) below)

  pub simple_takes : (k : SimpleClass) (casei : Bool) → IsTold casei k → is_in_simple k c ≡ class_takes true (simple_text k) casei c
  unfolding class_takes
  simple_takes k casei told =
      let set = read_set k in
      read_set_is k c ∙ listed_in set ∙ set_lists c scalar (members set)
      ∙ is_match_alike (alike_of_same (read_alike (char_in (members set)))) (encode_utf8 c) (encoded_below c scalar) true 0
      ∙ sym (ap (λ o. is_some (option_and_then (λ re. find_str re (encode_utf8 c) 0) o)) (simple_pattern k casei told))

-- ---- the ASCII characters of an escape

pub digit-ascii : (c : ℕ) → c < 128 → is_digit_char c ≡ is_ascii_digit c
unfolding tables is_digit_char_stepped
digit-ascii c h = same_from_beq _ _ (Stepped-below is_digit_char is_digit_char_stepped (λ x v. beq v (is_ascii_digit x)) 128 refl c h)

abbrev is_space_byte : ℕ → Bool
is_space_byte c = (nat_le 9 c && nat_le c 13) || (c == 32)

pub space-ascii : (c : ℕ) → c < 128 → is_space_char c ≡ is_space_byte c
unfolding tables is_space_char is_white_space_stepped
space-ascii c h = same_from_beq _ _ (Stepped-below is_space_char is_white_space_stepped (λ x v. beq v (is_space_byte x)) 128 refl c h)
