-- From what `regex` ensures to the class of a text.
use Rattle.std.proofs.Common.{◌≡◌, ℕ, zero, suc, ◌+◌, ◌/◌, ◌%◌, ◌<◌, ◌≤◌, Bool, true, false, List, [], ◌∷◌, length, get_or, refl, sym, ap, subst, ◌∙◌, arith, Option, Some, None, Result, Ok, Err, is_some, encode_utf8, IsSomeAnd, IfSome, option_and_then, if◌then◌else◌, nat_le, le-leb, inl, inr, ◌≢◌, SomeIff, set, slice_index_or}
use Rattle.std.proofs.lemmas.Bool.{cases_lt}
use Rattle.std.proofs.lemmas.Bool.Decides.{nat_tests}
use Rattle.std.proofs.lemmas.Grind.{get_or-set_at}
use Rattle.std.proofs.lemmas.List.{get_or-set_other}
use Rattle.std.proofs.lemmas.Str.{encode_ascii}
use Rattle.std.specs.Char.{IsScalar}
use Rattle.std.specs.Result.{IfOk}
use Rattle.regex_hir.proofs.Utf8Lemmas.{encode_two, encode_three, encode_four, InScalarRange-of_IsScalar}
use Rattle.regex_class.specs.Ranges.{Range}
use Rattle.regex_class.specs.declared.Class.{Class}
use Rattle.regex_hir.specs.Find.{find_str}
use Rattle.regex_hir.specs.declared.hir.Hir.{Hir}
use Rattle.regex_hir.specs.Meaning.{meaning}
use Rattle.regex_hir.specs.Re.{Re}
use Rattle.regex_syntax.specs.Brackets.{Nested}
use Rattle.regex_syntax.specs.Captures.{SameCaptures}
use Rattle.regex_syntax.specs.Grammar.{Names, group_count}
use Rattle.regex_syntax.specs.Verdict.{default_config, Reads, Refuses}
use Rattle.regex_syntax.specs.declared.error.ErrorKind.{ErrorKind}
use Rattle.regex_syntax.specs.declared.error.ErrorKind.TheVariants.{OutOfMemory}
use Rattle.regex.specs.Failures.{IsPattern}
use Rattle.regex.specs.Names.{names_of}
use Rattle.regex.specs.Strings.{regex_source, regex_config, regex_pattern, IsReadFromSource}
use Rattle.regex.specs.declared.string.regex.Regex.{Regex}
use Rattle.regex.proofs.ForCallers.{is_match_alike}
use Rattle.fancy_meaning.specs.Chars.{class_pattern, class_takes, is_class, pattern_in}
use Rattle.fancy_characters.specs.Members.{AreMembersBy, AreMembersOf, AreMembersIn}
use Rattle.fancy_characters.specs.ClassTexts.{ClassText, IsRegexOf}

-- ---- the bytes of a character

abbrev AreBelow : List ℕ → Type 0
AreBelow bs = (k : ℕ) → get_or bs k 0 < 256

no_byte : AreBelow []
no_byte k = omega arith

one_byte : (b : ℕ) (bs : List ℕ) → b < 256 → AreBelow bs → AreBelow (b ∷ bs)
one_byte b bs here later zero = here
one_byte b bs here later (suc k) = later k

pub encoded_below : (c : ℕ) → IsScalar c → AreBelow (encode_utf8 c)
encoded_below c scalar =
    let range = InScalarRange-of_IsScalar c scalar in
    let one_left = 128 + c % 64 in
    let two_left = 128 + (c / 64) % 64 in
    let three_left = 128 + (c / 4096) % 64 in
    let last : AreBelow (one_left ∷ []) = one_byte one_left [] (omega arith) no_byte in
    let last_two : AreBelow (two_left ∷ one_left ∷ []) = one_byte two_left (one_left ∷ []) (omega arith) last in
    let last_three : AreBelow (three_left ∷ two_left ∷ one_left ∷ []) =
    one_byte three_left (two_left ∷ one_left ∷ []) (omega arith) last_two in
    elim (cases_lt c 0x80) [
      | inl one ↦ subst AreBelow (sym (encode_ascii c one)) (one_byte c [] (omega (arith, one)) no_byte)
      | inr more ↦ elim (cases_lt c 0x800) [
        | inl two ↦ subst AreBelow (sym (encode_two c more two)) (one_byte (192 + c / 64) (one_left ∷ []) (omega (arith, two)) last)
        | inr much ↦ elim (cases_lt c 0x1_0000) [
          | inl three ↦
              subst AreBelow (sym (encode_three c much three)) (one_byte (224 + c / 4096) (two_left ∷ one_left ∷ []) (omega (arith, three)) last_two)
          | inr four ↦
              subst AreBelow (sym (encode_four c four))
              (one_byte (240 + c / 262144) (three_left ∷ two_left ∷ one_left ∷ []) (grind (arith, range)) last_three)
        ]
      ]
    ]

-- ---- what was read

abbrev Read : Type 0
Read = Option (Nested Re × Names)

abbrev most : ℕ
most = default_config.nest_limit

abbrev IsReadAs : Re → Names → Read → Type 0
IsReadAs a names o = IsSomeAnd o (λ (re, found). (re.depth ≤ most) × SameCaptures a re.value × (names ≡ found) × (group_count a ≤ length names))

-- the pattern, if it is not nested too deep
abbrev within : Read → Option Re
within = option_and_then (λ r. if nat_le r.0.depth most then Some r.0.value else None)

matches_as_read : (a : Re) (names : Names) (o : Read) → IsReadAs a names o → (hay : List ℕ) → AreBelow hay →
    is_some (find_str a hay 0) ≡ is_some (option_and_then (λ re. find_str re hay 0) (within o))
matches_as_read a names None h hay bytes = absurd h
matches_as_read a names (Some x) h hay bytes = rw (le-leb x.0.depth most h.0) (is_match_alike h.1 hay bytes true 0)

pub members_as_read : {E : Type 0} (text : List ℕ) (hir : Hir) (names : Names) → Reads default_config text hir names → (made : Result (Option Class) E) →
    IfOk made (λ found. IfSome found (λ class. AreMembersOf (meaning hir) class.ranges.items)) →
    IfOk made (λ found. IfSome found (λ class. AreMembersIn (pattern_in text) class.ranges.items))
unfolding Reads
members_as_read text hir names reads (Ok None) of = of
members_as_read text hir names reads (Ok (Some class)) of =
    λ c scalar. of c scalar ∙ matches_as_read (meaning hir) names _ reads (encode_utf8 c) (encoded_below c scalar)
members_as_read text hir names reads (Err e) of = of

is_within : (a : Re) (names : Names) (o : Read) → IsReadAs a names o → is_some (within o) ≡ true
is_within a names None h = absurd h
is_within a names (Some x) h = rw (le-leb x.0.depth most h.0) refl

too_deep : (o : Read) → IfSome o (λ (re, _). most < re.depth) → is_some (within o) ≡ false
too_deep None h = refl
too_deep (Some x) h = let deep : nat_le x.0.depth most ≡ false = grind (arith, nat_tests, h) in rw deep refl

module _ (unicode : Bool) (inner : List ℕ) (casei : Bool) where
  pub class_of_pattern : IsPattern default_config (class_pattern unicode inner casei) → is_class unicode inner casei ≡ true
  unfolding is_class Reads
  class_of_pattern (hir, names, reads) = is_within (meaning hir) names _ reads

  pub members_of_class : (source : List ℕ) → source ≡ class_pattern unicode inner casei → (ranges : List Range) →
      AreMembersIn (pattern_in source) ranges → AreMembersBy (class_takes unicode inner casei) ranges
  unfolding class_takes
  members_of_class source same ranges of = subst (λ text. AreMembersIn (pattern_in text) ranges) same of

  pub no_class_of_refusal : (kind : ErrorKind) → kind ≢ OutOfMemory → Refuses default_config (class_pattern unicode inner casei) kind →
      is_class unicode inner casei ≡ false
  unfolding is_class Refuses
  no_class_of_refusal kind memory (inl none) = absurd (memory none)
  no_class_of_refusal kind memory (inr (inl none)) = ap (λ o. is_some (within o)) none
  no_class_of_refusal kind memory (inr (inr deep)) = too_deep _ deep.1

module _ (r : Regex) (t : ClassText) (regex_of : IsRegexOf t r) where
  reads : Reads default_config (class_pattern t.unicode t.inner t.casei) r.pattern.program.hir (names_of r.pattern.names.items)
  reads = rw (regex_of.config, regex_of.source) at regex_of.read

  pub answers_class : (c : ℕ) → IsScalar c → is_some (find_str (regex_pattern r) (encode_utf8 c) 0) ≡ class_takes t.unicode t.inner t.casei c
  unfolding class_takes Reads
  answers_class c scalar = matches_as_read (meaning r.pattern.program.hir) (names_of r.pattern.names.items) _ reads (encode_utf8 c) (encoded_below c scalar)

pub regex_of : (r : Regex) (unicode : Bool) (inner : List ℕ) (casei : Bool) → regex_source r ≡ class_pattern unicode inner casei →
    regex_config r ≡ default_config → IsReadFromSource r → IsRegexOf (record { inner = inner; casei = casei; unicode = unicode }) r
regex_of r unicode inner casei source config read = record { source = source; config = config; read = read }

-- ---- answers, one by one

pub ascii_character : (c : ℕ) → c < 128 → IsScalar c
ascii_character c h = grind (arith, nat_tests)

pub one_more_answer : (f : ℕ → Bool) (answers : List Bool) (c : ℕ) (b : Bool) → c < length answers → b ≡ f c →
    ((k : ℕ) → k < c → slice_index_or answers k false ≡ f k) → (k : ℕ) → k < c + 1 → slice_index_or (set answers c b) k false ≡ f k
one_more_answer f answers c b inside here before k h =
    elim (cases_lt k c) [
      | inl earlier ↦ get_or-set_other answers c k b false (omega (arith, earlier)) ∙ before k earlier
      | inr last ↦
          let same : k ≡ c = omega (arith, last, h) in
          get_or-set_at answers c k b false same inside ∙ here ∙ ap f (sym same)
    ]

pub some_character : (o : Option ℕ) (c : ℕ) → SomeIff o (IsScalar c) c → IsScalar c → o ≡ Some c
some_character None c h scalar = absurd (h scalar)
some_character (Some x) c h scalar = ap Some h.1
