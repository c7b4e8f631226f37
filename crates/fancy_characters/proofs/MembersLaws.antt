-- A set between the ends of the text matches a character exactly where the set alone takes all its bytes.
use Rattle.std.proofs.Common.{◌||◌, ⊎_elim, ap₂, map, Box, Global, ◌≡◌, ℕ, zero, suc, ◌+◌, ◌≤◌, ◌<◌, slice_get, Bool, true, false, List, [], ◌∷◌, ◌++◌, length, refl, sym, ap, ◌∙◌, subst, arith, Option, Some, None, Result, Ok, Err, is_some, encode_utf8, inl, inr, append-nil, drop_of_length-le, ◌≢◌, true≢false}
use Rattle.std.proofs.lemmas.Bool.{cases_lt, or_cases, or_left, or_right}
use Rattle.std.proofs.lemmas.List.{map_push}
use Rattle.std.proofs.lemmas.Bool.Decides.{nat_tests}
use Rattle.std.proofs.lemmas.Option.{slice_get_past, slice_get-get_or, same_Some}
use Rattle.std.proofs.lemmas.Str.{encode_ascii, IsUtf8-encode, IsCharBoundary-start, length-encode}
use Rattle.std.specs.Char.{IsScalar, len_utf8}
use Rattle.std.specs.Option.{IfSome}
use Rattle.std.specs.Result.{IfOk}
use Rattle.regex_class.specs.Ranges.{Range, in_range, in_ranges, HasExactly}
use Rattle.regex_class.specs.declared.Class.{Class}
use Rattle.regex_class.proofs.RangesLemmas.{in_ranges-append, or_assoc, or-false}
use Rattle.regex_hir.specs.Find.{find_str}
use Rattle.regex_hir.specs.Looks.{holds, holds_between}
use Rattle.regex_hir.specs.Matches.{Matches}
use Rattle.regex_hir.specs.Meaning.{meaning, alt_all}
use Rattle.regex_hir.specs.declared.hir.Hir.{Hir}
use Rattle.regex_hir.specs.declared.hir.Hir.TheVariants.{Chars, Capture}
use Rattle.regex_hir.specs.Re.{Re, accept, literal, byte_in, char_in, alt, group}
use Rattle.regex_hir.specs.Text.{is_boundary, char_at, byte_before}
use Rattle.regex_hir.specs.declared.look.Look.TheVariants.{Start, End}
use Rattle.regex_hir.proofs.AttemptLemmas.{attempt_sound, attempt_complete, cond_some}
use Rattle.regex_hir.proofs.FindLemmas.{first_between_here, IsFirst-of_first_between}
use Rattle.regex_hir.proofs.MatchesLemmas.{Matches-IsSpan}
use Rattle.regex_hir.proofs.MeaningLemmas.{meaning-Chars, meaning-Capture}
use Rattle.regex_hir.proofs.OptionLemmas.{value_of_IsSome}
use Rattle.regex_hir.proofs.TextLemmas.{byte_before-add-one, char_at_from, char_at_parts, has_bytes_at_parts, has_bytes_at_from}
use Rattle.regex.proofs.Utf8Lemmas.{test_of_IsCharBoundary}
use Rattle.fancy_characters.specs.Members.{AreMembersOf, whole}

-- ---- the ends of the text

module _ (hay : List ℕ) where
  starts : holds Start hay 0 ≡ true
  unfolding holds holds_between byte_before
  starts = refl

  starts_first : (i : ℕ) → i ≤ length hay → holds Start hay i ≡ true → i ≡ 0
  unfolding holds holds_between
  starts_first zero within h = refl
  starts_first (suc i) within h =
      let next : suc i ≡ i + 1 = omega arith in
      let later = subst (λ k. holds Start hay k ≡ true) next h in
      absurd (true≢false (sym (rw (byte_before-add-one hay i, slice_get-get_or hay i 0 (omega (arith, within))) at later)))

  ends : holds End hay (length hay) ≡ true
  unfolding holds holds_between
  ends = rw (slice_get_past hay (length hay) (omega arith)) refl

  ends_last : (i : ℕ) → holds End hay i ≡ true → length hay ≤ i
  unfolding holds holds_between
  ends_last i h = elim (cases_lt i (length hay)) [
    | inl inside ↦ absurd (true≢false (sym (rw (slice_get-get_or hay i 0 inside) at h)))
    | inr past ↦ past
  ]

  -- ---- one pattern between them

  module _ (re : Re) where
    all_of : Matches hay re 0 (length hay) → Matches hay (whole re) 0 (length hay)
    all_of m = (0, (starts, refl), (length hay, m, (length hay, (ends, refl), refl)))

    inner_of : (i j : ℕ) → i ≤ length hay → Matches hay (whole re) i j → Matches hay re 0 (length hay)
    inner_of i j within (a, first, (b, inner, (d, last, rest))) =
        let at_start : a ≡ 0 = first.1 ∙ starts_first i within first.0 in
        let span = Matches-IsSpan hay re a b inner in
        let at_end : b ≡ length hay = omega (arith, ends_last b last.0, span, at_start) in
        subst (λ k. Matches hay re 0 k) at_end (subst (λ k. Matches hay re k b) at_start inner)

    pub found_whole : is_boundary hay 0 ≡ true → Matches hay re 0 (length hay) → is_some (find_str (whole re) hay 0) ≡ true
    unfolding find_str
    found_whole boundary m =
        let v = value_of_IsSome _ (attempt_complete hay (whole re) accept 0 (length hay) (all_of m) refl) in
        ap is_some (first_between_here _ 0 (length hay) v.0 (omega arith) (rw boundary v.1))

    pub whole_found : is_some (find_str (whole re) hay 0) ≡ true → Matches hay re 0 (length hay)
    unfolding find_str
    whole_found some =
        let v = value_of_IsSome _ some in
        let first = IsFirst-of_first_between _ 0 (length hay) v.0 v.1 in
        let sound = attempt_sound hay (whole re) accept v.0.start v.0.trace (cond_some (is_boundary hay v.0.start) _ v.0.trace first.here).1 in
        inner_of v.0.start sound.at first.to sound.leads

-- ---- a character

same_test : {A : Type 0} (b : Bool) (o : Option A) → (b ≡ true → is_some o ≡ true) → (is_some o ≡ true → b ≡ true) → b ≡ is_some o
same_test true o there back = sym (there refl)
same_test false None there back = refl
same_test false (Some x) there back = back refl

module _ (c : ℕ) (scalar : IsScalar c) where
  boundary : is_boundary (encode_utf8 c) 0 ≡ true
  boundary = test_of_IsCharBoundary (encode_utf8 c) 0 (IsCharBoundary-start (encode_utf8 c) (IsUtf8-encode c scalar))

  character : char_at (encode_utf8 c) 0 ≡ Some c
  character = char_at_from (encode_utf8 c) 0 c [] scalar (sym (append-nil (encode_utf8 c)))

  -- a test says whether the pattern takes all bytes of the character
  tests : (re : Re) (b : Bool) → (b ≡ true → Matches (encode_utf8 c) re 0 (length (encode_utf8 c)))
      → (Matches (encode_utf8 c) re 0 (length (encode_utf8 c)) → b ≡ true) → b ≡ is_some (find_str (whole re) (encode_utf8 c) 0)
  tests re b there back =
      same_test b _ (λ h. found_whole (encode_utf8 c) re boundary (there h)) (λ h. back (whole_found (encode_utf8 c) re h))

  pub set_lists : (ranges : List Range) → in_ranges ranges c ≡ is_some (find_str (whole (char_in ranges)) (encode_utf8 c) 0)
  set_lists ranges =
      tests (char_in ranges) (in_ranges ranges c) (λ h. (c, character, h, omega (arith, length-encode c)))
      (λ m. subst (λ d. in_ranges ranges d ≡ true) (same_Some m.0 c (sym m.1 ∙ character)) m.2)

  pub bytes_list : (ranges : List Range) → ((b : ℕ) → in_ranges ranges b ≡ true → b ≤ 127) →
      in_ranges ranges c ≡ is_some (find_str (whole (byte_in ranges)) (encode_utf8 c) 0)
  bytes_list ranges ascii =
      tests (byte_in ranges) (in_ranges ranges c)
      (λ h. let one = encode_ascii c (omega (arith, ascii c h)) in (c, ap (λ bs. slice_get bs 0) one, h, ap length one))
      (λ m.
      let one = encode_ascii c (short m.3) in
      subst (λ b. in_ranges ranges b ≡ true) (same_Some m.0 c (sym m.1 ∙ ap (λ bs. slice_get bs 0) one)) m.2)
    where
      short : length (encode_utf8 c) ≡ 1 → c < 128
      short one = let width = length-encode c in grind (arith, nat_tests, one, width)

  -- ---- bytes that are given

  all_bytes : (bytes : List ℕ) → Matches (encode_utf8 c) (literal bytes) 0 (length (encode_utf8 c)) → encode_utf8 c ≡ bytes
  all_bytes bytes m =
      has_bytes_at_parts (encode_utf8 c) 0 bytes m.0
      ∙ ap (λ rest. bytes ++ rest) (drop_of_length-le (encode_utf8 c) {i = 0 + length bytes} (omega (arith, m.1))) ∙ append-nil bytes

  same_bytes : (bytes : List ℕ) → encode_utf8 c ≡ bytes → Matches (encode_utf8 c) (literal bytes) 0 (length (encode_utf8 c))
  same_bytes bytes same = (has_bytes_at_from (encode_utf8 c) 0 bytes [] (same ∙ sym (append-nil bytes)), omega (arith, ap length same))

  first_of : (bytes : List ℕ) → encode_utf8 c ≡ bytes → char_at bytes 0 ≡ Some c
  first_of bytes same = subst (λ bs. char_at bs 0 ≡ Some c) same character

  spells : (bytes : List ℕ) (d : ℕ) → char_at bytes 0 ≡ Some d → len_utf8 d ≡ length bytes → bytes ≡ encode_utf8 d
  spells bytes d first width =
      (char_at_parts bytes 0 d first).1
      ∙ ap (λ rest. encode_utf8 d ++ rest) (drop_of_length-le bytes {i = 0 + len_utf8 d} (omega (arith, width))) ∙ append-nil (encode_utf8 d)

  only : (d : ℕ) → in_ranges ((d, d) ∷ []) c ≡ true → d ≡ c
  unfolding in_ranges in_range
  only d h = grind (arith, nat_tests, h)

  itself : (d : ℕ) → d ≡ c → in_ranges ((d, d) ∷ []) c ≡ true
  unfolding in_ranges in_range
  itself d same = grind (arith, nat_tests, same)

  pub spelled_lists : (bytes : List ℕ) (d : ℕ) → char_at bytes 0 ≡ Some d → len_utf8 d ≡ length bytes →
      in_ranges ((d, d) ∷ []) c ≡ is_some (find_str (whole (literal bytes)) (encode_utf8 c) 0)
  spelled_lists bytes d first width =
      tests (literal bytes) _ (λ h. same_bytes bytes (ap encode_utf8 (sym (only d h)) ∙ sym (spells bytes d first width)))
      (λ m. itself d (same_Some d c (sym first ∙ first_of bytes (all_bytes bytes m))))

  pub others_list_none : (bytes : List ℕ) → ((d : ℕ) → char_at bytes 0 ≡ Some d → len_utf8 d ≢ length bytes) →
      false ≡ is_some (find_str (whole (literal bytes)) (encode_utf8 c) 0)
  others_list_none bytes other =
      tests (literal bytes) false (λ h. absurd (true≢false (sym h)))
      (λ m. let same = all_bytes bytes m in absurd (other c (first_of bytes same) (sym (length-encode c) ∙ ap length same)))

-- ---- a group, and one of several

module _ (c : ℕ) (scalar : IsScalar c) where
  -- whether the pattern takes all bytes of the character
  abbrev takes : Re → Bool
  takes re = is_some (find_str (whole re) (encode_utf8 c) 0)

  in_group : (index : ℕ) (re : Re) → takes re ≡ takes (group index re)
  in_group index re =
      tests c scalar (group index re) (takes re) (whole_found (encode_utf8 c) re) (found_whole (encode_utf8 c) re (boundary c scalar))

  in_either : (a b : Re) → (takes a || takes b) ≡ takes (alt a b)
  in_either a b =
      tests c scalar (alt a b) (takes a || takes b)
      (λ h. ⊎_elim (λ left. inl (whole_found (encode_utf8 c) a left)) (λ right. inr (whole_found (encode_utf8 c) b right)) (or_cases (takes a) (takes b) h))
      (λ m. ⊎_elim (λ left. or_left (takes a) (takes b) (found_whole (encode_utf8 c) a (boundary c scalar) left))
      (λ right. or_right (takes a) (takes b) (found_whole (encode_utf8 c) b (boundary c scalar) right)) m)

  in_none : false ≡ takes (alt_all [])
  unfolding in_ranges
  in_none = bytes_list c scalar [] (λ b h. absurd (true≢false (sym h)))

  in_last : (front : List Re) (re : Re) → (takes (alt_all front) || takes re) ≡ takes (alt_all (front ++ re ∷ []))
  in_last [] re =
      ap (λ b. b || takes re) (sym in_none) ∙ sym (or-false (takes re)) ∙ ap (λ b. takes re || b) in_none ∙ in_either re (alt_all [])
  in_last (a ∷ front) re =
      ap (λ b. b || takes re) (sym (in_either a (alt_all front)))
      ∙ sym (or_assoc (takes a) (takes (alt_all front)) (takes re))
      ∙ ap (λ b. takes a || b) (in_last front re) ∙ in_either a (alt_all (front ++ re ∷ []))

-- ---- what the functions ensure

module _ (c : ℕ) (scalar : IsScalar c) where
  most : c ≤ 0x10_FFFF
  most = grind (arith, nat_tests, scalar)

pub set_has_members : (set : Hir) (class : Class) → set ≡ Chars class → AreMembersOf (whole (meaning set)) class.ranges.items
set_has_members set class is c scalar =
    set_lists c scalar class.ranges.items
    ∙ ap (λ re. is_some (find_str (whole re) (encode_utf8 c) 0)) (sym (ap meaning is ∙ meaning-Chars class))

pub bytes_have_members : (bytes : List Range) → ((b : ℕ) → in_ranges bytes b ≡ true → b ≤ 127) → AreMembersOf (whole (byte_in bytes)) bytes
bytes_have_members bytes ascii c scalar = bytes_list c scalar bytes ascii

pub spelled_is_member : {E : Type 0} (bytes : List ℕ) (d : ℕ) → char_at bytes 0 ≡ Some d → len_utf8 d ≡ length bytes → (made : Result Class E) →
    IfOk made (λ class. HasExactly class.ranges.items (in_ranges ((d, d) ∷ []))) → IfOk made (λ class. AreMembersOf (whole (literal bytes)) class.ranges.items)
spelled_is_member bytes d first width (Ok class) exactly = λ c scalar. exactly c (most c scalar) ∙ spelled_lists c scalar bytes d first width
spelled_is_member bytes d first width (Err e) exactly = exactly

pub others_have_no_members : (bytes : List ℕ) → ((d : ℕ) → char_at bytes 0 ≡ Some d → len_utf8 d ≢ length bytes) → (ranges : List Range) → ranges ≡ [] →
    AreMembersOf (whole (literal bytes)) ranges
unfolding in_ranges
others_have_no_members bytes other ranges none c scalar = ap (λ rs. in_ranges rs c) none ∙ others_list_none c scalar bytes other

-- the result is that of the pattern
abbrev pub MadeOf : {E : Type 0} → Re → Result (Option Class) E → Type 0
MadeOf re made = IfOk made (λ found. IfSome found (λ class. AreMembersOf (whole re) class.ranges.items))

pub group_has_members : {E : Type 0} (set : Hir) (index : ℕ) (sub : Box Hir Global) → set ≡ Capture index sub → (inner : Hir) → inner ≡ sub.value →
    (made : Result (Option Class) E) → MadeOf (meaning inner) made → MadeOf (meaning set) made
group_has_members set index sub is inner same (Ok (Some class)) of =
    λ c scalar. of c scalar ∙ in_group c scalar index (meaning inner)
    ∙ ap (λ re. is_some (find_str (whole re) (encode_utf8 c) 0))
    (ap (λ h. group index (meaning h)) same ∙ sym (ap meaning is ∙ meaning-Capture index sub))
group_has_members set index sub is inner same (Ok None) of = of
group_has_members set index sub is inner same (Err e) of = of

pub none_have_no_members : AreMembersOf (whole (alt_all [])) []
unfolding in_ranges
none_have_no_members c scalar = in_none c scalar

pub one_more_has_members : (sets : List Hir) (set : Hir) (ranges more : List Range) → AreMembersOf (whole (alt_all (map meaning sets))) ranges →
    AreMembersOf (whole (meaning set)) more → AreMembersOf (whole (alt_all (map meaning (sets ++ set ∷ [])))) (ranges ++ more)
one_more_has_members sets set ranges more before here c scalar =
    in_ranges-append ranges more c ∙ ap₂ ◌||◌ (before c scalar) (here c scalar) ∙ in_last c scalar (map meaning sets) (meaning set)
    ∙ ap (λ res. is_some (find_str (whole (alt_all res)) (encode_utf8 c) 0)) (sym (map_push meaning sets set))

pub any_have_members : (sets : List Hir) (ranges : List Range) → AreMembersOf (whole (alt_all (map meaning sets))) ranges → (class : Class) →
    HasExactly class.ranges.items (in_ranges ranges) → AreMembersOf (whole (alt_all (map meaning sets))) class.ranges.items
any_have_members sets ranges of class exactly c scalar = exactly c (most c scalar) ∙ of c scalar
