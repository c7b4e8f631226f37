-- A pattern may stand for another that matches alike: a character as its bytes, and neighbours as one literal.
use Rattle.std.proofs.Common.{◌≡◌, ℕ, ◌+◌, Bool, true, false, ◌||◌, ◌&&◌, ◌⊎◌, if◌then◌else◌, List, [], ◌∷◌, ◌++◌, length, drop, Option, Some, None, ◌==◌, nat_lt, option_and_then, encode_utf8, refl, sym, ap, subst, ◌∙◌, arith, inl, inr, eq-eqb, ne_eqb, length-append, append_assoc, drop-drop, lt-ltb}
use Rattle.std.proofs.lemmas.Bool.{both_ways, cases_Bool, cond-false, cond-true, false_from_ne_true, or_left, or_right, and_parts, and_from}
use Rattle.std.proofs.lemmas.Bool.Decides.{nat_tests}
use Rattle.std.proofs.lemmas.Str.{length-encode}
use Rattle.std.proofs.Math.Seq.{drop-append_seam}
use Rattle.std.specs.Char.{IsScalar, len_utf8}
use Rattle.regex_class.specs.Ranges.{in_range, in_ranges}
use Rattle.regex_hir.specs.Text.{char_at, has_bytes_at}
use Rattle.regex_hir.specs.Re.{Re, Rest, Trace, cat, char_in, literal, attempt}
use Rattle.regex_hir.specs.Reads.{always_reads}
use Rattle.regex_hir.proofs.TextLemmas.{char_at_from, char_at_parts, has_bytes_at_from, has_bytes_at_parts}
use Rattle.fancy_meaning.specs.Tree.{Tree}
use Rattle.fancy_meaning.specs.Numbering.{numbered_within}
use Rattle.fancy_meaning.specs.Ways.{ways_with}
use Rattle.fancy_agreement.specs.First.{Means, first_some}
use Rattle.fancy_agreement.specs.Captures.{Agree, Captures}

-- the two match alike, and the second reads where the first does
pub record Alike (a b : Re) : Type 0 where
  pub at : (hay : List ℕ) (k : Rest) (i : ℕ) → attempt hay a k i ≡ attempt hay b k i
  pub reads : always_reads b ≡ true → always_reads a ≡ true

pub means_alike : (u : Bool) (e : Tree) (a b : Re) → Alike a b → Means u e a → Means u e b
means_alike u e a b same m = record {
  at = λ w n q call is s k within. sym (same.at q.text k s.place) ∙ m.at w n q call is s k within;
}

pub captures_alike : (u : Bool) (n : ℕ) (e : Tree) (a b : Re) → Alike a b → Captures u n e a → Captures u n e b
captures_alike u n e a b same c = record {
  at = λ w q call open_groups is below from s slots k next within holds goes.
      subst (λ r. Agree from slots r (first_some next (ways_with q call (numbered_within w n e) s))) (same.at q.text k s.place)
      (c.at w q call open_groups is below from s slots k next within holds
      (λ t new one held starts. goes t new
      (record { on = one.on; within = one.within; moved = λ r. one.moved (same.reads r) }) held starts));
}

pub itself : (c d : ℕ) → in_ranges ((c, c) ∷ []) d ≡ (c == d)
unfolding in_ranges in_range
itself c d = grind (arith, nat_tests)

stands_not : (hay : List ℕ) (k : Rest) (i c : ℕ) → has_bytes_at hay i (encode_utf8 c) ≡ false → (o : Option ℕ) → char_at hay i ≡ o →
    option_and_then (λ d. if in_ranges ((c, c) ∷ []) d then k (i + len_utf8 d) else None) o ≡ None
stands_not hay k i c other None e = refl
stands_not hay k i c nothing (Some d) e =
    cond-false (in_ranges ((c, c) ∷ []) d) (k (i + len_utf8 d)) None (itself c d ∙ ne_eqb c d other)
  where
    other : c ≡ d → ⊥
    other is =
        both_ways _ nothing (has_bytes_at_from hay i (encode_utf8 c) (drop (i + len_utf8 d) hay)
        ((char_at_parts hay i d e).1 ∙ ap (λ x. encode_utf8 x ++ drop (i + len_utf8 d) hay) (sym is)))

pub char_as_bytes : (c : ℕ) → IsScalar c → Alike (char_in ((c, c) ∷ [])) (literal (encode_utf8 c))
unfolding attempt
char_as_bytes c scalar = record { at = λ hay k i. go hay k i (cases_Bool (has_bytes_at hay i (encode_utf8 c))); reads = λ r. refl }
  where
    go : (hay : List ℕ) (k : Rest) (i : ℕ) → (has_bytes_at hay i (encode_utf8 c) ≡ true) ⊎ (has_bytes_at hay i (encode_utf8 c) ≡ false) →
        option_and_then (λ d. if in_ranges ((c, c) ∷ []) d then k (i + len_utf8 d) else None) (char_at hay i)
        ≡ (if has_bytes_at hay i (encode_utf8 c) then k (i + length (encode_utf8 c)) else None)
    go hay k i (inl there) =
        ap (option_and_then (λ d. if in_ranges ((c, c) ∷ []) d then k (i + len_utf8 d) else None))
        (char_at_from hay i c (drop (i + length (encode_utf8 c)) hay) scalar (has_bytes_at_parts hay i (encode_utf8 c) there))
        ∙ cond-true (in_ranges ((c, c) ∷ []) c) (k (i + len_utf8 c)) None (itself c c ∙ eq-eqb c c refl)
        ∙ ap (λ n. k (i + n)) (sym (length-encode c))
        ∙ sym (cond-true (has_bytes_at hay i (encode_utf8 c)) (k (i + length (encode_utf8 c))) None there)
    go hay k i (inr none) =
        stands_not hay k i c none (char_at hay i) refl
        ∙ sym (cond-false (has_bytes_at hay i (encode_utf8 c)) (k (i + length (encode_utf8 c))) None none)

both_stand : (hay : List ℕ) (i : ℕ) (a b : List ℕ) → has_bytes_at hay i (a ++ b) ≡ (has_bytes_at hay i a && has_bytes_at hay (i + length a) b)
both_stand hay i a b = elim (cases_Bool (has_bytes_at hay i (a ++ b))) [
  | inl whole ↦
      let rest = drop (i + length (a ++ b)) hay in
      let is : drop i hay ≡ a ++ (b ++ rest) = has_bytes_at_parts hay i (a ++ b) whole ∙ append_assoc a b rest in
      let second : drop (i + length a) hay ≡ b ++ rest =
      sym (drop-drop (length a) i hay) ∙ ap (drop (length a)) is ∙ drop-append_seam a (b ++ rest) in
      whole ∙ sym (and_from _ _ (has_bytes_at_from hay i a (b ++ rest) is) (has_bytes_at_from hay (i + length a) b rest second))
  | inr none ↦ none ∙ sym (false_from_ne_true _ (λ both. both_ways _ none (joined (and_parts _ _ both))))
]
  where
    joined : (has_bytes_at hay i a ≡ true) × (has_bytes_at hay (i + length a) b ≡ true) → has_bytes_at hay i (a ++ b) ≡ true
    joined both =
        let rest = drop (i + length a + length b) hay in
        has_bytes_at_from hay i (a ++ b) rest
        (has_bytes_at_parts hay i a both.0 ∙ ap (λ l. a ++ l) (has_bytes_at_parts hay (i + length a) b both.1)
        ∙ sym (append_assoc a b rest))

reads_joined : (a b : List ℕ) → nat_lt 0 (length (a ++ b)) ≡ true → (nat_lt 0 (length a) || nat_lt 0 (length b)) ≡ true
reads_joined [] b e = or_right (nat_lt 0 0) (nat_lt 0 (length b)) e
reads_joined (x ∷ a) b e = or_left _ _ (lt-ltb 0 (length (x ∷ a)) (omega arith))

pub literals_join : (a b : List ℕ) → Alike (cat (literal a) (literal b)) (literal (a ++ b))
unfolding attempt
literals_join a b = record {
  at = λ hay k i.
      let step : i + length a + length b ≡ i + length (a ++ b) = omega (arith, length-append a b) in
      ap (λ j. if has_bytes_at hay i a then (if has_bytes_at hay (i + length a) b then k j else None) else None) step
      ∙ nested (has_bytes_at hay i a) (has_bytes_at hay (i + length a) b) (k (i + length (a ++ b)))
      ∙ ap (λ x. if x then k (i + length (a ++ b)) else None) (sym (both_stand hay i a b));
  reads = reads_joined a b;
}
  where
    nested : (x y : Bool) (o : Option Trace) → (if x then (if y then o else None) else None) ≡ (if x && y then o else None)
    nested true y o = refl
    nested false y o = refl
