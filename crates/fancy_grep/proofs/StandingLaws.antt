-- Where what is looked for stands in a text, and in its lines.
use Rattle.std.proofs.Common.{◌≡◌, ⊎_elim, inl, inr, ℕ, ◌+◌, ◌-◌, ◌<◌, ◌≤◌, Bool, true, false, List, [], ◌∷◌, ◌++◌, take, drop, length, slice_index, slice_index_or, refl, sym, ap, subst, ◌∙◌, arith, take_all, take_at, append_assoc, take-append-drop, drop_of_length-le, length-take, get_or, drop-drop, length-append, length-drop}
use Rattle.std.specs.List.{after_first, before_first, position_or_len}
use Rattle.std.proofs.lemmas.Bool.{cases_lt, false≢true}
use Rattle.std.proofs.lemmas.List.{drop-append-le, drop_all, drop_more, nil_from_length}
use Rattle.memchr.specs.Find.{NoneBefore, Nowhere, OccursAt}
use Rattle.memchr.proofs.lemmas.MatchLemmas.{OccursAt-from_part}
use Rattle.regex_hir.specs.Text.{has_bytes_at}
use Rattle.regex_hir.proofs.TextLemmas.{has_bytes_at_from, has_bytes_at_parts}
use Rattle.fancy_literals.specs.Required.{Lacks, OneOf, Piece, Required, begins_among, stands_at}
use Rattle.fancy_literals.proofs.ByteLaw.{begins_on}
use Rattle.fancy_grep.specs.Lines.{Line, is_newline, lines, numbered}
use Rattle.fancy_grep.specs.Standing.{IsLineIn, StandsNowhere}
use Rattle.fancy_grep.proofs.LineLaws.{cuts, none_left, numbered_step}

module _ (literal text : List ℕ) where
  -- where it stands in the text it stands in what follows an earlier byte
  occurs_after : (start i : ℕ) → start ≤ i → i ≤ length text → has_bytes_at text i literal ≡ true →
      OccursAt (drop start text) literal (i - start)
  occurs_after start i le within h =
      let after : List ℕ = drop (i + length literal) text in
      let e : drop i text ≡ literal ++ after = has_bytes_at_parts text i literal h in
      let same : start + (i - start) ≡ i = omega (arith, le) in
      let there : drop (i - start) (drop start text) ≡ drop i text =
      drop-drop (i - start) start text ∙ ap (λ n. drop n text) same in
      OccursAt-from_part (drop start text) literal (i - start)
      (omega (arith, le, within, ap length e, length-drop i text, length-drop start text, length-append literal after))
      (ap (take (length literal)) (there ∙ e) ∙ take_at literal after (length literal) refl)

  pub stands_not_before : (start at n : ℕ) → NoneBefore (OccursAt (drop start text) literal) 0 n at →
      StandsNowhere (Piece literal) text start (start + at)
  stands_not_before start at n none i from to within h =
      none.before (i - start) (omega arith) (omega (arith, from, to)) (occurs_after start i from within h)

  pub stands_nowhere : (start next : ℕ) → Nowhere (OccursAt (drop start text) literal) 0 (length (drop start text) + 1) →
      StandsNowhere (Piece literal) text start next
  stands_nowhere start next none i from to within h =
      none (i - start) (omega arith) (omega (arith, from, within, length-drop start text)) (occurs_after start i from within h)

  pub past_the_text : (start next : ℕ) → length text < start → StandsNowhere (Piece literal) text start next
  past_the_text start next lt i from to within h = absurd (omega (arith, lt, from, within))

-- ---- a set of bytes

module _ (bytes : List Bool) (text : List ℕ) where
  -- none stands in what is left at the end
  none_at_end : (i : ℕ) → length text ≤ i → stands_at (OneOf bytes) text i ≡ true → ⊥
  none_at_end i over h = false≢true (sym (ap (begins_among bytes) (drop_all i text over)) ∙ h)

  pub one_passed : (start at : ℕ) → at < length text → slice_index_or bytes (slice_index text at) false ≡ false →
      StandsNowhere (OneOf bytes) text start at → StandsNowhere (OneOf bytes) text start (at + 1)
  one_passed start at inside other none i from to within h =
      elim (cases_lt i at) [
        | inl before ↦ none i from before within h
        | inr here ↦
            let same : i ≡ at = omega (arith, here, to) in
            false≢true (sym (ap (begins_among bytes) (ap (λ n. drop n text) same ∙ drop_more text at 0 inside) ∙ other) ∙ h)
      ]

  pub all_passed : (start at next : ℕ) → length text ≤ at → StandsNowhere (OneOf bytes) text start at →
      StandsNowhere (OneOf bytes) text start next
  all_passed start at next over none i from to within h =
      elim (cases_lt i at) [
        | inl before ↦ none i from before within h
        | inr past ↦ none_at_end i (omega (arith, over, past)) h
      ]

-- ---- in a line

-- what stands behind a text stands at its beginning too, since it is empty
stands_first : (r : Required) (text : List ℕ) (i : ℕ) → length text < i → stands_at r text i ≡ true → stands_at r text 0 ≡ true
stands_first (Piece literal) text i lt h =
    let after : List ℕ = drop (i + length literal) text in
    let e : drop i text ≡ literal ++ after = has_bytes_at_parts text i literal h in
    let empty : literal ≡ [] =
    nil_from_length literal (omega (arith, lt, ap length e, length-drop i text, length-append literal after)) in
    has_bytes_at_from text 0 literal text (sym (ap (λ m. m ++ text) empty))
stands_first (OneOf bytes) text i lt h = absurd (none_at_end bytes text i (omega (arith, lt)) h)

-- what stands in a part of a text stands in the text
stands_in_part : (r : Required) (text part after : List ℕ) (i j : ℕ) → drop j text ≡ drop i part ++ after → stands_at r part i ≡ true →
    stands_at r text j ≡ true
stands_in_part (Piece literal) text part after i j there h =
    let rest : List ℕ = drop (i + length literal) part in
    has_bytes_at_from text j literal (rest ++ after)
    (there ∙ ap (λ m. m ++ after) (has_bytes_at_parts part i literal h) ∙ append_assoc literal rest after)
stands_in_part (OneOf bytes) text part after i j there h = ap (begins_among bytes) there ∙ begins_on bytes (drop i part) after h

-- a line that ends before it stands next lacks it
module _ (r : Required) (text : List ℕ) (from next : ℕ) (l : Line) (none : StandsNowhere r text from next) (is : IsLineIn text l)
    (le : from ≤ l.start) (past : l.start + length l.text < next) where
  stands_not : (i : ℕ) → i ≤ length l.text → stands_at r l.text i ≡ true → ⊥
  stands_not i within h =
      let there : drop (l.start + i) text ≡ drop i l.text ++ is.after =
      sym (drop-drop i l.start text) ∙ ap (drop i) is.stands ∙ drop-append-le i l.text is.after within in
      none (l.start + i) (omega (arith, le)) (omega (arith, within, past))
      (omega (arith, within, is.within, ap length is.stands, length-drop l.start text, length-append l.text is.after))
      (stands_in_part r text l.text is.after i (l.start + i) there h)

  pub line_lacks : Lacks r l.text
  line_lacks i any h =
      ⊎_elim
      (λ (lt : length l.text < i). stands_not 0 (omega arith) (stands_first r l.text i lt h))
      (λ (ge : i ≤ length l.text). stands_not i ge h)
      (cases_lt (length l.text) i)

-- what follows a byte, as a slice has it
pub after_byte : (text : List ℕ) (start : ℕ) → take (length text - start) (drop start text) ≡ drop start text
after_byte text start = take_all (length text - start) (drop start text) (omega (arith, length-drop start text))

-- ---- each line stands in its text

module _ (whole rest : List ℕ) (s : ℕ) (within : s ≤ length whole) (is : drop s whole ≡ rest) where
  first_stands : (n : ℕ) → IsLineIn whole (record { number = n; start = s; text = before_first is_newline rest })
  first_stands n = record {
    within = within;
    after = drop (position_or_len is_newline rest) rest;
    stands = is ∙ sym (take-append-drop (position_or_len is_newline rest) rest);
  }

  others_stand : drop (s + (length rest - length (after_first is_newline rest))) whole ≡ after_first is_newline rest
  others_stand =
      let k = position_or_len is_newline rest in
      let passed : ℕ = length rest - length (after_first is_newline rest) in
      sym (drop-drop passed s whole) ∙ ap (drop passed) is ∙ ⊎_elim
      (λ none. drop_of_length-le rest (omega (arith, ap length none)) ∙ sym none)
      (λ more. ap (λ d. drop d rest) (omega (arith, more, length-take k rest, length-drop (k + 1) rest)))
      (cuts rest)

-- a text with a line is not empty
has_bytes : (before : List Line) (n s : ℕ) (rest : List ℕ) (l : Line) (after : List Line) → numbered n s (lines rest) ≡ before ++ l ∷ after →
    0 < length rest
has_bytes before n s rest l after e =
    ⊎_elim (λ (some : 0 < length rest). some)
    (λ (none : length rest ≤ 0). absurd (omega (
      arith,
      ap length (sym (none_left n s rest (omega (arith, none))) ∙ e),
      length-append before (l ∷ after),
    )))
    (cases_lt 0 (length rest))

pub line_in_text : (whole : List ℕ) (before : List Line) (n s : ℕ) (rest : List ℕ) (l : Line) (after : List Line) →
    s ≤ length whole → drop s whole ≡ rest → numbered n s (lines rest) ≡ before ++ l ∷ after → IsLineIn whole l
line_in_text whole [] n s rest l after within is e =
    let some = has_bytes [] n s rest l after e in
    let both = sym (numbered_step n s (s + (length rest - length (after_first is_newline rest))) rest some refl) ∙ e in
    subst (IsLineIn whole) (ap (λ ls. get_or ls 0 l) both) (first_stands whole rest s within is n)
line_in_text whole (b ∷ before) n s rest l after within is e =
    let some = has_bytes (b ∷ before) n s rest l after e in
    let t : ℕ = s + (length rest - length (after_first is_newline rest)) in
    let both = sym (numbered_step n s t rest some refl) ∙ e in
    line_in_text whole before (n + 1) t (after_first is_newline rest) l after
    (omega (arith, within, ap length is, length-drop s whole)) (others_stand whole rest s within is) (ap (drop 1) both)
