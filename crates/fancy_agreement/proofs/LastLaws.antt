-- Which patterns leave an end where it began for the last.
use Rattle.std.proofs.Common.{◌≡◌, ℕ, ◌<◌, true, false, ◌&&◌, ◌||◌, ◌⊎◌, if◌then◌else◌, List, [], ◌∷◌, length, Option, Some, None, nat_lt, sym, ap, ◌∙◌, arith, inl, inr, ⊎_elim, lt-ltb, le-ltb, ltb-true}
use Rattle.std.proofs.lemmas.Bool.{and_parts, cases_lt, cond-false, cond-true, false≢true, true≢false, or_cases}
use Rattle.std.proofs.lemmas.Option.{none-some}
use Rattle.regex_class.specs.Ranges.{in_ranges}
use Rattle.regex_hir.specs.Re.{Re, Rest, Trace, empty, literal, byte_in, char_in, look, cat, alt, group, plus, attempt, more_rounds}
use Rattle.regex_hir.specs.Reads.{always_reads}
use Rattle.regex_hir.specs.Matches.{Matches, IsMinLen}
use Rattle.regex_hir.proofs.MatchesLemmas.{IsMinLen-alt, IsMinLen-byte_in, IsMinLen-cat, IsMinLen-char_in, IsMinLen-group, IsMinLen-le, IsMinLen-literal, IsMinLen-plus, IsMinLen-zero, Matches-IsSpan}
use Rattle.regex_hir.proofs.OptionLemmas.{option_cases, option_or_cases, option_or_first, option_or_second}
use Rattle.regex_hir.proofs.AttemptLemmas.{attempt_cong, attempt_none, more_rounds_cong}
use Rattle.fancy_agreement.specs.First.{LeavesLast, leaves_last, never_reads}
use Rattle.fancy_agreement.proofs.LoopLaws.{attempt_plus}

-- what lies further on, and what is met here
abbrev or_here : ℕ → Rest → Option Trace → Rest
or_here i further here j = if nat_lt i j then further j else here

pub reads_one : (re : Re) → always_reads re ≡ true → IsMinLen re 1
reads_one empty e = absurd (false≢true e)
reads_one (literal bs) e = IsMinLen-le (literal bs) 1 (length bs) (ltb-true 0 (length bs) e) (IsMinLen-literal bs)
reads_one (byte_in rs) e = IsMinLen-byte_in rs
reads_one (char_in rs) e = IsMinLen-char_in rs
reads_one (look l) e = absurd (false≢true e)
reads_one (cat a b) e = elim (or_cases (always_reads a) (always_reads b) e) [
  | inl one ↦ IsMinLen-cat a b 1 0 (reads_one a one) (IsMinLen-zero b)
  | inr two ↦ IsMinLen-cat a b 0 1 (IsMinLen-zero a) (reads_one b two)
]
reads_one (alt a b) e =
    let both = and_parts (always_reads a) (always_reads b) e in
    IsMinLen-alt a b 1 (reads_one a both.0) (reads_one b both.1)
reads_one (group n a) e = IsMinLen-group n a 1 (reads_one a e)
reads_one (plus greedy a) e = IsMinLen-plus greedy a 1 (reads_one a e)

pub reads_moves : (re : Re) → always_reads re ≡ true → (hay : List ℕ) (i j : ℕ) → Matches hay re i j → i < j
unfolding IsMinLen
reads_moves re reads hay i j m = omega (arith, reads_one re reads hay i j m)

moves_on : (re : Re) → IsMinLen re 1 → (hay : List ℕ) (i : ℕ) (further : Rest) (a b : Option Trace) →
    attempt hay re (or_here i further a) i ≡ attempt hay re (or_here i further b) i
unfolding IsMinLen
moves_on re long hay i further a b =
    attempt_cong hay re (or_here i further a) (or_here i further b) i
    (λ j m. let moved = lt-ltb i j (omega (arith, long hay i j m)) in
    cond-true (nat_lt i j) (further j) a moved ∙ sym (cond-true (nat_lt i j) (further j) b moved))

pub reading_leaves_last : (re : Re) → IsMinLen re 1 → LeavesLast re
reading_leaves_last re long = record { at = λ hay i further here t e. moves_on re long hay i further here None ∙ e }

stays_put : (re : Re) → never_reads re ≡ true → (hay : List ℕ) (i j : ℕ) → Matches hay re i j → j ≡ i
unfolding in_ranges
stays_put empty e hay i j m = m
stays_put (literal bs) e hay i j m = absurd (false≢true e)
stays_put (byte_in []) e hay i j m = absurd (true≢false (sym m.2))
stays_put (byte_in (r ∷ rs)) e hay i j m = absurd (false≢true e)
stays_put (char_in rs) e hay i j m = absurd (false≢true e)
stays_put (look l) e hay i j m = m.1
stays_put (cat a b) e hay i j m =
    let both = and_parts (never_reads a) (never_reads b) e in
    stays_put b both.1 hay m.0 j m.2 ∙ stays_put a both.0 hay i m.0 m.1
stays_put (alt a b) e hay i j m =
    let both = and_parts (never_reads a) (never_reads b) e in
    ⊎_elim (stays_put a both.0 hay i j) (stays_put b both.1 hay i j) m
stays_put (group n a) e hay i j m = absurd (false≢true e)
stays_put (plus greedy a) e hay i j m = absurd (false≢true e)

gone : (re : Re) → never_reads re ≡ true → (hay : List ℕ) (i : ℕ) (further : Rest) →
    attempt hay re (or_here i further None) i ≡ None
gone re e hay i further =
    attempt_none hay re (or_here i further None) i
    (λ j m. let same = stays_put re e hay i j m in cond-false (nat_lt i j) (further j) None (le-ltb i j (omega (arith, same))))

staying_leaves_last : (re : Re) → never_reads re ≡ true → LeavesLast re
staying_leaves_last re e =
    record { at = λ hay i further here t found. absurd (none-some t (sym (gone re e hay i further) ∙ found)) }

-- what follows a part: further on it is met there, and otherwise here
split : (hay : List ℕ) (a b : Re) (i : ℕ) (further : Rest) (c : Option Trace) →
    attempt hay a (attempt hay b (or_here i further c)) i
    ≡ attempt hay a (or_here i (attempt hay b further) (attempt hay b (or_here i further c) i)) i
split hay a b i further c =
    attempt_cong hay a (attempt hay b (or_here i further c)) (or_here i (attempt hay b further) (attempt hay b (or_here i further c) i)) i
    (λ l m. let on = (Matches-IsSpan hay a i l m).0 in
    let here = attempt hay b (or_here i further c) i in
    elim (cases_lt i l) [
      | inl moved ↦
          attempt_cong hay b (or_here i further c) further l
          (λ j r. let next = (Matches-IsSpan hay b l j r).0 in
          cond-true (nat_lt i j) (further j) c (lt-ltb i j (omega (arith, moved, next))))
          ∙ sym (cond-true (nat_lt i l) (attempt hay b further l) here (lt-ltb i l moved))
      | inr back ↦
          let same : l ≡ i = omega (arith, on, back) in
          ap (attempt hay b (or_here i further c)) same
          ∙ sym (cond-false (nat_lt i l) (attempt hay b further l) here (le-ltb i l back))
    ])

cat_leaves_last : (a b : Re) → LeavesLast a → LeavesLast b → LeavesLast (cat a b)
unfolding attempt
cat_leaves_last a b first second = record {
  at = λ hay i further here t found. both hay i further here t
      (sym (split hay a b i further None) ∙ found) (option_cases (attempt hay b (or_here i further None) i));
}
  where
    both : (hay : List ℕ) (i : ℕ) (further : Rest) (here : Option Trace) (t : Trace) →
        attempt hay a (or_here i (attempt hay b further) (attempt hay b (or_here i further None) i)) i ≡ Some t →
        (attempt hay b (or_here i further None) i ≡ None)
        ⊎ ((w : Trace) × (attempt hay b (or_here i further None) i ≡ Some w)) →
        attempt hay a (attempt hay b (or_here i further here)) i ≡ Some t
    both hay i further here t e (inl none) =
        split hay a b i further here
        ∙ first.at hay i (attempt hay b further) (attempt hay b (or_here i further here) i) t
        (ap (λ o. attempt hay a (or_here i (attempt hay b further) o) i) (sym none) ∙ e)
    both hay i further here t e (inr some) =
        split hay a b i further here
        ∙ ap (λ o. attempt hay a (or_here i (attempt hay b further) o) i)
        (second.at hay i further here some.0 some.1 ∙ sym some.1)
        ∙ e

alt_moves_first : (a b : Re) → IsMinLen a 1 → LeavesLast b → LeavesLast (alt a b)
unfolding attempt
alt_moves_first a b long second = record {
  at = λ hay i further here t found. ⊎_elim
      (λ left. option_or_first _ _ t (moves_on a long hay i further here None ∙ left))
      (λ right. option_or_second _ _ (moves_on a long hay i further here None ∙ right.0) ∙ second.at hay i further here t right.1)
      (option_or_cases (attempt hay a (or_here i further None) i) (attempt hay b (or_here i further None) i) t found);
}

alt_stays_last : (a b : Re) → LeavesLast a → never_reads b ≡ true → LeavesLast (alt a b)
unfolding attempt
alt_stays_last a b first stays = record {
  at = λ hay i further here t found. ⊎_elim
      (λ left. option_or_first _ _ t (first.at hay i further here t left))
      (λ right. absurd (none-some t (sym (gone b stays hay i further) ∙ right.1)))
      (option_or_cases (attempt hay a (or_here i further None) i) (attempt hay b (or_here i further None) i) t found);
}

plus_leaves_last : (a : Re) → LeavesLast a → LeavesLast (plus true a)
plus_leaves_last a first = record {
  at = λ hay i further here t found.
      rounds hay i further here
      ∙ first.at hay i (more_rounds hay true (attempt hay a) further) here t (sym (rounds hay i further None) ∙ found);
}
  where
    rounds : (hay : List ℕ) (i : ℕ) (further : Rest) (c : Option Trace) →
        attempt hay (plus true a) (or_here i further c) i
        ≡ attempt hay a (or_here i (more_rounds hay true (attempt hay a) further) c) i
    rounds hay i further c =
        attempt_plus hay true a (or_here i further c) i
        ∙ attempt_cong hay a _ (or_here i (more_rounds hay true (attempt hay a) further) c) i
        (λ j m. elim (cases_lt i j) [
          | inl moved ↦
              let lt = lt-ltb i j moved in
              let more = more_rounds hay true (attempt hay a) in
              cond-true (nat_lt i j) (more (or_here i further c) j) (or_here i further c j) lt
              ∙ more_rounds_cong hay true a (or_here i further c) further j
              (λ l span. cond-true (nat_lt i l) (further l) c (lt-ltb i l (omega (arith, moved, span.0))))
              ∙ sym (cond-true (nat_lt i j) (more further j) c lt)
          | inr back ↦
              let le = le-ltb i j back in
              let more = more_rounds hay true (attempt hay a) in
              cond-false (nat_lt i j) (more (or_here i further c) j) (or_here i further c j) le
              ∙ cond-false (nat_lt i j) (further j) c le
              ∙ sym (cond-false (nat_lt i j) (more further j) c le)
        ])

by_form : (re : Re) → (always_reads re || never_reads re) ≡ true → LeavesLast re
by_form re e = ⊎_elim (λ one. reading_leaves_last re (reads_one re one)) (staying_leaves_last re)
    (or_cases (always_reads re) (never_reads re) e)

pub leaves_last_holds : (re : Re) → leaves_last re ≡ true → LeavesLast re
leaves_last_holds empty e = by_form empty e
leaves_last_holds (literal bs) e = by_form (literal bs) e
leaves_last_holds (byte_in rs) e = reading_leaves_last (byte_in rs) (IsMinLen-byte_in rs)
leaves_last_holds (char_in rs) e = reading_leaves_last (char_in rs) (IsMinLen-char_in rs)
leaves_last_holds (look l) e = by_form (look l) e
leaves_last_holds (group n a) e = by_form (group n a) e
leaves_last_holds (cat a b) e = elim (or_cases (always_reads (cat a b)) (leaves_last a && leaves_last b) e) [
  | inl reads ↦ reading_leaves_last (cat a b) (reads_one (cat a b) reads)
  | inr both ↦
      let parts = and_parts (leaves_last a) (leaves_last b) both in
      cat_leaves_last a b (leaves_last_holds a parts.0) (leaves_last_holds b parts.1)
]
leaves_last_holds (alt a b) e =
    elim (or_cases (always_reads a && leaves_last b) (leaves_last a && never_reads b) e) [
      | inl front ↦
          let parts = and_parts (always_reads a) (leaves_last b) front in
          alt_moves_first a b (reads_one a parts.0) (leaves_last_holds b parts.1)
      | inr back ↦
          let parts = and_parts (leaves_last a) (never_reads b) back in
          alt_stays_last a b (leaves_last_holds a parts.0) parts.1
    ]
leaves_last_holds (plus true a) e = elim (or_cases (always_reads a) (leaves_last a) e) [
  | inl reads ↦ reading_leaves_last (plus true a) (reads_one (plus true a) reads)
  | inr last ↦ plus_leaves_last a (leaves_last_holds a last)
]
leaves_last_holds (plus false a) e = elim (or_cases (always_reads a) false e) [
  | inl reads ↦ reading_leaves_last (plus false a) (reads_one (plus false a) reads)
  | inr none ↦ absurd (false≢true none)
]
