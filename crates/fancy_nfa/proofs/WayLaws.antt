-- The spans of a way: what a map of them has after each entry of the path, and what the list of its entries has.
use Rattle.std.proofs.Common.{◌≡◌, ◌≤◌, ◌<◌, ◌+◌, ◌∷◌, ◌++◌, [], ℕ, zero, suc, Bool, true, false, List, Option, Some, length, map, slice_index, subst, take, get_or, refl, sym, ap, ◌∙◌, arith}
use Rattle.std.proofs.lemmas.Bool.{cond-true, cond-false}
use Rattle.std.proofs.lemmas.Bool.Decides.{nat_tests}
use Rattle.std.proofs.lemmas.Map.Keys.{sorted_from_strictly_increasing}
use Rattle.std.proofs.Math.Numerals.{suc-eq-add-one}
use Rattle.std.proofs.Math.Seq.{take-suc}
use Rattle.std.specs.Prelude.{cond, nat_eq, ◌==◌}
use Rattle.std.specs.BTreeMap.{is_at}
use Rattle.std.specs.Cmp.{nat_eq_equiv, unsigned_tied}
use Rattle.std.specs.Map.{keys_of, lookup}
use Rattle.std.specs.Ordering.{nat_cmp}
use Rattle.fancy_nfa.specs.Ways.{Ascends, listed, span_entry}
use Rattle.fancy_meaning.specs.MatchState.{Span}
use Rattle.fancy_nfa_laws.specs.FirstWays.{spans_of}
use Rattle.fancy_backtrack.specs.Paths.{closed_after}
use Rattle.fancy_backtrack.specs.declared.trail.Entry.{Entry}
use Rattle.fancy_backtrack.specs.declared.trail.Entry.TheVariants as entry
use Rattle.fancy_backtrack.proofs.MemoLaws.{closed_append}

-- by the test of a map of numbers and by equality
pub lookup_tied : (g : ℕ) (es : List (ℕ × Span)) → lookup (nat_eq g) es ≡ lookup (is_at (nat_cmp g)) es
lookup_tied g [] = refl
lookup_tied g (e ∷ es) =
    ap (λ v. cond v (Some e.1) (lookup (nat_eq g) es)) (sym (unsigned_tied g e.0))
    ∙ ap (λ rest. cond (is_at (nat_cmp g) e.0) (Some e.1) rest) (lookup_tied g es)

closed_more : (es : List Entry) (i : ℕ) (d : Entry) → i < length es →
    closed_after [] (take (i + 1) es) ≡ closed_after (closed_after [] (take i es)) (get_or es i d ∷ [])
closed_more es i d below =
    ap (λ n. closed_after [] (take n es)) (sym (suc-eq-add-one i))
    ∙ ap (closed_after []) (take-suc es i d below) ∙ closed_append [] (take i es) (get_or es i d ∷ [])

closed_none : (e : Entry) (before : List (ℕ × Span)) →
    ((group from to : ℕ) → e ≡ entry.Closed group from to → ⊥) → closed_after before (e ∷ []) ≡ before
closed_none (entry.Closed group from to) before apart = absurd (apart group from to refl)
closed_none (entry.LoopCounter link counter) before apart = refl
closed_none (entry.Opened link from) before apart = refl

module _ (es : List Entry) (i g : ℕ) (had has : Option Span) (below : i < length es)
    (e : had ≡ spans_of (closed_after [] (take i es)) g) where
  -- a map takes the span of a group that was closed
  pub spans_put : (d : Entry) (group from to : ℕ) → get_or es i d ≡ entry.Closed group from to →
      has ≡ cond (is_at (nat_cmp group) g) (Some (from, to)) had →
      has ≡ spans_of (closed_after [] (take (i + 1) es)) g
  spans_put d group from to is put =
      let before = closed_after [] (take i es) in
      put ∙ ap (λ v. cond v (Some (from, to)) had) (unsigned_tied group g ∙ nat_eq_equiv.symm group g)
      ∙ ap (λ o. cond (g == group) (Some (from, to)) o) e
      ∙ ap (λ x. spans_of (closed_after before (x ∷ [])) g) (sym is)
      ∙ ap (λ spans. spans_of spans g) (sym (closed_more es i d below))

  -- no group was closed
  pub spans_stay : (d : Entry) → ((group from to : ℕ) → get_or es i d ≡ entry.Closed group from to → ⊥) →
      had ≡ spans_of (closed_after [] (take (i + 1) es)) g
  spans_stay d apart =
      e ∙ ap (λ spans. spans_of spans g)
      (sym (closed_none (get_or es i d) (closed_after [] (take i es)) apart) ∙ sym (closed_more es i d below))

-- ---- groups that are closed in ascending order

-- each group of the list comes before this number
abbrev pub AreBelow : ℕ → List (ℕ × ℕ × ℕ) → Type 0
AreBelow n [] = Unit {0}
AreBelow n (x ∷ xs) = (x.0 < n) × AreBelow n xs

-- each group of the list comes before those behind it
abbrev pub Rise : List (ℕ × ℕ × ℕ) → Type 0
Rise [] = Unit {0}
Rise (x ∷ []) = Unit {0}
Rise (x ∷ y ∷ ys) = (x.0 < y.0) × Rise (y ∷ ys)

-- the groups of a list, one by one
abbrev groups : List (ℕ × ℕ × ℕ) → List ℕ
groups spans = keys_of (map span_entry spans)

increase : (spans : List (ℕ × ℕ × ℕ)) → Rise spans → (k : ℕ) → suc k < length (groups spans) →
    slice_index (groups spans) k < slice_index (groups spans) (suc k)
increase [] h k lt = absurd (omega (arith, lt))
increase (x ∷ []) h k lt = absurd (omega (arith, lt))
increase (x ∷ y ∷ ys) h zero lt = h.0
increase (x ∷ y ∷ ys) h (suc k) lt = increase (y ∷ ys) h.1 k (omega (arith, lt))

pub ascends_by : (spans : List (ℕ × ℕ × ℕ)) → Rise spans → Ascends spans
ascends_by spans h = sorted_from_strictly_increasing (groups spans)
    (λ k lt. subst (λ i. slice_index (groups spans) k < slice_index (groups spans) i) (suc-eq-add-one k)
    (increase spans h k (subst (λ i. i < length (groups spans)) (sym (suc-eq-add-one k)) lt)))

module _ (n group from to : ℕ) (le : n ≤ group) where
  -- the list with one more group
  abbrev pub added : List (ℕ × ℕ × ℕ) → List (ℕ × ℕ × ℕ)
  added spans = spans ++ ((group, from, to) ∷ [])

  pub below_more : (spans : List (ℕ × ℕ × ℕ)) → AreBelow n spans → AreBelow (group + 1) (added spans)
  below_more [] h = (omega arith, tt)
  below_more (x ∷ xs) h = (let lt = h.0 in omega (arith, lt, le), below_more xs h.1)

  pub rise_more : (spans : List (ℕ × ℕ × ℕ)) → AreBelow n spans → Rise spans → Rise (added spans)
  rise_more [] below h = tt
  rise_more (x ∷ []) below h = (let lt = below.0 in omega (arith, lt, le), tt)
  rise_more (x ∷ y ∷ ys) below h = (h.0, rise_more (y ∷ ys) below.1 h.1)

  put_before : (g : ℕ) (x : ℕ × ℕ × ℕ) (rest : Option Span) (more : Option Span) → x.0 < n →
      more ≡ cond (g == group) (Some (from, to)) rest → (b : Bool) → (g == x.0) ≡ b →
      cond (g == x.0) (Some (x.1, x.2)) more ≡ cond (g == group) (Some (from, to)) (cond (g == x.0) (Some (x.1, x.2)) rest)
  put_before g x rest more lt e true is =
      let apart : (g == group) ≡ false = grind (arith, nat_tests) in
      cond-true (g == x.0) _ _ is ∙ sym (cond-false (g == group) _ _ apart ∙ cond-true (g == x.0) _ _ is)
  put_before g x rest more lt e false is =
      cond-false (g == x.0) _ _ is ∙ e ∙ ap (λ (o : Option Span). cond (g == group) (Some (from, to)) o) (sym (cond-false (g == x.0) _ _ is))

  pub listed_more : (g : ℕ) (spans : List (ℕ × ℕ × ℕ)) → AreBelow n spans →
      listed (added spans) g ≡ cond (g == group) (Some (from, to)) (listed spans g)
  listed_more g [] below = refl
  listed_more g (x ∷ xs) below = put_before g x (listed xs g) (listed (added xs) g) below.0 (listed_more g xs below.1) (g == x.0) refl

-- the list takes the span of a group that was closed behind the others
pub closed_put : (es : List Entry) (i g n group from to : ℕ) (spans : List (ℕ × ℕ × ℕ)) (d : Entry) → i < length es → n ≤ group →
    AreBelow n spans → listed spans g ≡ spans_of (closed_after [] (take i es)) g → get_or es i d ≡ entry.Closed group from to →
    listed (spans ++ ((group, from, to) ∷ [])) g ≡ spans_of (closed_after [] (take (i + 1) es)) g
closed_put es i g n group from to spans d below le are had is =
    let before = closed_after [] (take i es) in
    listed_more n group from to le g spans are
    ∙ ap (λ o. cond (g == group) (Some (from, to)) o) had
    ∙ ap (λ x. spans_of (closed_after before (x ∷ [])) g) (sym is)
    ∙ ap (λ spans. spans_of spans g) (sym (closed_more es i d below))
