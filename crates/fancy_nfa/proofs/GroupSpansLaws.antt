-- The spans of groups, by their place in a list.
use Rattle.std.proofs.Common.{◌≡◌, ◌<◌, ◌+◌, ℕ, zero, suc, List, [], ◌∷◌, ◌++◌, length, slice_set, reverse, Option, Some, None, nat_eq, if◌then◌else◌, refl, sym, ap, ◌∙◌, ⊎_elim, arith, eq-eqb, ne_eqb, map, Less}
use Rattle.std.proofs.lemmas.Bool.{cond-true, cond-false}
use Rattle.std.proofs.lemmas.Bool.Decides.{eqb_tells}
use Rattle.std.proofs.lemmas.Cmp.{ranked}
use Rattle.std.specs.Map.{keys_of}
use Rattle.std.specs.Ordering.{nat_cmp}
use Rattle.std.specs.List.Sorted.{IsStrictlySortedBy}
use Rattle.std.proofs.lemmas.List.{reverse-append}
use Rattle.fancy_meaning.specs.MatchState.{Span, put}
use Rattle.fancy_nfa_laws.specs.FirstWays.{spans_of}
use Rattle.fancy_nfa.specs.GroupSpans.{span_from}
use Rattle.fancy_nfa.specs.Ways.{Ascends, listed, span_entry}

-- a group that has no span more
pub span_grown : (spans : List (Option Span)) (first g : ℕ) → span_from first (spans ++ None ∷ []) g ≡ span_from first spans g
span_grown [] first g =
    ⊎_elim (λ same. cond-true (nat_eq g first) _ _ same.0) (λ apart. cond-false (nat_eq g first) _ _ apart.0) (eqb_tells g first)
span_grown (span ∷ spans) first g = ap (λ other. if nat_eq g first then span else other) (span_grown spans (first + 1) g)

-- no group before the first one has a span
pub none_before : (spans : List (Option Span)) (first g : ℕ) → g < first → span_from first spans g ≡ None
none_before [] first g before = refl
none_before (span ∷ spans) first g before =
    cond-false (nat_eq g first) _ _ (ne_eqb g first (λ e. omega (arith, before, e)))
    ∙ none_before spans (first + 1) g (omega (arith, before))

-- a group that has another span
pub span_set : (spans : List (Option Span)) (first i : ℕ) (span : Option Span) (g : ℕ) → i < length spans →
    span_from first (slice_set spans i span) g ≡ put (first + i) span (span_from first spans) g
span_set [] first i span g inside = absurd (omega (arith, inside))
span_set (other ∷ spans) first zero span g inside =
    ⊎_elim
    (λ same. cond-true (nat_eq g first) _ _ same.0 ∙ sym (cond-true (nat_eq g (first + 0)) _ _ (eq-eqb g (first + 0) (let e = same.1 in omega (arith, e)))))
    (λ apart.
    cond-false (nat_eq g first) _ _ apart.0
    ∙ sym (cond-false (nat_eq g (first + 0)) _ _ (ne_eqb g (first + 0) (λ e. apart.1 (omega (arith, e))))
    ∙ cond-false (nat_eq g first) _ _ apart.0))
    (eqb_tells g first)
span_set (other ∷ spans) first (suc i) span g inside =
    ⊎_elim
    (λ same.
    cond-true (nat_eq g first) _ _ same.0
    ∙ sym (cond-false (nat_eq g (first + suc i)) _ _ (ne_eqb g (first + suc i) (λ e. let f = same.1 in omega (arith, e, f)))
    ∙ cond-true (nat_eq g first) _ _ same.0))
    (λ apart.
    cond-false (nat_eq g first) _ _ apart.0
    ∙ span_set spans (first + 1) i span g (omega (arith, inside))
    ∙ ap (λ n. put n span (span_from (first + 1) spans) g) {x = first + 1 + i} {y = first + suc i} (omega arith)
    ∙ ap (λ o. if nat_eq g (first + suc i) then span else o) (sym (cond-false (nat_eq g first) _ _ apart.0)))
    (eqb_tells g first)

-- a group that was closed
pub span_closed : (before : ℕ → Option Span) (spans : List (ℕ × Span)) (group : ℕ) (span : Span) →
    ((g : ℕ) → before g ≡ spans_of spans g) →
    (g : ℕ) → put group (Some span) before g ≡ spans_of ((group, span) ∷ spans) g
span_closed before spans group span same g = ap (λ o. if nat_eq g group then Some span else o) (same g)

-- the last one is the first, the other way about
pub reversed : (before new : List ℕ) (x : ℕ) → new ≡ before ++ x ∷ [] → reverse new ≡ x ∷ reverse before
reversed before new x is = ap reverse is ∙ reverse-append before (x ∷ [])

-- where the first group has no span
pub span_none : (spans : List (Option Span)) (first g : ℕ) → span_from first (None ∷ spans) g ≡ span_from (first + 1) spans g
span_none spans first g =
    ⊎_elim
    (λ same.
    cond-true (nat_eq g first) _ _ same.0
    ∙ sym (none_before spans (first + 1) g (let e = same.1 in omega (arith, e))))
    (λ apart. cond-false (nat_eq g first) _ _ apart.0) (eqb_tells g first)

-- ---- spans by ascending number

below_none : (g : ℕ) (rest : List (ℕ × ℕ × ℕ)) → IsStrictlySortedBy nat_cmp (g ∷ keys_of (map span_entry rest)) → listed rest g ≡ None
unfolding IsStrictlySortedBy
below_none g [] h = refl
below_none g (e ∷ rest) h =
    let above : g < e.0 = ranked g e.0 Less (sym h.0.0) in
    cond-false (nat_eq g e.0) _ _ (ne_eqb g e.0 (λ same. omega (arith, above, same)))
    ∙ below_none g rest (h.0.1, h.1.1)

-- the first of ascending groups is not among the others, and these ascend
pub ascend_on : (span : ℕ × ℕ × ℕ) (rest : List (ℕ × ℕ × ℕ)) → Ascends (span ∷ rest) → (listed rest span.0 ≡ None) × Ascends rest
unfolding IsStrictlySortedBy
ascend_on span rest h = (below_none span.0 rest h, h.1)

-- this one, or else the other
abbrev pub or_else : Option Span → Option Span → Option Span
or_else None other = other
or_else (Some span) other = Some span

pub or_none : (o : Option Span) → or_else o None ≡ o
or_none None = refl
or_none (Some span) = refl

-- the first of them is held, and the others are still to be
pub listed_more : (e : ℕ × ℕ × ℕ) (rest : List (ℕ × ℕ × ℕ)) (held : ℕ → Option Span) (g : ℕ) → listed rest e.0 ≡ None →
    or_else (listed rest g) (put e.0 (Some (e.1, e.2)) held g) ≡ or_else (listed (e ∷ rest) g) (held g)
listed_more e rest held g unlisted =
    let span : Option Span = Some (e.1, e.2) in
    ⊎_elim
    (λ same.
    ap (λ o. or_else o (put e.0 span held g)) (ap (listed rest) same.1 ∙ unlisted)
    ∙ cond-true (nat_eq g e.0) span (held g) same.0
    ∙ sym (ap (λ o. or_else o (held g)) (cond-true (nat_eq g e.0) span (listed rest g) same.0)))
    (λ apart.
    ap (or_else (listed rest g)) (cond-false (nat_eq g e.0) span (held g) apart.0)
    ∙ sym (ap (λ o. or_else o (held g)) (cond-false (nat_eq g e.0) span (listed rest g) apart.0)))
    (eqb_tells g e.0)
