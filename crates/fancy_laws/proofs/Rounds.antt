-- Each round of sizes is at least as close as the one before: what a call goes by allows all that its target takes.
use Rattle.std.proofs.Common.{◌≡◌, ◌≢◌, ℕ, zero, suc, ◌+◌, ◌*◌, ◌≤◌, inl, inr, ⊎_elim, true, false, ◌&&◌, List, [], ◌∷◌, length, map, replicate, Option, Some, None, slice_index_or, ◌==◌, refl, sym, ap, subst, ◌∙◌, arith, eqb-true, eq-eqb, ne_eqb}
use Rattle.std.proofs.lemmas.Bool.{and_parts, and_from, false≢true, cond-true, cond-false, cond_both}
use Rattle.std.proofs.lemmas.Bool.Decides.{eqb_tells}
use Rattle.std.proofs.Math.Nat.{mul-le-mul_right}
use Rattle.fancy_meaning.specs.Tree.{Tree, Trees, none, more, Any, GeneralNewline, Literal, LiteralBytes, Delegate, Concat, Alt, Group, Repeat, Backref, BackrefWithLevel, AtomicGroup, AbsentRepeater, AbsentExpression, Conditional, SubroutineCall}
use Rattle.fancy_meaning.specs.Nodes.{target, group_count}
use Rattle.fancy_meaning.specs.Places.{range_from}
use Rattle.fancy_meaning.specs.Sizes.{Size, Known, saturated, exactly, between, plus, either, sum_of, any_of, most_times, is_exact, times, unknown, size_of_target, size_of_group, size_by, each_size, size_in_round, next_round, after_rounds, known_of, size}
use Rattle.fancy_meaning.specs.Numbers.{usize_max}
use Rattle.fancy_meaning.specs.Premises.{IsSized}
use Rattle.fancy_laws.proofs.SizeRules.{IsBounded}

-- what is within the fine size is within the coarse one
pub record Refines (fine coarse : Size) : Type 0 where
  pub least : coarse.least ≤ fine.least
  pub most : fine.most ≤ coarse.most
  pub exact : coarse.is_const ≡ true → (fine.is_const ≡ true) × (fine.least ≡ coarse.least)
  pub bounded : IsBounded coarse

pub sized_refined : (fine coarse : Size) (n : ℕ) → Refines fine coarse → IsSized fine n → IsSized coarse n
sized_refined fine coarse n r h = record {
  at_least = omega (arith, r.least, h.at_least);
  at_most = ⊎_elim (λ e. inl (omega (arith, e, r.most, r.bounded))) (λ le. inr (omega (arith, le, r.most))) h.at_most;
  exact = λ const below. let same = r.exact const in h.exact same.0 (omega (arith, same.1, below)) ∙ same.1;
}

pub refines_unknown : (z : Size) → IsBounded z → Refines z unknown
refines_unknown z b = record { least = omega arith; most = b; exact = λ e. absurd (false≢true e); bounded = omega arith }

-- ---- the sizes of nodes keep the order

same_size : (z : Size) → IsBounded z → Refines z z
same_size z b = record { least = omega arith; most = omega arith; exact = λ e. (e, refl); bounded = b }

plus_refines : (a b c d : Size) → Refines a c → Refines b d → Refines (plus a b) (plus c d)
plus_refines a b c d r s = record {
  least = omega (arith, r.least, s.least);
  most = omega (arith, r.most, s.most);
  exact = λ e.
      let both = and_parts c.is_const d.is_const e in
      let x = r.exact both.0 in
      let y = s.exact both.1 in
      (and_from a.is_const b.is_const x.0 y.0, omega (arith, x.1, y.1));
  bounded = omega arith;
}

either_refines : (a b c d : Size) → Refines a c → Refines b d → Refines (either a b) (either c d)
either_refines a b c d r s = record {
  least = omega (arith, r.least, s.least);
  most = omega (arith, r.most, s.most);
  exact = λ e.
      let last = and_parts (c.is_const && d.is_const) (c.least == d.least) e in
      let both = and_parts c.is_const d.is_const last.0 in
      let x = r.exact both.0 in
      let y = s.exact both.1 in
      let same : a.least ≡ b.least = x.1 ∙ eqb-true c.least d.least last.1 ∙ sym y.1 in (
        and_from (a.is_const && b.is_const) (a.least == b.least) (and_from a.is_const b.is_const x.0 y.0)
            (eq-eqb a.least b.least same),
        omega (arith, x.1, y.1),
      );
  bounded = omega (arith, r.bounded, s.bounded);
}

most_times_refines : (m k : ℕ) (hi : Option ℕ) → m ≤ k → k ≤ usize_max →
    (most_times m hi ≤ most_times k hi) × (most_times k hi ≤ usize_max)
most_times_refines m k None le b = (omega arith, omega arith)
most_times_refines m k (Some hi) le b = ⊎_elim
    (λ same. let e = cond-true (k == usize_max) usize_max (saturated (k * hi)) same.0 in
    (omega (arith, e, within m), omega (arith, e)))
    (λ (other : (k == usize_max ≡ false) × (k ≢ usize_max)).
    let below : m ≢ usize_max = λ e. other.1 (omega (arith, e, le, b)) in
    let e = cond-false (k == usize_max) usize_max (saturated (k * hi)) other.0 in
    let f = cond-false (m == usize_max) usize_max (saturated (m * hi)) (ne_eqb m usize_max below) in
    (omega (arith, e, f, mul-le-mul_right hi le), omega (arith, e)))
    (eqb_tells k usize_max)
  where
    within : (n : ℕ) → most_times n (Some hi) ≤ usize_max
    within n = cond_both (n == usize_max) usize_max (saturated (n * hi)) (λ x. x ≤ usize_max) (λ e. omega arith) (λ e. omega arith)

times_refines : (lo : ℕ) (hi : Option ℕ) (a c : Size) → Refines a c → Refines (times lo hi a) (times lo hi c)
times_refines lo hi a c r =
    let most = most_times_refines a.most c.most hi r.most r.bounded in
    record {
      least = omega (arith, mul-le-mul_right lo r.least);
      most = most.0;
      exact = λ e.
          let both = and_parts c.is_const (is_exact lo hi) e in
          let x = r.exact both.0 in
          (and_from a.is_const (is_exact lo hi) x.0 both.1, ap (λ n. saturated (n * lo)) x.1);
      bounded = most.1;
    }

-- as many sizes, each a refinement
abbrev AllRefine : List Size → List Size → Type 0
AllRefine [] [] = Unit {0}
AllRefine (a ∷ fine) (c ∷ coarse) = Refines a c × AllRefine fine coarse
AllRefine [] (c ∷ coarse) = ⊥
AllRefine (a ∷ fine) [] = ⊥

sum_refines : (fine coarse : List Size) → AllRefine fine coarse → Refines (sum_of fine) (sum_of coarse)
sum_refines [] [] h = same_size (exactly 0) (omega arith)
sum_refines (a ∷ fine) (c ∷ coarse) h = plus_refines a (sum_of fine) c (sum_of coarse) h.0 (sum_refines fine coarse h.1)
sum_refines [] (c ∷ coarse) h = absurd h
sum_refines (a ∷ fine) [] h = absurd h

any_refines : (fine coarse : List Size) → AllRefine fine coarse → Refines (any_of fine) (any_of coarse)
any_refines [] [] h = same_size (exactly 0) (omega arith)
any_refines (a ∷ []) (c ∷ []) h = h.0
any_refines (a ∷ b ∷ fine) (c ∷ d ∷ coarse) h =
    either_refines a (any_of (b ∷ fine)) c (any_of (d ∷ coarse)) h.0 (any_refines (b ∷ fine) (d ∷ coarse) h.1)
any_refines [] (c ∷ coarse) h = absurd h
any_refines (a ∷ fine) [] h = absurd h
any_refines (a ∷ []) (c ∷ d ∷ coarse) h = absurd h.1
any_refines (a ∷ b ∷ fine) (c ∷ []) h = absurd h.1

-- what is known, closer
abbrev KnownRefines : Known → Known → Type 0
KnownRefines fine coarse = (g : ℕ) → Refines (size_of_target fine g) (size_of_target coarse g)

bounded_unknown : Refines unknown unknown
bounded_unknown = same_size unknown (omega arith)

module _ (fine coarse : Known) (known : KnownRefines fine coarse) where
  group_refines : (g : ℕ) → Refines (size_of_group fine g) (size_of_group coarse g)
  group_refines zero = bounded_unknown
  group_refines (suc g) = known (suc g)

  not_const : (a c : Size) → Refines a c → Refines (record a { is_const = false }) (record c { is_const = false })
  not_const a c r = record { least = r.least; most = r.most; exact = λ e. absurd (false≢true e); bounded = r.bounded }

  mutual
    pub size_refines : (e : Tree) → Refines (size_by fine e) (size_by coarse e)
    size_refines (Literal c casei) = same_size (exactly 1) (omega arith)
    size_refines (Any newline crlf) = same_size (exactly 1) (omega arith)
    size_refines (Delegate inner casei) = same_size (exactly 1) (omega arith)
    size_refines (GeneralNewline unicode) = same_size (between 1 2) (omega arith)
    size_refines (LiteralBytes cs) = same_size (exactly (length cs)) (omega arith)
    size_refines (Concat es) = sum_refines (each_size fine es) (each_size coarse es) (each_refines es)
    size_refines (Alt es) = any_refines (each_size fine es) (each_size coarse es) (each_refines es)
    size_refines (Repeat lo hi greedy e) = times_refines lo hi (size_by fine e) (size_by coarse e) (size_refines e)
    size_refines (Group g e) = size_refines e
    size_refines (AtomicGroup e) = size_refines e
    size_refines (Conditional c t f) =
        either_refines (plus (size_by fine c) (size_by fine t)) (size_by fine f) (plus (size_by coarse c) (size_by coarse t))
        (size_by coarse f)
        (plus_refines (size_by fine c) (size_by fine t) (size_by coarse c) (size_by coarse t) (size_refines c) (size_refines t))
        (size_refines f)
    size_refines (AbsentRepeater e) = same_size (between 0 usize_max) (omega arith)
    size_refines (AbsentExpression a e) = not_const (size_by fine e) (size_by coarse e) (size_refines e)
    size_refines (Backref g casei) = group_refines g
    size_refines (BackrefWithLevel g level casei) = group_refines g
    size_refines (SubroutineCall g) = known g
    size_refines e = same_size (exactly 0) (omega arith)

    each_refines : (es : Trees) → AllRefine (each_size fine es) (each_size coarse es)
    each_refines none = tt
    each_refines (more e es) = (size_refines e, each_refines es)

-- ---- the rounds

-- either round has nothing for the number, or both go by the round before
looked_up : (f k : ℕ → Size) (P : Size → Size → Type 0) → P unknown unknown → (n i g j : ℕ) → j ≡ i + g → P (f j) (k j) →
    P (slice_index_or (map f (range_from i n)) g unknown) (slice_index_or (map k (range_from i n)) g unknown)
looked_up f k P nothing zero i g j e there = nothing
looked_up f k P nothing (suc n) i zero j e there = let at : j ≡ i = omega (arith, e) in subst (λ x. P (f x) (k x)) at there
looked_up f k P nothing (suc n) i (suc g) j e there = looked_up f k P nothing n (suc i) g j (omega (arith, e)) there

round_refines : (whole : Tree) (fine coarse : Known) → KnownRefines fine coarse →
    KnownRefines (next_round whole fine) (next_round whole coarse)
round_refines whole fine coarse known g =
    looked_up (λ h. size_in_round fine (target whole h)) (λ h. size_in_round coarse (target whole h)) Refines bounded_unknown
    (suc (group_count whole)) 0 g g (omega arith) (here (target whole g))
  where
    here : (o : Option Tree) → Refines (size_in_round fine o) (size_in_round coarse o)
    here None = bounded_unknown
    here (Some e) = size_refines fine coarse known e

nothing_known : (n g : ℕ) → slice_index_or (replicate n unknown) g unknown ≡ unknown
nothing_known zero g = refl
nothing_known (suc n) zero = refl
nothing_known (suc n) (suc g) = nothing_known n g

at_first : (whole : Tree) (g : ℕ) → size_of_target (after_rounds whole zero) g ≡ unknown
at_first whole g = nothing_known (suc (group_count whole)) g

each_bounded : (whole : Tree) (n : ℕ) → KnownRefines (after_rounds whole n) (after_rounds whole n)
each_bounded whole zero g = subst (λ z. Refines z z) (sym (at_first whole g)) bounded_unknown
each_bounded whole (suc n) g = round_refines whole (after_rounds whole n) (after_rounds whole n) (each_bounded whole n) g

pub rounds_refine : (whole : Tree) (n : ℕ) → KnownRefines (after_rounds whole (suc n)) (after_rounds whole n)
rounds_refine whole zero g =
    subst (Refines (size_of_target (after_rounds whole 1) g)) (sym (at_first whole g))
    (refines_unknown (size_of_target (after_rounds whole 1) g) (each_bounded whole 1 g).bounded)
rounds_refine whole (suc n) g = round_refines whole (after_rounds whole (suc n)) (after_rounds whole n) (rounds_refine whole n) g

target_in_round : (whole : Tree) (n g : ℕ) (body : Tree) → target whole g ≡ Some body →
    Refines (size_by (after_rounds whole n) body) (size_of_target (after_rounds whole n) g)
target_in_round whole zero g body e =
    subst (Refines (size_by (after_rounds whole zero) body)) (sym (at_first whole g))
    (refines_unknown (size_by (after_rounds whole zero) body)
    (size_refines (after_rounds whole zero) (after_rounds whole zero) (each_bounded whole zero) body).bounded)
target_in_round whole (suc n) g body e =
    let round : ℕ → Size = λ h. size_in_round (after_rounds whole n) (target whole h) in
    let mine : Size = size_by (after_rounds whole (suc n)) body in
    let closer : Refines mine (size_by (after_rounds whole n) body) = size_refines (after_rounds whole (suc n))
    (after_rounds whole n) (rounds_refine whole n) body in
    looked_up round round (λ a c. Refines mine a)
    (refines_unknown mine
    (size_refines (after_rounds whole (suc n)) (after_rounds whole (suc n)) (each_bounded whole (suc n)) body).bounded)
    (suc (group_count whole)) 0 g g (omega arith)
    (subst (λ o. Refines mine (size_in_round (after_rounds whole n) o)) (sym e) closer)

-- what a call of the target goes by
pub target_refines : (whole : Tree) (g : ℕ) (body : Tree) → target whole g ≡ Some body →
    Refines (size whole body) (size_of_target (known_of whole) g)
unfolding known_of
target_refines whole g body e = target_in_round whole (group_count whole) g body e

pub size_is_bounded : (whole e : Tree) → IsBounded (size whole e)
unfolding known_of
size_is_bounded whole e =
    (size_refines (after_rounds whole (group_count whole)) (after_rounds whole (group_count whole))
    (each_bounded whole (group_count whole)) e).bounded
