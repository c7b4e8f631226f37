-- How loops are written.
use Rattle.std.proofs.Common.{◌≡◌, ℕ, zero, suc, ◌-◌, ◌^◌, ◌<◌, ◌||◌, ◌==◌, Bool, true, false, not, [], ◌∷◌, Option, Some, None, true≢false, refl, sym, ap, ◌∙◌, subst, arith, eq-eqb, ne_eqb}
use Rattle.std.proofs.lemmas.Bool.{cond-true, cond-false}
use Rattle.fancy_meaning.specs.Tree.{Tree, Repeat}
use Rattle.fancy_meaning.specs.Code.{Code}
use Rattle.fancy_meaning.specs.Constructs.{LoopForm, Never, AtMostOnce, Counted, loop_form, repeat_code}
use Rattle.fancy_meaning.specs.Layout.{is_at_most_once}
use Rattle.fancy_meaning.specs.Sizes.{size}
use Rattle.fancy_code.specs.Sites.{Site, HasRoom, within_node}
use Rattle.fancy_expr.specs.Views.{bound_of}
use Rattle.fancy_code.specs.declared.loops.LoopKind.{LoopKind}
use Rattle.fancy_code.specs.declared.loops.LoopKind.TheVariants as kind
use Rattle.fancy_code.specs.Arounds.{kind_form}
use Rattle.fancy_code.specs.Drafts.{Draft, Writes, written_code, node_code}
use Rattle.fancy_code.proofs.Writing.{wrote_nothing}
use Rattle.fancy_code.proofs.Written.{wrote_node, safe_fine}

abbrev is_never_form : LoopForm → Bool
is_never_form Never = true
is_never_form f = false

kind_enters : (k : LoopKind) → is_never_form (kind_form k) ≡ false
kind_enters kind.AtMostOnce = refl
kind_enters (kind.Epsilon lo) = refl
kind_enters kind.Star = refl
kind_enters kind.Plus = refl
kind_enters (kind.Counted lo hi) = refl

clash : {X : Type 0} (f : LoopForm) → Never ≡ f → is_never_form f ≡ false → X
clash f e h = absurd (true≢false (ap is_never_form e ∙ h))

-- a body that is never entered
never_is : (lo : ℕ) (hi : Option ℕ) (empty : Bool) → Never ≡ loop_form lo hi empty → hi ≡ Some 0
never_is lo (Some zero) empty h = refl
never_is zero (Some (suc zero)) empty h = clash _ h refl
never_is zero (Some (suc (suc n))) empty h = clash _ h refl
never_is (suc m) (Some (suc n)) empty h = clash _ h refl
never_is lo None true h = clash _ h refl
never_is zero None false h = clash _ h refl
never_is (suc zero) None false h = clash _ h refl
never_is (suc (suc m)) None false h = clash _ h refl

-- ---- the choice, where the largest number stands for no bound

abbrev most : ℕ
most = 2 ^ 64 - 1

bound-some : (hi : ℕ) → hi < most → bound_of hi ≡ Some hi
bound-some hi h = cond-false (hi == most) None (Some hi) (ne_eqb hi most (λ e. omega (arith, e, h)))

bound-none : (hi : ℕ) → ¬ (hi < most) → hi < 2 ^ 64 → bound_of hi ≡ None
bound-none hi h fits = let e : hi ≡ most = omega (arith, h, fits) in cond-true (hi == most) None (Some hi) (eq-eqb hi most e)

module _ (lo hi : ℕ) (empty : Bool) where
  pub chosen_never : hi ≡ 0 → Never ≡ loop_form lo (bound_of hi) empty
  chosen_never h = sym (ap (λ n. loop_form lo (bound_of n) empty) h)

  pub chosen_once : lo ≡ 0 → hi ≡ 1 → AtMostOnce ≡ loop_form lo (bound_of hi) empty
  chosen_once a b = sym (ap (λ n. loop_form n (bound_of hi) empty) a ∙ ap (λ n. loop_form 0 (bound_of n) empty) b)

counted_below : (lo hi : ℕ) (empty : Bool) → ¬ (hi ≡ 0) → ¬ ((lo ≡ 0) × (hi ≡ 1)) → Counted lo (Some hi) ≡ loop_form lo (Some hi) empty
counted_below lo zero empty h g = absurd (h refl)
counted_below zero (suc zero) empty h g = absurd (g (refl, refl))
counted_below zero (suc (suc n)) empty h g = refl
counted_below (suc m) (suc n) empty h g = refl

module _ (lo hi : ℕ) (empty : Bool) where
  pub chosen_counted : ¬ (hi ≡ 0) → ¬ ((lo ≡ 0) × (hi ≡ 1)) → hi < most → Counted lo (bound_of hi) ≡ loop_form lo (bound_of hi) empty
  chosen_counted h g lt = subst (λ b. Counted lo b ≡ loop_form lo b empty) (sym (bound-some hi lt)) (counted_below lo hi empty h g)

  module _ (past : ¬ (hi < most)) (fits : hi < 2 ^ 64) where
    pub chosen_open : (f : LoopForm) → f ≡ loop_form lo None empty → f ≡ loop_form lo (bound_of hi) empty
    chosen_open f e = subst (λ b. f ≡ loop_form lo b empty) (sym (bound-none hi past fits)) e

pub counted_open : (lo : ℕ) → ¬ (lo ≡ 0) → ¬ (lo ≡ 1) → Counted lo None ≡ loop_form lo None false
counted_open zero h g = absurd (h refl)
counted_open (suc zero) h g = absurd (g refl)
counted_open (suc (suc m)) h g = refl

-- ---- the node

module _ (p : Site) (room : HasRoom p) (call : ℕ → Bool → Code) (at_start in_hard : Bool) (lo : ℕ) (greedy : Bool) (e : Tree) (s t : Draft) where
  abbrev form : Option ℕ → LoopForm
  form hi = loop_form lo hi ((size p.analysis.tree e).least == 0)

  abbrev body : LoopForm → Code
  body f = node_code p call e false (in_hard || not (is_at_most_once f))

  abbrev Wrote : Option ℕ → Type 0
  Wrote hi = Writes p (written_code p call (Repeat lo hi greedy e) at_start in_hard) (Repeat lo hi greedy e ∷ []) s t

  pub wrote_repeat : (hi : Option ℕ) (k : LoopKind) → kind_form k ≡ form hi
      → Writes (within_node p) (repeat_code greedy (body (kind_form k)) (kind_form k)) (e ∷ []) s t → Wrote hi
  wrote_repeat (Some zero) k is h = clash (kind_form k) (sym is) (kind_enters k)
  wrote_repeat (Some (suc n)) k is h =
      wrote_node p room _ (Repeat lo (Some (suc n)) greedy e) s t (safe_fine p (Repeat lo (Some (suc n)) greedy e) refl refl)
      (subst (λ f. Writes (within_node p) (repeat_code greedy (body f) f) (e ∷ []) s t) is h)
  wrote_repeat None k is h =
      wrote_node p room _ (Repeat lo None greedy e) s t (safe_fine p (Repeat lo None greedy e) refl refl)
      (subst (λ f. Writes (within_node p) (repeat_code greedy (body f) f) (e ∷ []) s t) is h)

-- a loop that is never entered
pub wrote_never : (p : Site) (room : HasRoom p) (call : ℕ → Bool → Code) (at_start in_hard : Bool) (lo : ℕ) (greedy : Bool)
    (e : Tree) (s : Draft) (hi : Option ℕ)
    → Never ≡ loop_form lo hi ((size p.analysis.tree e).least == 0) → Writes p (written_code p call (Repeat lo hi greedy e) at_start in_hard)
    (Repeat lo hi greedy e ∷ []) s s
wrote_never p room call at_start in_hard lo greedy e s hi is =
    subst (λ b. Writes p (written_code p call (Repeat lo b greedy e) at_start in_hard) (Repeat lo b greedy e ∷ []) s s) (sym (never_is lo hi _ is))
    (wrote_node p room _ (Repeat lo (Some 0) greedy e) s s (safe_fine p (Repeat lo (Some 0) greedy e) refl refl) (wrote_nothing (within_node p) s))
