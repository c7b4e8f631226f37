-- What is at a place of the order in which patterns are tried.
use Rattle.std.proofs.Common.{◌≡◌, ◌<◌, ◌-◌, ℕ, zero, suc, List, [], ◌∷◌, length, min, Some, refl, subst, arith}
use Rattle.std.specs.Prelude.{slice_get}
use Rattle.fancy_highlight.specs.Frames.{put_at}
use Rattle.fancy_highlight.specs.declared.frames.Tried.{Tried}

pub at_place : (place : ℕ) (end : Tried) (rules : List Tried) (i : ℕ) → i ≡ min place (length rules) →
    slice_get (put_at place end rules) i ≡ Some end
at_place zero end rules zero e = refl
at_place zero end rules (suc i) e = absurd (omega (arith, e))
at_place (suc place) end [] zero e = refl
at_place (suc place) end [] (suc i) e = absurd (omega (arith, e))
at_place (suc place) end (rule ∷ rules) zero e = absurd (omega (arith, e))
at_place (suc place) end (rule ∷ rules) (suc i) e = at_place place end rules i (omega (arith, e))

pub before_place : (place : ℕ) (end : Tried) (rules : List Tried) (i : ℕ) → i < min place (length rules) →
    slice_get (put_at place end rules) i ≡ slice_get rules i
before_place zero end rules i h = absurd (omega (arith, h))
before_place (suc place) end [] i h = absurd (omega (arith, h))
before_place (suc place) end (rule ∷ rules) zero h = refl
before_place (suc place) end (rule ∷ rules) (suc i) h = before_place place end rules i (omega (arith, h))

past_place : (place : ℕ) (end : Tried) (rules : List Tried) (i : ℕ) → min place (length rules) < suc i →
    slice_get (put_at place end rules) (suc i) ≡ slice_get rules i
past_place zero end rules i h = refl
past_place (suc place) end [] i h = refl
past_place (suc place) end (rule ∷ rules) zero h = absurd (omega (arith, h))
past_place (suc place) end (rule ∷ rules) (suc i) h = past_place place end rules i (omega (arith, h))

pub after_place : (place : ℕ) (end : Tried) (rules : List Tried) (i : ℕ) → min place (length rules) < i →
    slice_get (put_at place end rules) i ≡ slice_get rules (i - 1)
after_place place end rules zero h = absurd (omega (arith, h))
after_place place end rules (suc i) h =
    let same : i ≡ suc i - 1 = omega arith in
    subst (λ k. slice_get (put_at place end rules) (suc i) ≡ slice_get rules k) same (past_place place end rules i h)
