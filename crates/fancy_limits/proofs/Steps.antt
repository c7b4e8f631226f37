-- More instructions change nothing, unless the step limit was passed.
use Rattle.std.proofs.Common.{◌≡◌, ◌≢◌, ◌⊎◌, inl, inr, ⊎_elim, ℕ, zero, suc, ◌+◌, ◌-◌, ◌≤◌, refl, sym, ap, ◌∙◌, arith}
use Rattle.std.specs.Prelude.{slice_get}
use Rattle.fancy_meaning.specs.Config.{Config, StepLimitExceeded, Next, Goes, Ends}
use Rattle.fancy_meaning.specs.Machine.{Task, step_at, exec, then_on, begin, run}
use Rattle.fancy_limits.specs.Limits.{with_step_limit}

module _ (t : Task) where
  abbrev pub Settles : ℕ → ℕ → Config → Type 0
  Settles n more c = (exec t n c ≡ StepLimitExceeded) ⊎ (exec t (n + more) c ≡ exec t n c)

  pub settles : (n more : ℕ) (c : Config) → Settles n more c
  settles zero more c = inl refl
  settles (suc n) more c = by_next (λ d. settles n more d) (step_at t (slice_get (t.program).body c.pc) c) refl
    where
      one_more : suc n + more ≡ suc (n + more)
      one_more = omega arith

      by_next : ((d : Config) → Settles n more d) → (next : Next) → step_at t (slice_get (t.program).body c.pc) c ≡ next →
          Settles (suc n) more c
      by_next known (Goes d) e =
          ⊎_elim {C = Settles (suc n) more c} (λ f. inl (ap (then_on t (exec t n)) e ∙ f))
          (λ f. inr
          (ap (λ k. exec t k c) one_more ∙ ap (then_on t (exec t (n + more))) e ∙ f ∙ sym (ap (then_on t (exec t n)) e)))
          (known d)
      by_next known (Ends o) e =
          inr
          (ap (λ k. exec t k c) one_more ∙ ap (then_on t (exec t (n + more))) e ∙ sym (ap (then_on t (exec t n)) e))

-- the step limit only says how many instructions there may be
same_steps : (t : Task) (limit n : ℕ) (c : Config) → exec (with_step_limit limit t) n c ≡ exec t n c
same_steps t limit zero c = refl
same_steps t limit (suc n) c = by_next (same_steps t limit n) (step_at t (slice_get (t.program).body c.pc) c)
  where
    by_next : ((d : Config) → exec (with_step_limit limit t) n d ≡ exec t n d) → (next : Next) →
        then_on (with_step_limit limit t) (exec (with_step_limit limit t) n) next ≡ then_on t (exec t n) next
    by_next known (Goes d) = known d
    by_next known (Ends o) = refl

pub higher_step_limit : (t : Task) (limit : ℕ) → t.step_limit ≤ limit → run t ≢ StepLimitExceeded →
    run (with_step_limit limit t) ≡ run t
unfolding run
higher_step_limit t limit le none =
    let more : ℕ = limit - t.step_limit in
    let enough : limit ≡ t.step_limit + more = omega (arith, le) in
    same_steps t limit limit (begin t)
    ∙ ap (λ k. exec t k (begin t)) enough
    ∙ ⊎_elim (λ passed. absurd (none passed)) (λ same. same) (settles t t.step_limit more (begin t))
