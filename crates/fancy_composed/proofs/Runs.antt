-- What a continuation says of a run with a given step limit.
use Rattle.std.proofs.Common.{◌≡◌, ◌≢◌, ◌⊎◌, inl, inr, ⊎_elim, ℕ, zero, suc, ◌+◌, ◌-◌, ◌≤◌, List, Option, Some, None, refl, sym, ap, ◌∙◌, subst, arith}
use Rattle.std.specs.Prelude.{slice_get}
use Rattle.fancy_meaning.specs.Config.{Config, Outcome, Match, NoMatch, BacktrackLimitExceeded, StackOverflow, StepLimitExceeded, outcome_of, Next, Goes, Ends}
use Rattle.fancy_meaning.specs.Machine.{Task, step_at, exec, then_on}
use Rattle.fancy_meaning.specs.Enumerates.{IsLimit, IsBranchLimit}
use Rattle.fancy_composed.proofs.Continuations.{Meets, limit, same, To}

is_limit : (r : Outcome) → IsBranchLimit r → IsLimit r
is_limit (Match numbers) l = l
is_limit NoMatch l = l
is_limit BacktrackLimitExceeded l = tt
is_limit StackOverflow l = tt
is_limit StepLimitExceeded l = tt

answer_is_no_step_limit : (answer : Option (List ℕ)) → outcome_of answer ≢ StepLimitExceeded
answer_is_no_step_limit None e = cc
answer_is_no_step_limit (Some numbers) e = cc

module _ (t : Task) where
  -- more instructions change nothing, unless the step limit was passed
  abbrev Settles : ℕ → ℕ → Config → Type 0
  Settles n more c = (exec t n c ≡ StepLimitExceeded) ⊎ (exec t n c ≡ exec t (n + more) c)

  settles : (n more : ℕ) (c : Config) → Settles n more c
  settles zero more c = inl refl
  settles (suc n) more c = by_next (λ d. settles n more d) (step_at t (slice_get (t.program).body c.pc) c) refl
    where
      one_more : suc (n + more) ≡ suc n + more
      one_more = omega arith

      by_next : ((d : Config) → Settles n more d) → (next : Next) → step_at t (slice_get (t.program).body c.pc) c ≡ next →
          Settles (suc n) more c
      by_next known (Goes d) e =
          ⊎_elim {C = Settles (suc n) more c} (λ f. inl (ap (then_on t (exec t n)) e ∙ f))
          (λ f.
          inr
          (ap (then_on t (exec t n)) e ∙ f ∙ sym (ap (then_on t (exec t (n + more))) e) ∙ ap (λ k. exec t k c) one_more))
          (known d)
      by_next known (Ends o) e =
          inr
          (ap (then_on t (exec t n)) e
          ∙ sym (ap (then_on t (exec t (n + more))) e)
          ∙ ap (λ k. exec t k c) one_more)

  module _ (c : Config) (answer : Option (List ℕ)) (leads : To (λ n. exec t n c) (λ n. outcome_of answer)) where
    -- with any step limit, a limit or the answer
    pub limit_or_answer : (n : ℕ) → IsLimit (exec t n c) ⊎ (exec t n c ≡ outcome_of answer)
    limit_or_answer n =
        ⊎_elim {C = IsLimit (exec t n c) ⊎ (exec t n c ≡ outcome_of answer)} (λ e. inl (subst IsLimit (sym e) tt))
        (λ e. subst (λ r. IsLimit r ⊎ (r ≡ outcome_of answer)) (sym e) (met (leads.by n)))
        (subst (λ k. (exec t n c ≡ StepLimitExceeded) ⊎ (exec t n c ≡ exec t k c)) either_order (settles n leads.steps c))
      where
        either_order : n + leads.steps ≡ leads.steps + n
        either_order = omega arith

        met : {r : Outcome} → Meets r (outcome_of answer) → IsLimit r ⊎ (r ≡ outcome_of answer)
        met {r} (limit l) = inl (is_limit r l)
        met (same e) = inr e

    -- from so many instructions on, it is not the step limit
    pub enough_steps : (n : ℕ) → leads.steps ≤ n → exec t n c ≢ StepLimitExceeded
    enough_steps n le = subst (λ k. exec t k c ≢ StepLimitExceeded) rest (met (leads.by (n - leads.steps)))
      where
        rest : leads.steps + (n - leads.steps) ≡ n
        rest = omega (arith, le)

        met : {r : Outcome} → Meets r (outcome_of answer) → r ≢ StepLimitExceeded
        met (limit l) e = absurd (subst IsBranchLimit e l)
        met (same f) e = answer_is_no_step_limit answer (sym f ∙ e)
