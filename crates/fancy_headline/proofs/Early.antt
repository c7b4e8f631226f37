-- Where a `\G` gives up the search, the longest match so far is the answer, if there is one: the run that ends there answers
-- what the tree means.
use Rattle.std.proofs.Common.{◌≡◌, ⊎_elim, ℕ, zero, suc, if◌then◌else◌, List, Option, Some, None, refl, sym, ap, ◌∙◌, subst}
use Rattle.fancy_meaning.specs.Options.{Plan, RunOptions}
use Rattle.fancy_meaning.specs.Answer.{search_of, answer}
use Rattle.fancy_meaning.specs.Instr.{Prog}
use Rattle.fancy_meaning.specs.Config.{Config, outcome_of, Next, Goes, Ends, forward}
use Rattle.fancy_meaning.specs.Machine.{Task, gives_up, fail, step_at, step_on, then_on, exec, begin, after_steps, run}
use Rattle.fancy_meaning.specs.Enumerates.{IsLimit, outcome_after}
use Rattle.fancy_meaning.specs.Premises.{plan}
use Rattle.fancy_meaning.specs.Theorems.{Answers, GivesUp, GivesUpRightly, EarlyNone}
use Rattle.fancy_composed.proofs.Undelegated.{undelegated}
use Rattle.fancy_headline.proofs.Answered.{headline}

-- the last step ends the run
stops : (t : Task) (c : Config) → GivesUp t c → exec t (suc zero) c ≡ outcome_of c.longest
stops t c g =
    ap (λ o. then_on t (exec t zero) (step_at t o c)) g.stands
    ∙ ap (λ v. then_on t (exec t zero) (if v then Goes (forward c) else (if gives_up t g.at_start c then Ends (outcome_of c.longest) else fail t c))) g.fails
    ∙ ap (λ v. then_on t (exec t zero) (if v then Ends (outcome_of c.longest) else fail t c)) g.is_last

ends_early : (t : Task) (n : ℕ) (next : Next) (c : Config) → after_steps t n next ≡ Goes c → GivesUp t c →
    outcome_after t (suc n) next ≡ outcome_of c.longest
ends_early t zero next c e g = ap (outcome_after t (suc zero)) e ∙ stops t c g
ends_early t (suc n) (Goes d) c e g = ends_early t n (step_on t (Goes d)) c e g
ends_early t (suc n) (Ends o) c e g = ends_early t n (Ends o) c e g

same_answer : (a b : Option (List ℕ)) → outcome_of a ≡ outcome_of b → a ≡ b
same_answer None None e = refl
same_answer (Some numbers) (Some others) e = let same : numbers ≡ others = cc in ap Some same
same_answer None (Some others) e = cc
same_answer (Some numbers) None e = cc

is_answer : (a : Option (List ℕ)) → IsLimit (outcome_of a) → ⊥
is_answer None l = l
is_answer (Some numbers) l = l

-- a run with so many instructions answers, and it ends with this one
rightly : (p : Plan) (program : Prog) (text : List ℕ) (o : RunOptions) →
    ((limit : ℕ) → Answers p program text (record o { step_limit = limit })) → GivesUpRightly p program text o
unfolding run
rightly p program text o answers n c reaches g =
    ⊎_elim {C = answer (search_of p text o) ≡ c.longest}
    (λ l. absurd (is_answer c.longest (subst IsLimit ends l)))
    (λ e. same_answer (answer (search_of p text o)) c.longest (sym e ∙ ends))
    (answers (suc n))
  where
    t : Task
    t = record { program = program; text = text; options = record o { step_limit = suc n } }

    ends : exec t (suc n) (begin t) ≡ outcome_of c.longest
    ends = ends_early t n (Goes (begin t)) c reaches (record { at_start = g.at_start; stands = g.stands; fails = g.fails; is_last = g.is_last })

pub early_none : EarlyNone
early_none i text o fit = (
  λ accepted.
      rightly (plan i) _ text o
      (λ limit. headline i text (record o { step_limit = limit }) accepted
      (record { is_text = fit.is_text; pos = fit.pos; not_empty = fit.not_empty; longest = fit.longest })),
  λ accepted.
      rightly (plan i) _ text o
      (λ limit. undelegated i text (record o { step_limit = limit }) accepted
      (record { is_text = fit.is_text; pos = fit.pos; not_empty = fit.not_empty; longest = fit.longest })),
)
