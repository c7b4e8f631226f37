use Rattle.std.proofs.Common.{Ok, refl, sym, ap, ◌∙◌, subst}
use Rattle.std.proofs.lemmas.Result.{err_from_is_err_and}
use Rattle.fancy_nfa_laws.specs.FirstWays.{search_in}
use Rattle.fancy_nfa_laws.specs.NfaSearch.{TakesUp}
use Rattle.fancy_nfa.specs.Searches.{Advances}
use Rattle.fancy_nfa.proofs.BackLaws.{ends_err, ends_found, ends_lost, failed_so_far, goes_further}
use Rattle.fancy_nfa.proofs.search.Searcher.find.Goals as goal

pub steps-init : goal.steps-init
steps-init c = (λ s f h here. (0, (f, (s, (refl, h, here)))), refl)

pub returns-in_err-step-clause-ends : goal.returns-in_err-step-clause-ends
returns-in_err-step-clause-ends c = λ s f h here.
    let searcher = c.args.self.now in
    let was = c.steps.invariant.0 s f h here in
    let p = err_from_is_err_and c.from_residual.result c.from_residual.ensures.1 in
    rw p.1
    (ends_err searcher was.0 (TakesUp s f) (TakesUp was.1.1.0 was.1.0) p.0 c.advance.new.m was.1.1.1.0
    (c.in_err-step.ensures.leads was.1.1.0 was.1.0 was.1.1.1.1 was.1.1.1.2))

pub returns-then-exceeds_visits-clause-ends : goal.returns-then-exceeds_visits-clause-ends
returns-then-exceeds_visits-clause-ends c = λ s f h here.
    let searcher = c.args.self.now in
    let was = c.steps.invariant.0 s f h here in
    ends_err searcher was.0 (TakesUp s f) (TakesUp was.1.1.0 was.1.0) _ c.advance.new.m was.1.1.1.0
    (failed_so_far searcher (TakesUp was.1.1.0 was.1.0) c.in_ok-step.step _ c.advance.new.m
    (c.in_ok-step.ensures.leads was.1.1.0 was.1.0 was.1.1.1.1 was.1.1.1.2))

pub returns-in-Found-clause-ends : goal.returns-in-Found-clause-ends
returns-in-Found-clause-ends c = λ s f h here.
    let searcher = c.args.self.now in
    let was = c.steps.invariant.0 s f h here in
    ends_found searcher was.0 (TakesUp s f) (TakesUp was.1.1.0 was.1.0) c.in-Found.there c.advance.new.m was.1.1.1.0
    (subst (λ l. Advances searcher (TakesUp was.1.1.0 was.1.0) (Ok l) c.advance.new.m) c.in-Found.is
    (c.in_ok-step.ensures.leads was.1.1.0 was.1.0 was.1.1.1.1 was.1.1.1.2))

pub returns-in-Lost-clause-ends : goal.returns-in-Lost-clause-ends
returns-in-Lost-clause-ends c = λ s f h here.
    let searcher = c.args.self.now in
    let was = c.steps.invariant.0 s f h here in
    ends_lost searcher was.0 (TakesUp s f) (TakesUp was.1.1.0 was.1.0) c.advance.new.m was.1.1.1.0
    (subst (λ l. Advances searcher (TakesUp was.1.1.0 was.1.0) (Ok l) c.advance.new.m) c.in-Lost.is
    (c.in_ok-step.ensures.leads was.1.1.0 was.1.0 was.1.1.1.1 was.1.1.1.2))

pub steps-preserved : goal.steps-preserved
steps-preserved c = (
  λ s f h here.
      let searcher = c.args.self.now in
      let was = c.steps.invariant.0 s f h here in
      goes_further searcher was.0 (TakesUp s f) (TakesUp was.1.1.0 was.1.0) c.in-Goes.next c.advance.new.m was.1.1.1.0
      (subst (λ l. Advances searcher (TakesUp was.1.1.0 was.1.0) (Ok l) c.advance.new.m) c.in-Goes.is
      (c.in_ok-step.ensures.leads was.1.1.0 was.1.0 was.1.1.1.1 was.1.1.1.2)),
  c.advance.ensures.budget ∙ c.steps.invariant.1,
)

pub returns-clause-ends : goal.returns-clause-ends
returns-clause-ends c = λ s f h here.
    let on = c.steps.invariant.0 s f h here in
    (on.0, λ p. on.1.1.1.1.failed p ∙ sym (ap (λ x. (search_in x).failed p) on.1.1.1.0))
