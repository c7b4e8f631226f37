use Rattle.std.proofs.Common.{Ok, subst}
use Rattle.fancy_nfa_laws.specs.NfaSearch.{TakesBack, TakesUp}
use Rattle.fancy_nfa.specs.Searches.{ComesTo}
use Rattle.fancy_nfa.proofs.BackLaws.{comes_back, comes_on, ok_same}
use Rattle.fancy_nfa.proofs.search.Searcher.advance.Goals as goal

pub returns-in-Lost-clause-leads : goal.returns-in-Lost-clause-leads
returns-in-Lost-clause-leads c = λ s f h here.
    let searcher = c.args.self.now in
    let came = subst (λ l. ComesTo searcher (TakesUp s f) (Ok l) c.take_up.new.m) c.in-Lost.is (c.in_ok-step_result.ensures.leads s f h here) in
    comes_back searcher came.0 (TakesUp s f) (TakesBack came.1.0) c.take_back.result c.take_back.new.m came.1.1.0
    (c.take_back.ensures.leads came.1.0 came.1.1.1)

pub returns-in_default-clause-leads : goal.returns-in_default-clause-leads
returns-in_default-clause-leads c = λ s f h here.
    comes_on c.args.self.now (TakesUp s f) (Ok c.in_ok-step_result.step_result) c.take_up.new.m (λ e. c.in_default.not-Lost (ok_same e))
    (c.in_ok-step_result.ensures.leads s f h here)
