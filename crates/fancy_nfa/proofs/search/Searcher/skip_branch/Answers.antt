use Rattle.std.proofs.Common.{sym, subst}
use Rattle.std.specs.Option.{IfSome}
use Rattle.fancy_nfa.specs.OnePass.{AreBranches, Walks, config_at}
use Rattle.fancy_nfa.proofs.OnePassLaws.{branches_choice, chosen_of}
use Rattle.fancy_nfa.proofs.search.Searcher.skip_branch.Goals as goal

pub returns : goal.returns
returns c = λ s.
    let searcher = c.args.self.now in
    let at = c.args.at in
    let place = c.args.place in
    let first = c.first_branch-first.result.0 in
    let second = c.in-Some.second in
    let is_lost = c.fails_from-is_lost.result in
    let h : AreBranches searcher at first second =
    subst (λ o. IfSome o (λ other. AreBranches searcher at first other)) c.in-Some.is c.first_branch-first.ensures.branches in
    subst (λ i. Walks searcher is_lost (config_at s at place) (config_at s i place)) (sym c.chosen.ensures)
    (chosen_of searcher s at first second place is_lost (branches_choice searcher at first second h) c.fails_from-is_lost.ensures)
