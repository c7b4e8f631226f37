use Rattle.std.proofs.Common.{subst}
use Rattle.std.specs.Option.{IfSome}
use Rattle.fancy_nfa.specs.OnePass.{AreBranches}
use Rattle.fancy_nfa.proofs.OnePassLaws.{branches_fail}
use Rattle.fancy_nfa.proofs.search.Searcher.fails_from.Goals as goal

pub branches-preserved : goal.branches-preserved
branches-preserved c = λ other.
    let searcher = c.args.self.now in
    let at = c.branches.at in
    let first = c.first_branch-first.result.0 in
    let second = c.in-Some.second in
    let h : AreBranches searcher at first second =
    subst (λ o. IfSome o (λ other. AreBranches searcher at first other)) c.in-Some.is c.first_branch-first.ensures.branches in
    c.branches.invariant
    (branches_fail searcher h.0 at first second c.args.place h.1.0 h.1.1 (c.fails_behind_jump.ensures c.if-not-fails_behind_jump.false) other)
