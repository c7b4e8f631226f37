use Rattle.std.proofs.Common.{◌<◌, ◌≤◌, ◌↔◌, IfSome, IsTrue, MatchOption, subst, arith}
use Rattle.fancy_meaning.specs.Recursion.{CanEnd}
use Rattle.fancy_analysis.specs.Endings.{ending_rounds, flag_count}
use Rattle.fancy_analysis.proofs.LimitRounds.{endings_at_most}
use Rattle.fancy_analysis.proofs.endings.can_end.Goals as goal

pub returns-in-Some : goal.returns-in-Some
returns-in-Some c = λ whole w.
    subst (λ o. IfSome o (λ ends. IsTrue ends ↔ CanEnd whole whole)) c.in-Some.is (c.in_ok-ends.ensures.ends whole w)

pub returns-in-None : goal.returns-in-None
returns-in-None c = λ whole w.
    let n = flag_count c.args.root.now in
    let over : c.max.result < ending_rounds whole n =
    subst (λ o. MatchOption o (c.max.result < ending_rounds whole n) (λ _. ending_rounds whole n ≤ c.max.result)) c.in-None.is (c.in_ok-ends.ensures.rounds whole w) in
    absurd (omega (arith, over, c.max.ensures, endings_at_most whole n))
