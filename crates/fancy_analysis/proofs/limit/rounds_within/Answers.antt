use Rattle.std.proofs.Common.{◌≡◌, ◌/◌, ◌-◌, length, sym, ap, arith}
use Rattle.std.proofs.Math.Nat.{div-eq_of_lt}
use Rattle.fancy_expr.specs.Exprs.{exprs}
use Rattle.fancy_analysis.proofs.LimitRounds.{count_below}
use Rattle.fancy_analysis.proofs.limit.rounds_within.Goals as goal

pub returns-in-Some : goal.returns-in-Some
returns-in-Some c =
    let n = length (exprs c.args.expr.now) in
    let same : c.args.limit - c.in-Some.rest ≡ n = omega (arith, c.in-Some.ensures) in
    ap (λ k. c.args.limit / k) same

pub nonzero_div-result : goal.nonzero_div-result
nonzero_div-result c = omega (arith, c.in-Some.ensures, count_below c.args.expr.now)

pub returns-in-None : goal.returns-in-None
returns-in-None c = sym (div-eq_of_lt c.in-None.ensures)
