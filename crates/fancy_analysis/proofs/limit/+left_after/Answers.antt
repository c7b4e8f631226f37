use Rattle.std.proofs.Common.{◌≡◌, ℕ, Option, ◌+◌, ◌<◌, MatchOption, take, length, ap, subst, sym, arith}
use Rattle.std.proofs.lemmas.List.{take_all}
use Rattle.fancy_expr.specs.Exprs.{below, exprs, exprs_of_each}
use Rattle.fancy_expr.proofs.Exprs.{child_smaller}
use Rattle.fancy_analysis.proofs.LimitRounds.{count_below, count_taken, count_up_to}
use Rattle.fancy_analysis.proofs.limit.+left_after.Goals as goal

pub left_after-requires : goal.left_after-requires
left_after-requires t c = (omega (arith, child_smaller c.args.expr.now c.part.result.now c.loop-i.i (omega arith) c.part.ensures), tt)

pub returns-in_err-rest : goal.returns-in_err-rest
returns-in_err-rest t c =
    let e = c.args.expr.now in
    let Reply : Option ℕ → Type 0 = λ r. MatchOption r (c.args.left < length (exprs e)) (λ rest. rest + length (exprs e) ≡ c.args.left) in
    subst Reply (sym c.from_residual.ensures) (omega (arith, c.in_err-rest.ensures, count_below e))

pub returns-in_err-rest-2 : goal.returns-in_err-rest-2
returns-in_err-rest-2 t c =
    let e = c.args.expr.now in
    let Reply : Option ℕ → Type 0 = λ r. MatchOption r (c.args.left < length (exprs e)) (λ rest. rest + length (exprs e) ≡ c.args.left) in
    subst Reply (sym c.from_residual-in_err-rest-2.ensures)
    (omega (arith, c.loop-i.invariant, c.in_err-rest-2.ensures, count_below e, count_up_to (below e) c.loop-i.i c.part.result.now (omega arith) c.part.ensures))

pub loop-i-preserved : goal.loop-i-preserved
loop-i-preserved t c =
    let e = c.args.expr.now in
    omega (arith, c.loop-i.invariant, c.in_ok-rest-2.ensures, count_taken (below e) c.loop-i.i c.part.result.now (omega arith) c.part.ensures)

pub returns : goal.returns
returns t c =
    let e = c.args.expr.now in
    let all : take c.loop-i.i (below e) ≡ below e = take_all c.loop-i.i (below e) (omega arith) in
    omega (arith, c.loop-i.invariant, count_below e, ap (λ l. length (exprs_of_each l)) all)
