use Rattle.std.proofs.Common.{sym, ◌∙◌, arith}
use Rattle.fancy_expr.specs.Exprs.{below}
use Rattle.fancy_expr.specs.Questions.{asks}
use Rattle.fancy_expr.proofs.Exprs.{child_smaller}
use Rattle.fancy_expr.proofs.Walks.{none_more, none_at_all, itself_contained, contained_below, first_itself, first_below}
use Rattle.fancy_expr.proofs.nodes.+find_node.Goals as goal

pub find_node-requires : goal.find_node-requires
find_node-requires t c = (omega (arith, child_smaller c.args.expr.now c.part.result.now c.loop-i.i (omega arith) c.part.ensures), tt)

pub returns-then-asks : goal.returns-then-asks
returns-then-asks t c =
    let here = sym c.asks.ensures ∙ c.if-asks.true in
    (here, itself_contained _, first_itself (asks c.args.question) c.args.expr.now here)

pub returns-in-Some : goal.returns-in-Some
returns-in-Some t c =
    let e = c.args.expr.now in
    let child = c.part.result.now in (
      c.in-Some.ensures.0,
      contained_below e child _ c.loop-i.i (omega arith) c.part.ensures c.in-Some.ensures.1,
      first_below (asks c.args.question) e child _ c.loop-i.i (omega arith) c.part.ensures (sym c.asks.ensures ∙ c.if-asks.false)
          c.loop-i.invariant c.in-Some.ensures.2,
    )

pub loop-i-preserved : goal.loop-i-preserved
loop-i-preserved t c = none_more _ (below c.args.expr.now) c.loop-i.i c.part.result.now (omega arith) c.part.ensures c.loop-i.invariant c.in_default.ensures

pub returns : goal.returns
returns t c = none_at_all (asks c.args.question) c.args.expr.now c.loop-i.i (omega arith) (sym c.asks.ensures ∙ c.if-asks.false) c.loop-i.invariant
