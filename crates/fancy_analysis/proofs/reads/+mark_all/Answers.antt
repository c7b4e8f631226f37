use Rattle.std.proofs.Common.{◌&&◌, ◌||◌, false, nat_lt, length, slice_index_or, ap, ◌∙◌, arith}
use Rattle.fancy_expr.proofs.Exprs.{child_smaller}
use Rattle.fancy_analysis.proofs.InfoNodes.{marked_more, read-all}
use Rattle.fancy_analysis.proofs.reads.+mark_all.Goals as goal

pub mark_all-requires : goal.mark_all-requires
mark_all-requires t c = (omega (arith, child_smaller c.args.expr.now c.part.result.now c.loop-i.i (omega arith) c.part.ensures), tt)

pub loop-i-preserved : goal.loop-i-preserved
loop-i-preserved t c = λ g.
    marked_more c.args.expr.now c.part.result.now c.loop-i.i g (length c.args.reads.now) (length c.loop-i.reads) _ _ _ (omega arith) c.part.ensures
    (c.loop-i.invariant g) (c.loop-i.auto.reads ∙ c.mark.auto.reads) (c.mark_all.ensures g)

pub returns : goal.returns
returns t c = λ g.
    c.loop-i.invariant g
    ∙ ap (λ b. slice_index_or c.args.reads.now g false || (nat_lt g (length c.args.reads.now) && b)) (read-all c.args.expr.now c.loop-i.i g (omega arith))
