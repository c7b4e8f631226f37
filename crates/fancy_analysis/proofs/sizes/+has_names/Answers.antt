use Rattle.std.proofs.Common.{sym, ◌∙◌, arith}
use Rattle.fancy_expr.specs.Exprs.{below}
use Rattle.fancy_expr.proofs.Exprs.{child_smaller}
use Rattle.fancy_expr.proofs.Walks.{none_more, none_at_all}
use Rattle.fancy_analysis.specs.Rounds.{names_one}
use Rattle.fancy_analysis.proofs.LimitRounds.{any_child, any_itself}
use Rattle.fancy_analysis.proofs.sizes.+has_names.Goals as goal

pub has_names-requires : goal.has_names-requires
has_names-requires t c = (omega (arith, child_smaller c.args.expr.now c.part.result.now c.loop-i.i (omega arith) c.part.ensures), tt)

pub returns-then-names_one : goal.returns-then-names_one
returns-then-names_one t c = sym (any_itself names_one c.args.expr.now (sym c.names_one.ensures ∙ c.if-names_one.true))

pub returns-then-has_names : goal.returns-then-has_names
returns-then-has_names t c =
    sym (any_child names_one c.args.expr.now c.loop-i.i c.part.result.now (omega arith) c.part.ensures (sym c.has_names.ensures ∙ c.if-has_names.true))

pub loop-i-preserved : goal.loop-i-preserved
loop-i-preserved t c =
    none_more names_one (below c.args.expr.now) c.loop-i.i c.part.result.now (omega arith) c.part.ensures c.loop-i.invariant
    (sym c.has_names.ensures ∙ c.if-has_names.false)

pub returns : goal.returns
returns t c = sym (none_at_all names_one c.args.expr.now c.loop-i.i (omega arith) (sym c.names_one.ensures ∙ c.if-names_one.false) c.loop-i.invariant)
