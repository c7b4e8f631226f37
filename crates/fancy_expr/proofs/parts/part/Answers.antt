use Rattle.std.proofs.Common.{◌<◌, length, get_or, sym, ap, ◌∙◌, subst, arith}
use Rattle.fancy_expr.specs.Exprs.{below}
use Rattle.fancy_expr.proofs.Exprs.{below-concat, below-alt, child_at, only_child}
use Rattle.fancy_expr.proofs.parts.part.Goals as goal

pub index-requires : goal.index-requires
index-requires c = omega (arith, c.requires, ap length (below-concat _ _ c.in-Concat.is))

pub index-requires-in-Alt : goal.index-requires-in-Alt
index-requires-in-Alt c = omega (arith, c.requires, ap length (below-alt _ _ c.in-Alt.is))

pub returns-in-Concat : goal.returns-in-Concat
returns-in-Concat c = c.index.ensures ∙ ap (λ l. get_or l c.args.i c.index.result.now) (sym (below-concat _ _ c.in-Concat.is))

pub returns-in-Alt : goal.returns-in-Alt
returns-in-Alt c = c.index-in-Alt.ensures ∙ ap (λ l. get_or l c.args.i c.index-in-Alt.result.now) (sym (below-alt _ _ c.in-Alt.is))

pub returns-in-Group : goal.returns-in-Group
returns-in-Group c = only_child c.args.expr.now c.in-Group.body.value c.args.i _ (ap below c.in-Group.is) c.requires c.deref.ensures

pub returns-in-LookAround : goal.returns-in-LookAround
returns-in-LookAround c =
    only_child c.args.expr.now c.in-LookAround.body.value c.args.i _ (ap below c.in-LookAround.is) c.requires c.deref-in-LookAround.ensures

pub returns-in-Repeat : goal.returns-in-Repeat
returns-in-Repeat c = only_child c.args.expr.now c.in-Repeat.child.value c.args.i _ (ap below c.in-Repeat.is) c.requires c.deref-in-Repeat.ensures

pub returns-in-AtomicGroup : goal.returns-in-AtomicGroup
returns-in-AtomicGroup c =
    only_child c.args.expr.now c.in-AtomicGroup.body.value c.args.i _ (ap below c.in-AtomicGroup.is) c.requires c.deref-in-AtomicGroup.ensures

pub returns-in-DefineGroup : goal.returns-in-DefineGroup
returns-in-DefineGroup c =
    only_child c.args.expr.now c.in-DefineGroup.definitions.value c.args.i _ (ap below c.in-DefineGroup.is) c.requires c.deref-in-DefineGroup.ensures

pub returns-then-i-eq0 : goal.returns-then-i-eq0
returns-then-i-eq0 c = child_at c.args.expr.now _ c.args.i 0 _ (ap below c.in-Conditional.is) c.if-i-eq0.true c.deref-then-i-eq0.ensures

pub absent_part-requires : goal.absent_part-requires
absent_part-requires c = subst (λ e. c.args.i < length (below e)) c.in-Absent.is c.requires

pub returns-in-Absent : goal.returns-in-Absent
returns-in-Absent c = c.absent_part.ensures ∙ ap (λ e. get_or (below e) c.args.i c.absent_part.result.now) (sym c.in-Absent.is)
