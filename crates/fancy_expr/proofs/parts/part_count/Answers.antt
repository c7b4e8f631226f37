use Rattle.std.proofs.Common.{length, ap, sym, ◌∙◌, arith}
use Rattle.fancy_expr.proofs.Exprs.{below-concat, below-alt}
use Rattle.fancy_expr.specs.Exprs.{below}
use Rattle.fancy_expr.proofs.parts.part_count.Goals as goal

pub returns-in-Concat : goal.returns-in-Concat
returns-in-Concat c = omega (arith, c.len.ensures, ap length (below-concat _ _ c.in-Concat.is))

pub returns-in-Alt : goal.returns-in-Alt
returns-in-Alt c = omega (arith, c.len-in-Alt.ensures, ap length (below-alt _ _ c.in-Alt.is))

pub returns-in-Group : goal.returns-in-Group
returns-in-Group c = ap (λ e. length (below e)) (sym c.in-Group.is)

pub returns-in-LookAround : goal.returns-in-LookAround
returns-in-LookAround c = ap (λ e. length (below e)) (sym c.in-LookAround.is)

pub returns-in-Repeat : goal.returns-in-Repeat
returns-in-Repeat c = ap (λ e. length (below e)) (sym c.in-Repeat.is)

pub returns-in-AtomicGroup : goal.returns-in-AtomicGroup
returns-in-AtomicGroup c = ap (λ e. length (below e)) (sym c.in-AtomicGroup.is)

pub returns-in-Conditional : goal.returns-in-Conditional
returns-in-Conditional c = ap (λ e. length (below e)) (sym c.in-Conditional.is)

pub returns-in-DefineGroup : goal.returns-in-DefineGroup
returns-in-DefineGroup c = ap (λ e. length (below e)) (sym c.in-DefineGroup.is)

pub returns-in-Absent : goal.returns-in-Absent
returns-in-Absent c = c.absent_part_count.ensures ∙ ap (λ e. length (below e)) (sym c.in-Absent.is)
