use Rattle.std.proofs.Common.{ap, arith}
use Rattle.fancy_expr.specs.Walk.{start_inside}
use Rattle.fancy_expr.proofs.Groups.{count-below}
use Rattle.fancy_expr.proofs.Starts.{start-own}
use Rattle.fancy_expr.proofs.walk.start_inside.Goals as goal

pub overflow_add-result : goal.overflow_add-result
overflow_add-result c =
    omega (
      arith,
      c.requires,
      count-below c.args.expr.now,
      start-own c.args.expr.now c.args.start_group,
      ap (λ x. start_inside x c.args.start_group) c.in-Group.is,
    )
