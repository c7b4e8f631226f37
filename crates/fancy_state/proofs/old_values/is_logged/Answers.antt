use Rattle.std.proofs.Common.{arith}
use Rattle.fancy_state.proofs.OldLaws.{same_of, settled_at, settled_drop}
use Rattle.fancy_state.proofs.old_values.is_logged.Goals as goal

pub returns-then-place-log : goal.returns-then-place-log
returns-then-place-log c same =
    settled_drop c.args.log.now c.args.mark c.args.place c.args.cell (omega arith)
    (settled_at c.args.log.now c.args.place _ c.args.cell (omega arith) (same_of _ c.args.cell same))
