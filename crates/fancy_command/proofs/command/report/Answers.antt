use Rattle.fancy_command.proofs.Performed.{written_by_name, written_as_memory}
use Rattle.fancy_command.proofs.command.report.Goals as goal

pub returns-in-Ok : goal.returns-in-Ok
returns-in-Ok g c =
    written_by_name _ _ c.args.error.now _ c.as_bytes.result.now c.write_line.result c.status.result c.in-Ok.ensures c.as_bytes.ensures.value
    c.write_line.ensures c.status.ensures

pub returns-in-Err : goal.returns-in-Err
returns-in-Err g c =
    written_as_memory _ _ c.args.error.now c.memory_line.result.now c.write_line-in-Err.result c.status-in-Err.result c.memory_line.ensures
    c.write_line-in-Err.ensures c.status-in-Err.ensures
