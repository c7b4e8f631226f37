use Rattle.fancy_code.specs.Sites.{within_node}
use Rattle.fancy_code.proofs.Alone.{wrote_bytes}
use Rattle.fancy_code.proofs.writer.CodeWriter.emit_bytes.Goals as goal

pub returns-in-Ok : goal.returns-in-Ok
returns-in-Ok c = λ p call at_start in_hard room.
    wrote_bytes p call at_start in_hard _ _ room c.args.bytes.now _ c.in-Ok.ensures (c.push.ensures.writes (within_node p))

pub returns-in-Err : goal.returns-in-Err
returns-in-Err c = λ p call at_start in_hard room. c.fail.ensures p _ _ tt
