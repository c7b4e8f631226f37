use Rattle.std.proofs.Common.{◌-◌, length, drop, arith}
use Rattle.std.proofs.KnownBytes.{Appends-kept}
use Rattle.std.proofs.lemmas.List.{length-take, length-drop}
use Rattle.fancy_command.proofs.Parts.{all_written, part_written, nothing_written, more_written, written_at_last}
use Rattle.fancy_command.proofs.printing.write_line.Goals as goal
use Rattle.fancy_command.proofs.printing.write_line.Goals.{in-Ok, in-Err}

pub returns-then-done-line : goal.returns-then-done-line
returns-then-done-line g c = all_written _ c.args.line.now _ c.loop-turn.done (omega arith) c.loop-turn.invariant.1

pub returns-in-Ok-eq0 : goal.returns-in-Ok-eq0
returns-in-Ok-eq0 g c =
    let bytes = rw (c.in-Ok-eq0.is, c.in-Ok-eq0.field-0-test) at c.write.ensures.bytes in
    nothing_written _ c.args.line.now _ _ c.loop-turn.done c.loop-turn.invariant.0 c.if-done-line.false c.loop-turn.invariant.1 bytes

pub returns-in-Err-2 : goal.returns-in-Err-2
returns-in-Err-2 g c =
    part_written _ c.args.line.now _ _ c.loop-turn.done c.loop-turn.invariant.0 (omega arith) c.loop-turn.invariant.1 c.in-Err-2.ensures.bytes

pub loop-turn-preserved : goal.loop-turn-preserved
loop-turn-preserved g c = elim c.match-write.branch [
  | in-Ok w ↦ rw w.done-is (
    omega (
      arith,
      w.in-Ok.ensures.bound,
      length-take (length c.args.line.now - c.loop-turn.done) (drop c.loop-turn.done c.args.line.now),
      length-drop c.loop-turn.done c.args.line.now,
    ),
    more_written _ c.args.line.now _ _ c.loop-turn.done w.in-Ok.count c.loop-turn.invariant.1 w.in-Ok.ensures.bytes,
  )
  | in-Err w ↦ rw w.done-is (c.loop-turn.invariant.0, Appends-kept _ _ _ _ c.loop-turn.invariant.1 w.in-Err.ensures.bytes)
]

pub returns : goal.returns
returns g c = written_at_last _ c.args.line.now _ c.loop-turn.done c.loop-turn.invariant.0 c.loop-turn.invariant.1
