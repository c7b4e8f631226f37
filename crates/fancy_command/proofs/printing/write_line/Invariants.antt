use Rattle.std.proofs.Common.{◌≤◌, length, take}
use Rattle.std.specs.Io.KnownBytes.{Appends}
use Rattle.fancy_command.proofs.printing.write_line.Given as goal

abbrev pub invariant-loop-turn : goal.invariant-loop-turn
invariant-loop-turn g l =
    (l.done ≤ length l.line)
    × Appends (g.W.Write.contents l.fn.writer) (g.W.Write.contents l.writer) (take l.done l.line)
