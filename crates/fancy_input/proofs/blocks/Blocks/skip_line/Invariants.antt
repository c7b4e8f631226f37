use Rattle.std.specs.Prelude.{◌≡◌}
use Rattle.fancy_input.proofs.blocks.Blocks.skip_line.Given as goal

abbrev pub invariant-reads : goal.invariant-reads
invariant-reads g l = l.self.block ≡ 0
