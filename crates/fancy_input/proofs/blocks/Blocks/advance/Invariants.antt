use Rattle.std.specs.Prelude.{◌≡◌, ◌≤◌, vec_len}
use Rattle.std.specs.Io.KnownBytes.{Keeps}
use Rattle.fancy_input.specs.Blocks.{following}
use Rattle.fancy_input.proofs.blocks.Blocks.advance.Given as goal

abbrev pub invariant-reads : goal.invariant-reads
invariant-reads g l =
    Keeps (following g.R.Read.remaining l.fn.self) (following g.R.Read.remaining l.self) × (l.self.block ≡ 0) × (l.searched ≤ vec_len l.self.read)
