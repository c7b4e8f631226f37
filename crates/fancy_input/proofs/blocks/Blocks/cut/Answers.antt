use Rattle.std.proofs.Common.{◌+◌}
use Rattle.fancy_input.proofs.BlockLaws.{cuts}
use Rattle.fancy_input.proofs.blocks.Blocks.cut.Goals as goal

pub returns-in-Some-clause-bytes : goal.returns-in-Some-clause-bytes
returns-in-Some-clause-bytes g c =
    let s = c.args.self.now in
    cuts s.block (c.args.searched + c.in-Some.at + 1) s.read.items (g.R.Read.remaining s.reader) c.requires.block
