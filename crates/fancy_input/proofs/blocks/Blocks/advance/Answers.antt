use Rattle.fancy_input.specs.Blocks.{following}
use Rattle.fancy_input.proofs.BlockLaws.{all_is_block}
use Rattle.fancy_input.proofs.blocks.Blocks.advance.Goals as goal

pub returns-then-not-branch-clause-bytes : goal.returns-then-not-branch-clause-bytes
returns-then-not-branch-clause-bytes g c =
    let known = g.R.Read.remaining in
    let cut = c.cut.new.self in
    let more = c.read_more.new.self in
    all_is_block (following known c.args.self.now) (following known c.reads.self) (following known cut)
    cut.block c.len-self.result more.block cut.read.items more.read.items (known more.reader)
    c.reads.invariant.0 (c.cut.ensures.none c.if-cut.false) c.cut.ensures.bytes c.read_more.ensures.bytes c.read_more.ensures.block
