use Rattle.std.proofs.Common.{None, map, ap}
use Rattle.fancy_program.specs.Insns.{insn_of}
use Rattle.fancy_code.specs.Drafts.{Draft}
use Rattle.fancy_code.proofs.writer.CodeWriter.new.Goals as goal

pub returns : goal.returns
returns c =
    ap {B = Draft} (λ l. record { instrs = map insn_of l; fresh = c.args.fresh; limit = c.args.limit; fault = None }) c.new.ensures.items
