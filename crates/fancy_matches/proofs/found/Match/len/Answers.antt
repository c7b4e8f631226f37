use Rattle.std.proofs.Common.{arith}
use Rattle.fancy_matches.proofs.found.Match.len.Goals as goal

pub overflow_sub-result : goal.overflow_sub-result
overflow_sub-result c = let in_order = (c.args.self.now.in_text).in_order in omega (arith, in_order)
