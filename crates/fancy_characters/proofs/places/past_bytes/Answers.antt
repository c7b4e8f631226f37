use Rattle.std.proofs.Common.{arith, sym}
use Rattle.regex_hir.proofs.TextLemmas.{has_bytes_at_fits}
use Rattle.fancy_characters.proofs.places.past_bytes.Goals as goal

pub overflow_add-result : goal.overflow_add-result
overflow_add-result c = omega (arith, has_bytes_at_fits c.args.text.now c.args.ix c.args.bytes.now (sym c.if-stand_at.ensures))
