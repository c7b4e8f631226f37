use Rattle.std.proofs.Common.{arith, sym}
use Rattle.regex_hir.proofs.TextLemmas.{char_at_fits}
use Rattle.fancy_characters.proofs.places.skip_any.Goals as goal

pub overflow_add-result : goal.overflow_add-result
overflow_add-result c = omega (arith, char_at_fits c.args.text.now c.args.ix c.in_ok-c.c (sym c.in_ok-c.ensures))
