use Rattle.std.proofs.Common.{◌+◌, ◌*◌, length, map, take}
use Rattle.fancy_expr.specs.Exprs.{below, exprs}
use Rattle.fancy_expr.specs.Views.{tree_of}
use Rattle.fancy_hybrid.specs.Translations.{AreTranslated}
use Rattle.fancy_hybrid.proofs.translate.Translator.+translate.Given as goal

abbrev pub decreases-node : goal.decreases-node
decreases-node l = 2 * length (exprs l.expr.now) + 1

abbrev pub decreases-each_below : goal.decreases-each_below
decreases-each_below l = 2 * length (exprs l.expr.now)

abbrev pub invariant-each_below-loop-i : goal.invariant-each_below-loop-i
invariant-each_below-loop-i l = AreTranslated l.self.unicode l.first (map tree_of (take l.i (below l.expr))) l.parts
