use Rattle.std.proofs.Common.{ap}
use Rattle.std.specs.Char.{eq_ignore_ascii_case}
use Rattle.fancy_meaning.specs.Chars.{fold_equal, folds_to}
use Rattle.fancy_hybrid.proofs.RangeLaws.{folds_made, one_made}
use Rattle.fancy_hybrid.proofs.ranges.of_literal.Goals as goal

pub returns-then-not-casei : goal.returns-then-not-casei
returns-then-not-casei c = one_made _ c.args.unicode c.args.casei c.args.c c.if-not-casei.true c.from_ranges.ensures

pub returns-then-unicode : goal.returns-then-unicode
returns-then-unicode c =
    folds_made _ c.args.unicode c.args.casei c.args.c (fold_equal c.args.c) c.if-not-casei.false
    (λ d. ap (λ u. folds_to u c.args.c d) c.if-unicode.true) c.folded.ensures

pub returns-else-unicode : goal.returns-else-unicode
returns-else-unicode c =
    folds_made _ c.args.unicode c.args.casei c.args.c (eq_ignore_ascii_case c.args.c) c.if-not-casei.false
    (λ d. ap (λ u. folds_to u c.args.c d) c.if-unicode.false) c.both_cases.ensures
