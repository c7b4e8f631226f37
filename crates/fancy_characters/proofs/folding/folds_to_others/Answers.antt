use Rattle.std.proofs.Common.{arith}
use Rattle.fancy_characters.proofs.FoldingLaws.{no_fold_beyond}
use Rattle.fancy_characters.proofs.folding.folds_to_others.Goals as goal

pub returns-else-lower-eq107 : goal.returns-else-lower-eq107
returns-else-lower-eq107 c = λ s d scalar far.
    rw c.if-unicode.true
    (no_fold_beyond c.args.c d c.ascii_lower-lower.result (omega (arith, c.if-c-ge128.false)) far c.ascii_lower-lower.ensures
    c.if-lower-eq107.false s)
