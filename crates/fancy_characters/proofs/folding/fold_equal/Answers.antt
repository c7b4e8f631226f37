use Rattle.std.proofs.Common.{refl}
use Rattle.fancy_meaning.specs.Chars.{fold_equal}
use Rattle.fancy_characters.proofs.folding.fold_equal.Goals as goal

pub returns : goal.returns
unfolding fold_equal
returns c = rw (c.simple_fold.ensures, c.simple_fold-2.ensures) refl
