use Rattle.std.proofs.Common.{refl, sym}
use Rattle.fancy_meaning.specs.Moves.{pieces_fold}
use Rattle.fancy_characters.proofs.pieces.pieces_fold.Goals as goal

pub returns-then-eq : goal.returns-then-eq
unfolding pieces_fold
returns-then-eq c = rw (sym c.if-eq.ensures) refl

pub returns-then-unicode : goal.returns-then-unicode
unfolding pieces_fold
returns-then-unicode c = rw (sym c.if-eq.ensures, c.if-unicode.true) c.spell_fold_equal.ensures

pub returns-else-unicode : goal.returns-else-unicode
unfolding pieces_fold
returns-else-unicode c =
    rw (sym c.if-eq.ensures, c.if-unicode.false, c.all_ascii.ensures, c.all_ascii-else-unicode.ensures, c.ascii_fold_equal.ensures) refl
