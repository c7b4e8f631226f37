use Rattle.std.proofs.Common.{refl}
use Rattle.fancy_meaning.specs.Assertions.{is_line_start}
use Rattle.fancy_characters.proofs.look.is_line_start.Goals as goal

pub returns : goal.returns
unfolding is_line_start
returns c = rw (c.is_after.ensures, c.is_after-2.ensures, c.is_before.ensures) refl
