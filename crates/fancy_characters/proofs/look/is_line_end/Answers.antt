use Rattle.std.proofs.Common.{refl}
use Rattle.fancy_meaning.specs.Assertions.{is_line_end}
use Rattle.fancy_characters.proofs.look.is_line_end.Goals as goal

pub returns-then-crlf : goal.returns-then-crlf
unfolding is_line_end
returns-then-crlf c = rw (c.if-crlf.true, c.is_before.ensures, c.is_before-then-crlf.ensures, c.is_after.ensures) refl

pub returns-else-crlf : goal.returns-else-crlf
unfolding is_line_end
returns-else-crlf c = rw (c.if-crlf.false, c.is_before-else-crlf.ensures) refl
