use Rattle.std.proofs.Common.{sym, ap}
use Rattle.fancy_meaning.specs.PatternText as plain
use Rattle.fancy_expr.proofs.text.line_start.Goals as goal

pub returns-then-crlf : goal.returns-then-crlf
returns-then-crlf c = ap (λ b. plain.line_edge b "^") (sym c.if-crlf.true)

pub returns-else-crlf : goal.returns-else-crlf
returns-else-crlf c = ap (λ b. plain.line_edge b "^") (sym c.if-crlf.false)
