use Rattle.std.proofs.Common.{length, ap, ◌∙◌, arith}
use Rattle.fancy_expr.proofs.Exprs.{below-concat, below-alt}
use Rattle.fancy_expr.proofs.Texts.{spelled_concat, spelled_alt}
use Rattle.fancy_expr.proofs.text.spelled_count.Goals as goal

pub returns-in-Concat : goal.returns-in-Concat
returns-in-Concat c = omega (arith, c.len.ensures, ap length (spelled_concat _ _ c.in-Concat.is ∙ below-concat _ _ c.in-Concat.is))

pub returns-in-Alt : goal.returns-in-Alt
returns-in-Alt c = omega (arith, c.len-in-Alt.ensures, ap length (spelled_alt _ _ c.in-Alt.is ∙ below-alt _ _ c.in-Alt.is))
