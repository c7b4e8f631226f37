use Rattle.std.proofs.Common.{◌∙◌, arith}
use Rattle.fancy_expr.proofs.MadeTrees.{tree-concat}
use Rattle.fancy_notation.proofs.MadeTrees.{joined-many}
use Rattle.fancy_expr.proofs.OneChars.{concat_chars}
use Rattle.fancy_notation.proofs.reader.joined.Goals as goal

pub returns-then-len-gt1 : goal.returns-then-len-gt1
returns-then-len-gt1 c = (
  tree-concat c.args.literals ∙ joined-many c.args.literals.items (omega (arith, c.len.ensures, c.args.literals.ok)),
  λ h. concat_chars c.args.literals h,
)
