use Rattle.std.proofs.Common.{◌∙◌, arith}
use Rattle.fancy_pattern.proofs.MadeNodes.{tree-concat, joined-many}
use Rattle.fancy_pattern.proofs.OneChars.{concat_chars}
use Rattle.fancy_pattern.proofs.nodes.joined.Goals as goal

pub returns-then-len-gt1-clause-made : goal.returns-then-len-gt1-clause-made
returns-then-len-gt1-clause-made c = tree-concat c.args.pieces ∙ joined-many c.args.pieces.items (omega arith)

pub returns-then-len-gt1-clause-one_char : goal.returns-then-len-gt1-clause-one_char
returns-then-len-gt1-clause-one_char c = λ h. concat_chars c.args.pieces h
