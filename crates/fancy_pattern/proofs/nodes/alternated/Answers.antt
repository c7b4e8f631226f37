use Rattle.std.proofs.Common.{◌∙◌, arith}
use Rattle.fancy_pattern.proofs.MadeNodes.{tree-alt, alternated-many}
use Rattle.fancy_pattern.proofs.OneChars.{alt_chars}
use Rattle.fancy_pattern.proofs.nodes.alternated.Goals as goal

pub returns-then-len-gt1-clause-made : goal.returns-then-len-gt1-clause-made
returns-then-len-gt1-clause-made c = tree-alt c.args.branches ∙ alternated-many c.args.branches.items (omega arith)

pub returns-then-len-gt1-clause-one_char : goal.returns-then-len-gt1-clause-one_char
returns-then-len-gt1-clause-one_char c = λ h. alt_chars c.args.branches h
