use Rattle.std.proofs.Common.{sym, ap, ◌∙◌}
use Rattle.fancy_expr.specs.Views.{tree_of}
use Rattle.fancy_pattern.specs.Grammar.{is_empty}
use Rattle.fancy_pattern.proofs.MadeNodes.{absent_is_some}
use Rattle.fancy_pattern.proofs.nodes.is_empty.Goals as goal

pub returns-in-Absent : goal.returns-in-Absent
returns-in-Absent c = sym (ap (λ e. is_empty (tree_of e)) c.in-Absent.is ∙ absent_is_some c.in-Absent.field-0)
