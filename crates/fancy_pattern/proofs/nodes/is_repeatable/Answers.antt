use Rattle.std.proofs.Common.{sym, ap, ◌∙◌}
use Rattle.fancy_expr.specs.Views.{tree_of}
use Rattle.fancy_pattern.specs.Grammar.{is_repeatable}
use Rattle.fancy_pattern.proofs.MadeNodes.{absent_is_repeatable}
use Rattle.fancy_pattern.proofs.nodes.is_repeatable.Goals as goal

pub returns-in-Absent : goal.returns-in-Absent
returns-in-Absent c = sym (ap (λ e. is_repeatable (tree_of e)) c.in-Absent.is ∙ absent_is_repeatable c.in-Absent.field-0)
