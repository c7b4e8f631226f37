use Rattle.std.proofs.Common.{◌≡◌, ◌++◌, length, string_bytes}
use Rattle.fancy_expr.specs.Exprs.{exprs}
use Rattle.fancy_expr.proofs.Texts.{spelled_first}
use Rattle.fancy_expr.proofs.text.+push_node.Given as goal

abbrev pub decreases-push_node : goal.decreases-push_node
decreases-push_node l = length (exprs l.expr.now)

abbrev pub invariant-loop-i : goal.invariant-loop-i
invariant-loop-i l = string_bytes l.text ≡ string_bytes l.initial.text ++ spelled_first l.expr l.i
