use Rattle.std.proofs.Common.{◌∙◌}
use Rattle.fancy_meaning.specs.WellFormed.{refers}
use Rattle.fancy_expr.proofs.Listed.{any-nodes}
use Rattle.fancy_expr.proofs.well_formed.is_referred_to.Goals as goal

pub returns : goal.returns
returns c = c.has_node.ensures ∙ any-nodes (refers c.args.group) c.args.tree.now.expr
