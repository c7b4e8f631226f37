use Rattle.std.proofs.Common.{map, ap, ◌∙◌}
use Rattle.fancy_meaning.specs.Tree.{Alt, trees}
use Rattle.fancy_pattern.specs.Grammar.{named}
use Rattle.fancy_pattern.proofs.MadeNodes.{tree-alt}
use Rattle.fancy_pattern.proofs.nodes.each_group.Goals as goal

pub returns : goal.returns
returns c =
    tree-alt c.in_ok-nodes.nodes
    ∙ ap (λ l. Alt (trees l)) (c.in_ok-nodes.ensures
    ∙ ap (map (named c.args.naming c.args.level)) (c.deref.ensures.value ∙ c.in_ok-backward.ensures))
