use Rattle.fancy_regex.proofs.builder.RegexBuilder.tree_within_limit.Goals as goal

pub returns-else-branch : goal.returns-else-branch
returns-else-branch c = record {
  tree = c.in_ok-tree.tree;
  spelled = c.in_ok-tree.ensures;
  exceeds = c.in_ok-is_within_analysis_limit.ensures.exceeded c.if-branch.false;
}
