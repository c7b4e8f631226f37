use Rattle.std.proofs.Common.{arith}
use Rattle.fancy_compile.proofs.Roots.{root_count, few_groups}
use Rattle.fancy_compile.proofs.compile.total_groups.Goals as goal

pub returns-clause-value : goal.returns-clause-value
returns-clause-value c = λ a r. omega (arith, root_count a c.args.info.now r, c.end_group.ensures, c.start_group.ensures)

pub returns-clause-small : goal.returns-clause-small
returns-clause-small c = omega (
  arith,
  root_count c.requires.0 c.args.info.now c.requires.1,
  few_groups c.requires.0 c.args.info.now c.requires.1,
  c.end_group.ensures,
  c.start_group.ensures,
)
