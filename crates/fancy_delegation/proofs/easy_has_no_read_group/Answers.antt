use Rattle.fancy_delegation.proofs.EasyNodes.{easy_has_no_read_group}
use Rattle.fancy_delegation.proofs.easy_has_no_read_group.Goals as goal

pub returns : goal.returns
returns c = easy_has_no_read_group
