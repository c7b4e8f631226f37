use Rattle.fancy_laws.proofs.SettableGroups.{settable_groups_law}
use Rattle.fancy_laws.proofs.settable_groups_law.Goals as goal

pub returns : goal.returns
returns c = settable_groups_law
