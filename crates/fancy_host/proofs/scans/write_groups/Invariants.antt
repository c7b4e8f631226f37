use Rattle.std.proofs.Common.{◌-◌}
use Rattle.fancy_matches.specs.Matchers.{numbers_in}
use Rattle.fancy_host.proofs.RowsScanned.{GroupsWritten}
use Rattle.fancy_host.proofs.scans.write_groups.Given as goal

abbrev pub invariant-groups : goal.invariant-groups
invariant-groups l = GroupsWritten (numbers_in l.captures) l.fn.room l.at l.groups l.group l.to l.room

abbrev pub decreases-groups : goal.decreases-groups
decreases-groups l = l.groups - l.group
