use Rattle.std.proofs.Common.{arith}
use Rattle.fancy_matches.specs.Matchers.{numbers_in}
use Rattle.fancy_host.proofs.RowsScanned.{group_more}
use Rattle.fancy_host.proofs.scans.write_groups.Goals as goal

pub groups-preserved : goal.groups-preserved
groups-preserved c =
    let l = c.groups in
    group_more (numbers_in c.args.captures.now) c.args.room.now c.args.at c.args.groups l.group l.to l.room l.invariant c.groups-test.true c.requires
    _ c.write_from.new.room c.span_at-start.ensures c.write_from.ensures (omega arith)
