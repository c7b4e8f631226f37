use Rattle.fancy_matches.specs.Matchers.{numbers_in}
use Rattle.fancy_host.proofs.RowsScanned.{row_written}
use Rattle.fancy_host.proofs.scans.write_row.Goals as goal

pub returns-clause-written : goal.returns-clause-written
returns-clause-written c =
    row_written c.args.groups c.args.index (numbers_in c.args.captures.now) c.args.stopped c.args.at c.stopped_numbers-pattern.result
    c.stopped_numbers-pattern.ensures c.args.room.now c.write_from.new.room c.write_groups.new.room c.requires c.write_from.ensures
    c.write_groups.ensures.written
