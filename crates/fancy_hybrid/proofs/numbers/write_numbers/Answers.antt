use Rattle.fancy_hybrid.proofs.CellLaws.{pushed}
use Rattle.fancy_hybrid.proofs.numbers.write_numbers.Goals as goal

pub groups-preserved : goal.groups-preserved
groups-preserved c =
    pushed c.args.from c.args.end c.groups.group c.span_of-start.result.0 c.span_of-start.result.1 c.args.cells.now c.groups.numbers.items
    c.push-in-groups.new.self.items c.push-in-groups-2.new.self.items c.groups.invariant c.in_ok-push-3.ensures.items
    c.in_ok-push-4.ensures.items c.span_of-start.ensures
