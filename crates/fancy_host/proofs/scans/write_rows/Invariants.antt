use Rattle.std.proofs.Common.{◌≤◌, ◌-◌, List, length}
use Rattle.fancy_scanner.specs.Scanning.{Rule}
use Rattle.fancy_scanner.specs.Scans.{GoesOn, IsScanOf, text_of}
use Rattle.fancy_host.proofs.RowsScanned.{Written}
use Rattle.fancy_host.proofs.scans.write_rows.Given as goal

abbrev pub invariant-rows : goal.invariant-rows
invariant-rows l =
    GoesOn l.fn.scan l.scan × (l.at ≤ length l.room) × (l.count ≤ l.at)
    × ((rules : List Rule) → IsScanOf rules l.fn.scan → Written rules (text_of l.fn.scan) l.groups l.fn.pos l.fn.room l.count l.at l.pos l.room)

abbrev pub decreases-rows : goal.decreases-rows
decreases-rows l = length l.room - l.at
