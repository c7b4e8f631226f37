use Rattle.std.proofs.Common.{◌≡◌, ◌-◌, None, length}
use Rattle.fancy_search.specs.Scratches.{Suits, limits_of, passed_of}
use Rattle.fancy_steps.specs.Tasks.{options_of as run_options_of}
use Rattle.fancy_matches.specs.Matchers.{cursor_of}
use Rattle.fancy_host.specs.Hosted.{compiled_of}
use Rattle.fancy_host.proofs.RowsWritten.{Written}
use Rattle.fancy_host.proofs.tree.CompiledTree.write_rows.Given as goal

abbrev pub invariant-rows : goal.invariant-rows
invariant-rows g l =
    Written g.F.Row.form l.width (compiled_of l.self) l.text (run_options_of l.options) (cursor_of l.fn.cursor) l.fn.room l.count l.at
    (cursor_of l.cursor) l.room
    × (length l.room ≡ length l.fn.room)
    × (passed_of l.scratch ≡ None)
    × (limits_of l.scratch ≡ limits_of l.fn.scratch)
    × Suits (compiled_of l.self) l.scratch

abbrev pub decreases-rows : goal.decreases-rows
decreases-rows g l = length l.room - l.at
