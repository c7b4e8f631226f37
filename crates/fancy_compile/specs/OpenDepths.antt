-- How many calls of each group are open.
use Rattle.std.specs.Prelude.{Option, Some, None, if◌then◌else◌, ◌==◌}
use Rattle.std.specs.Borrow.{Bor}
use Rattle.fancy_meaning.specs.OpenCalls.{Depths}
use Rattle.fancy_compile.specs.declared.calls.OpenCall.{OpenCall}
use Rattle.fancy_compile.specs.declared.calls.OpenCall.TheOpen.{OpenCall-F}
use Rattle.fancy_compile.specs.declared.calls.OpenCall.TheFolds.{fold-OpenCall}

abbrev pub outer_depths : Option (Bor Depths) → Depths
outer_depths None g = 0
outer_depths (Some f) g = f.now g

abbrev pub depths_step : OpenCall-F Depths → Depths
depths_step o g = if g == o.group then o.depth else outer_depths o.outer g

abbrev pub depths_in : OpenCall → Depths
depths_in = fold-OpenCall Depths depths_step

abbrev pub depths_of : Option (Bor OpenCall) → Depths
depths_of None g = 0
depths_of (Some o) g = depths_in o.now g
