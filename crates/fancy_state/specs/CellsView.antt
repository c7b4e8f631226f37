-- What the fields of cells stand for.
use Rattle.std.specs.Prelude.{◌^◌, ◌≤◌, length}
use Rattle.fancy_state.specs.OldValues.{Cells, AreInside}
use Rattle.fancy_state.specs.declared.old_values.Cells.TheInside.{Inside}

abbrev pub cells_in : Inside → Cells
cells_in c = record { values = c.values.items; log = c.log.items }

pub record AreLogged (c : Inside) : Type 0 where
  -- so a cell's number takes 32 bits
  pub few : length c.values.items ≤ 2 ^ 32
  pub places : length c.values.items ≤ length c.places.items
  pub inside : AreInside (length c.values.items) c.log.items
