-- What a state's fields stand for.
use Rattle.std.specs.Prelude.{length, reverse}
use Rattle.fancy_state.specs.Held.{Held, StateView}
use Rattle.fancy_state.specs.OldValues.{values_of, slots_in, stack_in, held_branches, IsSound}
use Rattle.fancy_state.specs.declared.state.State.TheInside.{Inside}

abbrev pub held : Inside → Held
held s =
    let now = values_of s.cells.values in
    record {
      slots = slots_in s.slot_count now;
      stack = stack_in s.slot_count now;
      branches = held_branches s.slot_count s.cells.log now (reverse s.branches.items);
      max_stack = s.max_stack;
    }

abbrev pub state_view : Inside → StateView
state_view s = record { held = held s; logged = length s.cells.log }

abbrev pub IsLogged : Inside → Type 0
IsLogged s = IsSound s.slot_count s.cells.values s.cells.log (reverse s.branches.items)
