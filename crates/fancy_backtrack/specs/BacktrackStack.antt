-- The choices on a backtrack stack one by one, the last one first.
use Rattle.std.specs.Prelude.{◌≡◌, ◌-◌, ℕ, zero, suc, List, [], ◌∷◌, flat_map, reverse, take, Option, Some, None}
use Rattle.fancy_backtrack.specs.declared.backtrack_stack.StackFrame.{StackFrame}
use Rattle.fancy_backtrack.specs.declared.backtrack_stack.BacktrackStack.{BacktrackStack}
use Rattle.fancy_backtrack.specs.declared.backtrack_stack.Run.{Run}

-- this choice one byte before
abbrev pub one_before : StackFrame → StackFrame
one_before c = record c { config = record (c.config) { place = c.config.place - 1 } }

-- a choice, and such a one at each of so many bytes before
abbrev pub run_choices : (before : ℕ) → StackFrame → List StackFrame
run_choices zero c = c ∷ []
run_choices (suc n) c = c ∷ run_choices n (one_before c)

abbrev pub choices_in : Run → List StackFrame
choices_in r = run_choices r.before r.choice

abbrev pub choices_of : BacktrackStack → List StackFrame
choices_of c = flat_map choices_in (reverse (take c.len c.runs.items))

-- the last one is taken back, if there is one
abbrev pub Pops : List StackFrame → Option StackFrame → List StackFrame → Type 0
Pops old None new = (old ≡ []) × (new ≡ [])
Pops old (Some c) new = old ≡ c ∷ new
