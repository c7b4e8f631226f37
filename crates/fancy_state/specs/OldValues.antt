-- What cells held before they were changed, the first change first, and what a branch keeps by it.
use Rattle.std.specs.Prelude.{◌≡◌, ℕ, ◌+◌, ◌<◌, ◌≤◌, List, [], ◌∷◌, ◌++◌, replicate, length, map, drop, reverse, slice_index_or, if◌then◌else◌, ◌==◌}
use Rattle.std.specs.List.{range_with_len}
use Rattle.fancy_meaning.specs.Numbers.{usize_max}
use Rattle.fancy_state.specs.Held.{HeldBranch}
use Rattle.fancy_state.specs.declared.state.Branch.{Branch}
use Rattle.fancy_state.specs.declared.old_values.Old.{Old}

-- what each cell holds; those that are not there yet hold 0
abbrev pub Values : Type 0
Values = ℕ → ℕ

-- what cells hold, and what was logged of them
pub record Cells : Type 0 where
  pub values : List ℕ
  pub log : List Old

-- so many that hold the largest number, and one that holds 0
abbrev pub first_cells : ℕ → Cells
first_cells count = record { values = replicate count usize_max ++ 0 ∷ []; log = [] }

abbrev pub values_of : List ℕ → Values
values_of cells i = slice_index_or cells i 0

-- the first old value of the cell, or what it holds now
abbrev pub old_at : List Old → ℕ → ℕ → ℕ
old_at [] cell now = now
old_at (old ∷ olds) cell now = if cell == old.cell then old.value else old_at olds cell now

-- what the cells held where so many changes were logged
abbrev pub since : List Old → ℕ → Values → Values
since olds mark now cell = old_at (drop mark olds) cell (now cell)

-- ---- cells: the slots, then how many entries the explicit stack has, then these, the last one last

abbrev pub slots_in : ℕ → Values → List ℕ
slots_in n cells = map cells (range_with_len 0 n)

abbrev pub stack_in : ℕ → Values → List ℕ
stack_in n cells = reverse (map cells (range_with_len (n + 1) (cells n)))

-- the stack's entries are among the first so many cells
abbrev pub IsRoomy : ℕ → ℕ → Values → Type 0
IsRoomy n room cells = n + 1 + cells n ≤ room

abbrev pub held_at : ℕ → List Old → Values → Branch → HeldBranch
held_at n olds now b =
    let cells = since olds b.mark now in
    record { pc = b.pc; ix = b.ix; slots = slots_in n cells; stack = stack_in n cells }

unfoldable pub held_branches : ℕ → List Old → Values → List Branch → List HeldBranch
held_branches n olds now bs = map (held_at n olds now) bs

-- the marks fall from a newer branch to an older one, and each branch's stack has its room
abbrev pub Falls : ℕ → ℕ → List Old → Values → ℕ → List Branch → Type 0
Falls n room olds now top [] = Unit {0}
Falls n room olds now top (b ∷ bs) = (b.mark ≤ top) × (IsRoomy n room (since olds b.mark now) × Falls n room olds now b.mark bs)

-- each change was of one of the first so many cells
abbrev pub AreInside : ℕ → List Old → Type 0
AreInside room [] = Unit {0}
AreInside room (old ∷ olds) = (old.cell < room) × AreInside room olds

-- what the cell holds now does not matter: it was changed
abbrev pub IsSettled : List Old → ℕ → Type 0
IsSettled olds cell = (a b : ℕ) → old_at olds cell a ≡ old_at olds cell b

-- up to the mark nothing else was held before
abbrev pub Agrees : ℕ → List Old → Values → List Old → Values → Type 0
Agrees top olds now news new = (mark : ℕ) → mark ≤ top → since olds mark now ≡ since news mark new

-- the mark is the newest branch's
abbrev pub IsNewest : ℕ → List Branch → Type 0
IsNewest mark [] = ⊥
IsNewest mark (b ∷ bs) = mark ≡ b.mark

-- the stack has its room, and each branch's too
pub record IsSound (n : ℕ) (cells : List ℕ) (log : List Old) (bs : List Branch) : Type 0 where
  pub room : IsRoomy n (length cells) (values_of cells)
  pub marks : Falls n (length cells) log (values_of cells) (length log) bs
