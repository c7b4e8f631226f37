-- What is asked for besides equal ways is needed: the smallest trees where a replacement would change the meaning.
use Rattle.std.specs.Prelude.{◌≡◌, ◌≢◌, ℕ, false, List, [], ◌∷◌, map}
use Rattle.fancy_meaning.specs.Tree.{Tree, none, more, Empty, KeepOut, Literal, Concat, Alt, Group, LookAround, LookBehind, SubroutineCall}
use Rattle.fancy_meaning.specs.OpenCalls.{no_calls}
use Rattle.fancy_meaning.specs.MatchState.{MatchState, Ways, first_state}
use Rattle.fancy_meaning.specs.Ways.{Setting, ways_with, ways}

-- In the tree `(grp empty)` a call of group 1 has the ways of the tree. Put in its place it has none: there is no group
-- any more. So equal ways in the tree as it was are not enough.
abbrev pub CallsNeedTheirGroups : Type 0
CallsNeedTheirGroups = (q : Setting) (s : MatchState) →
    let part = Group 1 Empty in
    let call = SubroutineCall 1 in
    (ways q part call no_calls s ≡ ways q part part no_calls s)
    × (ways q part part no_calls s ≢ [])
    × (ways q call call no_calls s ≡ [])

-- `(alt (cat keep "a") empty)`
abbrev pub two_branches : Tree
two_branches = Alt (more (Concat (more KeepOut (more (Literal 97 false) none))) (more Empty none))

-- the starts that a look-behind of this body keeps, from the end of the text "a"
abbrev pub kept_behind : (ℕ → Ways) → Tree → List ℕ
kept_behind call e =
    let q : Setting = record { text = 97 ∷ []; pos = 1; continued = false; unicode = false } in
    map (λ s. s.kept) (ways_with q call (LookAround LookBehind e) (first_state 1))

-- An alternation alone in an alternation has the same ways. A look-behind of the one tries the first branch from all
-- places back before the second one, and of the other both branches from the nearest place first.
abbrev pub BranchesOfBehindGoInTurn : Type 0
BranchesOfBehindGoInTurn =
    ((q : Setting) (call : ℕ → Ways) (s : MatchState) →
    ways_with q call (Alt (more two_branches none)) s ≡ ways_with q call two_branches s)
    × ((call : ℕ → Ways) → kept_behind call two_branches ≡ 0 ∷ 1 ∷ [])
    × ((call : ℕ → Ways) → kept_behind call (Alt (more two_branches none)) ≡ 1 ∷ 0 ∷ [])
