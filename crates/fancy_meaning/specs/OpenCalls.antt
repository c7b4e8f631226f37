-- How many calls of each target are open, and how many more may be opened.
use Rattle.std.specs.Prelude.{ℕ, suc, ◌-◌, List, ◌∷◌, map, sum_by}
use Rattle.fancy_meaning.specs.Tree.{Tree}
use Rattle.fancy_meaning.specs.Nodes.{groups}
use Rattle.fancy_meaning.specs.MatchState.{put}

-- of each group, and with 0 of the whole tree, how many calls are open
abbrev pub Depths : Type 0
Depths = ℕ → ℕ

abbrev pub no_calls : Depths
no_calls g = 0

abbrev pub opened : ℕ → Depths → Depths
opened g depths = put g (suc (depths g)) depths

-- so deep are calls of one target followed
abbrev pub call_depth : ℕ
call_depth = 19

-- the numbers of what can be called
abbrev pub targets : Tree → List ℕ
targets whole = 0 ∷ map (λ h. h.0) (groups whole)

-- how many more calls may be opened where these are open
unfoldable pub free_calls : Tree → Depths → ℕ
free_calls whole depths = sum_by (λ g. call_depth - depths g) (targets whole)
