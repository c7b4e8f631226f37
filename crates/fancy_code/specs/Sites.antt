-- Where a node is written: by a plan, below these open calls, and within other nodes.
use Rattle.fancy_meaning.specs.OpenCalls.{Depths, opened, no_calls}
use Rattle.fancy_meaning.specs.Options.{Plan}
use Rattle.std.specs.Prelude.{ℕ, ◌-◌, ◌<◌, Option, option_map}
use Rattle.std.specs.Option.{ForSome}

pub record Site : Type 0 where
  pub depths : Depths
  -- how many nodes may stand in one another here
  pub room : Option ℕ
  pub plan : Plan
  pub open plan use *

-- the whole program
abbrev pub top : Plan → Option ℕ → Site
top p room = record { plan = p; depths = no_calls; room = room }

-- below one more call
abbrev pub under_call : ℕ → Site → Site
under_call g p = record { plan = p.plan; depths = opened g p.depths; room = p.room }

-- within one more node
abbrev pub within_node : Site → Site
within_node p = record { plan = p.plan; depths = p.depths; room = option_map (λ n. n - 1) p.room }

-- one more node may stand here
abbrev pub HasRoom : Site → Type 0
HasRoom p = ForSome p.room (λ n. 0 < n)
