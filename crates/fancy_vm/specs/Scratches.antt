-- What a scratch holds, and what its last run took.
use Rattle.std.specs.Prelude.{◌≡◌, ◌+◌, ℕ, min, Option, Some, None}
use Rattle.std.specs.declared.alloc.Global.{Global}
use Rattle.fancy_meaning.specs.Numbers.{usize_max}
use Rattle.fancy_steps.specs.SearchLimits.{no_cost, passed_by}
use Rattle.fancy_steps.specs.declared.memos.Memos.{Memos}
use Rattle.fancy_steps.specs.declared.search_limits.SearchCost.{SearchCost}
use Rattle.fancy_steps.specs.declared.search_limits.SearchLimit.{SearchLimit}
use Rattle.fancy_steps.specs.declared.search_limits.SearchLimits.{SearchLimits}
use Rattle.fancy_vm.specs.declared.runs.Scratch.{Scratch}

-- the allocator of what a scratch holds
abbrev pub allocator_of : Scratch → Global
allocator_of s = (s.room).alloc

-- it holds no memory
abbrev pub IsUnused : Scratch → Type 0
IsUnused s = ((s.room).state ≡ None) × ((s.room).memos ≡ None)

abbrev pub cost_in : Option Memos → SearchCost
cost_in None = no_cost
cost_in (Some memos) = memos.cost

abbrev pub limits_of : Scratch → SearchLimits
limits_of s = s.limits

-- what its last run took
abbrev pub cost_of : Scratch → SearchCost
cost_of s = cost_in (s.room).memos

-- how much the machine of its last run did
abbrev pub machine_work_of : Scratch → ℕ
machine_work_of s = (s.room).work

-- how much its last run did
abbrev pub work_of : Scratch → ℕ
work_of s = min usize_max ((cost_of s).visits + machine_work_of s)

-- what failed attempts of its runs took
abbrev pub spent_of : Scratch → ℕ
spent_of s = (s.room).spent

-- the limit that its last run passed
abbrev pub passed_of : Scratch → Option SearchLimit
passed_of s = passed_by (limits_of s) (cost_of s)
