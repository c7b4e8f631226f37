-- What a scratch holds: the memory of runs, and an engine of the tree that was searched for.
use Rattle.std.specs.Prelude.{ℕ, IfSome, Option}
use Rattle.fancy_meaning.specs.Premises.{Input}
use Rattle.fancy_hybrid.specs.Patterns.{IsEngineOf}
use Rattle.fancy_hybrid.specs.declared.engine.Engine.{Engine}
use Rattle.fancy_steps.specs.declared.search_limits.SearchCost.{SearchCost}
use Rattle.fancy_steps.specs.declared.search_limits.SearchLimit.{SearchLimit}
use Rattle.fancy_steps.specs.declared.search_limits.SearchLimits.{SearchLimits}
use Rattle.fancy_vm.specs.Scratches as runs
use Rattle.fancy_search.specs.Searches.{IsCompiledFrom}
use Rattle.fancy_search.specs.declared.scratch.Scratch.{Scratch}
use Rattle.fancy_search.specs.declared.search.Compiled.{Compiled}

abbrev pub limits_of : Scratch → SearchLimits
limits_of s = runs.limits_of s.runs

-- what the delegates of its last search took
abbrev pub cost_of : Scratch → SearchCost
cost_of s = runs.cost_of s.runs

-- how much its last search did
abbrev pub work_of : Scratch → ℕ
work_of s = runs.work_of s.runs

-- the limit that its last search passed
abbrev pub passed_of : Scratch → Option SearchLimit
passed_of s = runs.passed_of s.runs

-- it finds the first ways of whatever tree this was compiled from
abbrev pub IsGearOf : Compiled → Engine → Type 0
IsGearOf compiled engine = (i : Input) → IsCompiledFrom i compiled → ∥ IsEngineOf (i.options).unicode (i.parsed).tree engine ∥₁

-- its engine, if it holds one, does
abbrev pub Suits : Compiled → Scratch → Type 0
Suits compiled s = IfSome s.engine (λ engine. IsGearOf compiled engine.value)
