-- The promise: what a search for a tree in a text answers. `Tree` to `Answer` say what it speaks of; `WellFormed`,
-- `AnalysisRefusals` and `CompileRefusals` say which trees are refused. How it is kept is no part of it.
use Rattle.std.specs.Prelude.{◌≡◌, ℕ, List, Option}
use Rattle.fancy_meaning.specs.Options.{RunOptions}
use Rattle.fancy_meaning.specs.Answer.{answer, search_of}
use Rattle.fancy_meaning.specs.AnalysisRefusals.{CompileError, AnalysisRefuses, ClassTooBig}
use Rattle.fancy_meaning.specs.CompileRefusals.{CompileRefuses, MayBeTooBig}
use Rattle.fancy_meaning.specs.Premises.{Input, plan, IsAccepted}

-- what a run counts, each up to its limit
pub data Limit : Type 0 where
  Backtracks Branches Instructions : Limit

-- what a search may reply
pub data Reply : Type 0 where
  -- start and end of each group, or that no start has an admitted way
  Found : (numbers : Option (List ℕ)) → Reply
  Refused : CompileError → Reply
  Passed : Limit → Reply
  OutOfMemory : Reply

-- a tree with its options, whose program has so many instructions: `max_prog_size` alone asks for them
module _ (i : Input) (instructions : ℕ) where
  -- a case to refuse the tree holds; a class may be too big for `regex` besides
  pub data IsRefused : CompileError → Type 0 where
    by_analysis : {error : CompileError} → AnalysisRefuses i.parsed i.analysis error → IsRefused error
    by_compiler : {error : CompileError} → CompileRefuses (plan i) instructions error → IsRefused error
    by_regex : {inner : List ℕ} → MayBeTooBig (plan i) inner → IsRefused (ClassTooBig inner)

  -- What is found is the chosen admitted way at the earliest start that has one, of a tree that is accepted. Nothing is
  -- refused but in its cases, and a limit is replied only where the run passes it.
  abbrev pub Promise : (passes : Limit → Type 0) → List ℕ → RunOptions → Reply → Type 0
  Promise passes text o (Found numbers) = IsAccepted i instructions × (numbers ≡ answer (search_of (plan i) text o))
  Promise passes text o (Refused error) = IsRefused error
  Promise passes text o (Passed limit) = IsAccepted i instructions × passes limit
  Promise passes text o OutOfMemory = Unit {0}
