-- What a host is answered that asks whether there is a match.
use Rattle.std.specs.Prelude.{IsFalse, IsTrue, List, ℕ, Option, None, Some, Result, Ok, Err}
use Rattle.std.specs.declared.vec.Vec.{Vec}
use Rattle.std.specs.declared.alloc.Global.{Global}
use Rattle.fancy_expr.specs.declared.error.Error.{Error}
use Rattle.fancy_steps.specs.SearchLimits.{StaysWithin}
use Rattle.fancy_steps.specs.declared.search_limits.SearchLimit.{SearchLimit}
use Rattle.fancy_host.specs.declared.options.FancyOptions.{FancyOptions}
use Rattle.fancy_host.specs.declared.outcome.FancyOutcome.{FancyOutcome}
use Rattle.fancy_host.specs.declared.tree.CompiledTree.{CompiledTree}
use Rattle.fancy_host.specs.Codes.{ok, no_match, unfit}
use Rattle.fancy_host.specs.Hosted.{IsNoSearch, IsPromised, IsSearch, coded, compiled_of, failure_by, fits}

-- whether the answer of a search, whose delegates passed this limit or none, is a match
abbrev pub whether : (passed : Option SearchLimit) → Result (Option (Vec ℕ Global)) Error → FancyOutcome
whether passed (Ok None) = coded no_match
whether passed (Ok (Some numbers)) = coded ok
whether passed (Err e) = failure_by passed e

-- The outcome by what was compiled, where the delegates of the search passed this limit, or none: it is unfit exactly where
-- the options do not fit the program and the text, and a limit of the delegates is told exactly where it was passed.
pub data Tells (t : CompiledTree) (text : List ℕ) (o : FancyOptions) (passed : Option SearchLimit) : FancyOutcome → Type 0 where
  does_not_fit : IsFalse (fits t text o) → Tells t text o passed (coded unfit)
  told : IsTrue (fits t text o) → (answer : Result (Option (Vec ℕ Global)) Error) →
      IsPromised (compiled_of t) text o answer → StaysWithin answer passed → Tells t text o passed (whether passed answer)

-- the outcome by a program that may hold no tree, in bytes that may be no text
pub data FindsAny (text : List ℕ) (o : FancyOptions) (passed : Option SearchLimit) :
    Option CompiledTree → FancyOutcome → Type 0 where
  unsearched : {held : Option CompiledTree} {outcome : FancyOutcome} → IsNoSearch text o held outcome →
      FindsAny text o passed held outcome
  found : {t : CompiledTree} {outcome : FancyOutcome} → IsSearch text o (Some t) → Tells t text o passed outcome →
      FindsAny text o passed (Some t) outcome
