-- What a host is answered of a tree that is easy as a whole.
use Rattle.std.specs.Prelude.{◌≡◌, ◌≢◌, ◌+◌, ◌*◌, ◌-◌, ◌<◌, ◌^◌, ℕ, IsFalse, List, length, None, Option, Some, slice_get}
use Rattle.fancy_meaning.specs.Hard.{is_root_hard}
use Rattle.fancy_meaning.specs.Premises.{Input, plan}
use Rattle.fancy_expr.specs.declared.error.RuntimeError.{RuntimeError}
use Rattle.fancy_search.specs.Searches.{IsCompiledFrom}
use Rattle.fancy_scanner.specs.Scanning.{AreEasyRuns, Rule}
use Rattle.fancy_scanner.specs.declared.scanner.TreeScanner.{TreeScanner}
use Rattle.fancy_host.specs.declared.options.FancyOptions.{FancyOptions}
use Rattle.fancy_host.specs.declared.outcome.FancyOutcome.{FancyOutcome}
use Rattle.fancy_host.specs.declared.tree.CompiledTree.{CompiledTree}
use Rattle.fancy_host.specs.Codes.{code_of_run}
use Rattle.fancy_host.specs.Hosted.{compiled_of, given_backtracks}
use Rattle.fancy_host.specs.Scanned.{IsHeldBy, width_of}

-- no limit of backtracks was asked, and as many instructions as can be counted are allowed
abbrev pub HasNoLimits : FancyOptions → Type 0
HasNoLimits o = (given_backtracks o ≡ None) × (o.step_limit ≡ 2 ^ 64 - 1)

-- it tells of no limit of backtracks, branches or instructions
abbrev pub IsNoLimit : FancyOutcome → Type 0
IsNoLimit outcome = (limit : RuntimeError) → outcome.code ≢ code_of_run limit

-- Where no limit of backtracks or instructions was asked and the whole tree is easy, neither is passed in a text of fewer
-- than 2 ^ 60 bytes. A limit of visits or memory may be.
abbrev pub IsNoLimitWhereEasy : Option CompiledTree → List ℕ → FancyOptions → FancyOutcome → Type 0
IsNoLimitWhereEasy held text o outcome =
    (t : CompiledTree) (i : Input) → held ≡ Some t → IsCompiledFrom i (compiled_of t) →
    IsFalse (is_root_hard (plan i).analysis) → HasNoLimits o → length text < 2 ^ 60 → IsNoLimit outcome

-- nor does one of so many rows with so many groups
abbrev pub AreNoLimitRows : ℕ → List ℕ → ℕ → Type 0
AreNoLimitRows groups numbers count =
    (k : ℕ) (limit : RuntimeError) → k < count → slice_get numbers (k * width_of groups + 2) ≢ Some (code_of_run limit)

-- The same of a scan: where each pattern is easy as a whole, and no limit of backtracks or instructions was asked of any.
abbrev pub IsNoLimitWhereAllEasy : Option TreeScanner → List ℕ → ℕ → List ℕ → FancyOutcome → Type 0
IsNoLimitWhereAllEasy held text groups rows outcome =
    (rules : List Rule) → IsHeldBy rules text held → AreEasyRuns text rules → length text < 2 ^ 60 →
    IsNoLimit outcome × AreNoLimitRows groups rows outcome.count
