-- The cases of the calls for all matches.
use Rattle.std.proofs.Common.{◌≡◌, ℕ, List, Option, Some, sym, subst}
use Rattle.fancy_steps.specs.declared.search_limits.SearchLimit.{SearchLimit}
use Rattle.fancy_host.specs.declared.options.FancyOptions.{FancyOptions}
use Rattle.fancy_host.specs.declared.outcome.FancyOutcome.{FancyOutcome}
use Rattle.fancy_host.specs.declared.tree.CompiledTree.{CompiledTree}
use Rattle.fancy_host.specs.declared.cursor.FancyCursor.{FancyCursor}
use Rattle.fancy_host.specs.Hosted.{IsSearch}
use Rattle.fancy_host.specs.Lists.{FindsAll, Form, Lists, found}

module _ (form : Form) (text : List ℕ) (o : FancyOptions) (passed : Option SearchLimit) (from : FancyCursor) (old : List ℕ) (outcome : FancyOutcome) where
  pub all_found_by : (read new : List ℕ) (to : FancyCursor) (held : Option CompiledTree) (s taken : CompiledTree) → read ≡ text → IsSearch text o held →
      held ≡ Some s → taken ≡ s → Lists form taken read o passed from old to new outcome →
      FindsAll form text o passed from old held to new outcome
  all_found_by read new to held s taken same search there is h =
      subst (λ m. FindsAll form text o passed from old m to new outcome) (sym there)
      (found (subst (IsSearch text o) there search)
      (subst (λ t. Lists form s t o passed from old to new outcome) same (subst (λ x. Lists form x read o passed from old to new outcome) is h)))
