-- The cases of the call that asks whether there is a match.
use Rattle.std.proofs.Common.{◌≡◌, ℕ, List, Option, Some, false, sym, subst}
use Rattle.fancy_meaning.specs.Fits.{run_fits}
use Rattle.fancy_meaning.specs.Options as plain
use Rattle.fancy_program.specs.Programs.{prog_of}
use Rattle.fancy_search.specs.Searches.{program}
use Rattle.fancy_steps.specs.declared.search_limits.SearchLimit.{SearchLimit}
use Rattle.fancy_host.specs.declared.options.FancyOptions.{FancyOptions}
use Rattle.fancy_host.specs.declared.outcome.FancyOutcome.{FancyOutcome}
use Rattle.fancy_host.specs.declared.tree.CompiledTree.{CompiledTree}
use Rattle.fancy_host.specs.Codes.{unfit}
use Rattle.fancy_host.specs.Hosted.{IsSearch, coded, compiled_of, running}
use Rattle.fancy_host.specs.Whether.{FindsAny, Tells, does_not_fit, found}
use Rattle.fancy_host.proofs.Answered.{unfit_by}

module _ (text : List ℕ) (o : FancyOptions) (passed : Option SearchLimit) (outcome : FancyOutcome) where
  pub any_found_by : (read : List ℕ) (held : Option CompiledTree) (s taken : CompiledTree) → read ≡ text → IsSearch text o held →
      held ≡ Some s → taken ≡ s → Tells taken read o passed outcome → FindsAny text o passed held outcome
  any_found_by read held s taken same search there is h =
      subst (λ m. FindsAny text o passed m outcome) (sym there)
      (found (subst (IsSearch text o) there search)
      (subst (λ t. Tells s t o passed outcome) same (subst (λ x. Tells x read o passed outcome) is h)))

  pub unfit_tells : (s : CompiledTree) (r : plain.RunOptions) → r ≡ running o text →
      run_fits (record { program = prog_of (program (compiled_of s)); text = text; options = r }) ≡ false → outcome ≡ coded unfit →
      Tells s text o passed outcome
  unfit_tells s r same h is = subst (Tells s text o passed) (sym is) (does_not_fit (unfit_by (compiled_of s) text o r same h))
