-- The cases of the call that replaces matches.
use Rattle.std.proofs.Common.{◌≡◌, ℕ, Bool, List, Option, Some, sym, subst}
use Rattle.std.specs.Prelude.{IsUtf8}
use Rattle.fancy_steps.specs.declared.search_limits.SearchLimit.{SearchLimit}
use Rattle.fancy_host.specs.declared.options.FancyOptions.{FancyOptions}
use Rattle.fancy_host.specs.declared.outcome.FancyOutcome.{FancyOutcome}
use Rattle.fancy_host.specs.declared.tree.CompiledTree.{CompiledTree}
use Rattle.fancy_host.specs.Hosted.{IsSearch}
use Rattle.fancy_host.specs.Rewritten.{Replaces, ReplacesIn, found, writing}

module _ (text : List ℕ) (o : FancyOptions) (passed : Option SearchLimit) (limit : ℕ) (is_literal : Bool) (replacement old : List ℕ) (outcome : FancyOutcome) where
  pub replaced_by : (read reading after : List ℕ) (held : Option CompiledTree) (s taken : CompiledTree) → read ≡ text → IsSearch text o held →
      reading ≡ replacement → IsUtf8 replacement → held ≡ Some s → taken ≡ s →
      Replaces taken read o passed limit (writing taken is_literal reading) old after outcome →
      ReplacesIn text o passed limit is_literal replacement old held after outcome
  replaced_by read reading after held s taken same search as_read utf8 there is h =
      subst (λ m. ReplacesIn text o passed limit is_literal replacement old m after outcome) (sym there)
      (found (subst (IsSearch text o) there search) utf8
      (subst (λ r. Replaces s text o passed limit (writing s is_literal r) old after outcome) as_read
      (subst (λ t. Replaces s t o passed limit (writing s is_literal reading) old after outcome) same
      (subst (λ x. Replaces x read o passed limit (writing x is_literal reading) old after outcome) is h))))
