use Rattle.std.proofs.Common.{◌≡◌, ◌∙◌, subst, sym}
use Rattle.fancy_meaning.specs.Enumerates.{IsLimit}
use Rattle.fancy_meaning.specs.Machine.{run}
use Rattle.fancy_limits.specs.Limits.{with_step_limit}
use Rattle.fancy_limits.proofs.Steps.{higher_step_limit}
use Rattle.fancy_limits.proofs.Backtracks.{higher_backtrack_limit}
use Rattle.fancy_limits.proofs.limits_are_monotone.Goals as goal

pub returns : goal.returns
returns c = λ t backtracks steps b s none.
    let more : run (with_step_limit steps t) ≡ run t = higher_step_limit t steps s (λ e. none (subst IsLimit (sym e) tt)) in
    higher_backtrack_limit (with_step_limit steps t) backtracks b (λ e. none (subst IsLimit (sym e ∙ more) tt)) ∙ more
