-- A run of an easy tree's program passes a limit only below its bound.
use Rattle.std.proofs.Common.{◌≡◌, ℕ, ◌<◌, true, List, length, Option, Result, Ok, Err, sym, ap, ◌∙◌, subst}
use Rattle.std.specs.Prelude.{IsUtf8, IsFalse}
use Rattle.std.specs.declared.vec.Vec.{Vec}
use Rattle.std.specs.declared.alloc.Global.{Global}
use Rattle.fancy_expr.specs.declared.error.Error.{Error}
use Rattle.fancy_expr.specs.declared.error.Error.TheVariants as error
use Rattle.fancy_expr.specs.declared.error.RuntimeError.{RuntimeError}
use Rattle.fancy_expr.specs.declared.error.RuntimeError.TheVariants as limit
use Rattle.fancy_meaning.specs.Numbers.{usize_max}
use Rattle.fancy_meaning.specs.Options.{RunOptions}
use Rattle.fancy_meaning.specs.Instr.{Prog}
use Rattle.fancy_meaning.specs.Hard.{is_root_hard}
use Rattle.fancy_meaning.specs.Premises.{Input, plan, IsAccepted}
use Rattle.fancy_meaning.specs.Machine.{Task, run}
use Rattle.fancy_meaning.specs.Fits.{run_fits}
use Rattle.fancy_meaning.specs.Theorems.{EasyRun, outcome}
use Rattle.fancy_headline.proofs.Bounds.{branch_bound, backtrack_bound, instruction_bound}
use Rattle.fancy_vm.specs.Bounds.{IfLimit, IsBelowBound, RunMayPass}
use Rattle.fancy_vm.specs.Means.{IsProgramOf}
use Rattle.fancy_steps.specs.Outcomes.{RunAnswers, RunAnswersPair}
use Rattle.fancy_steps.specs.Stops.{outcome_of}
use Rattle.fancy_vm.proofs.MeaningLaws.{may_run}

module _ (program : Prog) (text : List ℕ) (o : RunOptions) (utf8 : IsUtf8 text) (small : length text < usize_max) where
  abbrev task : Task
  task = record { program = program; text = text; options = o }

  module _ (i : Input) (fits : run_fits task ≡ true) (accepted : IsAccepted i (length program.body)) (is : IsProgramOf i program)
      (root : IsFalse (is_root_hard (plan i).analysis)) where
    easy : EasyRun i text o
    easy = (subst (λ (p : Prog). IsAccepted i (length p.body)) is accepted, may_run program text o utf8 small i fits is, root)

    below : (l : RuntimeError) → outcome i text o ≡ outcome_of l → IsBelowBound i text o l
    below limit.BacktrackLimitExceeded passed = λ enough. backtrack_bound i text o easy enough passed
    below limit.StackOverflow passed = (branch_bound i text o easy).1 passed
    below limit.StepLimitExceeded passed = λ enough. instruction_bound i text o easy enough passed

  passes : (l : RuntimeError) → run_fits task ≡ true → run task ≡ outcome_of l → RunMayPass program text o l
  passes l fits passed = record {
    may_pass = λ i accepted is root. below i fits accepted is root l
        (sym (ap (λ p. run (record { program = p; text = text; options = o })) is) ∙ passed);
  }

  pub run_bounds : (result : Result (Option (Vec ℕ Global)) Error) → run_fits task ≡ true → RunAnswers (run task) result →
      IfLimit result (RunMayPass program text o)
  run_bounds (Ok found) fits answers = tt
  run_bounds (Err (error.RuntimeError l)) fits answers = passes l fits answers
  run_bounds (Err error.Memory) fits answers = tt
  run_bounds (Err (error.CompileError e)) fits answers = tt
  run_bounds (Err (error.TreeFault at)) fits answers = tt
  run_bounds (Err error.NestLimitExceeded) fits answers = tt

  pub run_bounds_pair : (result : Result (Option (ℕ × ℕ)) Error) → run_fits task ≡ true → RunAnswersPair (run task) result →
      IfLimit result (RunMayPass program text o)
  run_bounds_pair (Ok found) fits answers = tt
  run_bounds_pair (Err (error.RuntimeError l)) fits answers = passes l fits answers
  run_bounds_pair (Err error.Memory) fits answers = tt
  run_bounds_pair (Err (error.CompileError e)) fits answers = tt
  run_bounds_pair (Err (error.TreeFault at)) fits answers = tt
  run_bounds_pair (Err error.NestLimitExceeded) fits answers = tt
