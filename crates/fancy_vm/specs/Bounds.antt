-- Which limits a run may pass where the whole tree is easy.
use Rattle.std.specs.Prelude.{ℕ, ◌*◌, ◌≤◌, List, length, Result, Err, IsFalse}
use Rattle.fancy_meaning.specs.Hard.{is_root_hard}
use Rattle.fancy_meaning.specs.Instr.{Prog}
use Rattle.fancy_meaning.specs.Options.{RunOptions}
use Rattle.fancy_meaning.specs.Premises.{Input, plan, IsAccepted}
use Rattle.fancy_meaning.specs.Theorems.{tried}
use Rattle.fancy_expr.specs.declared.error.Error.{Error}
use Rattle.fancy_expr.specs.declared.error.Error.TheVariants as error
use Rattle.fancy_expr.specs.declared.error.RuntimeError.{RuntimeError}
use Rattle.fancy_expr.specs.declared.error.RuntimeError.TheVariants as limit
use Rattle.fancy_vm.specs.Means.{IsProgramOf}

module _ (i : Input) (text : List ℕ) (o : RunOptions) where
  -- one backtrack and eight instructions for each start that may be tried are more than the limit, and no number of
  -- branches is
  abbrev pub IsBelowBound : RuntimeError → Type 0
  IsBelowBound limit.BacktrackLimitExceeded = ¬ (tried i text o ≤ o.backtrack_limit)
  IsBelowBound limit.StackOverflow = ⊥
  IsBelowBound limit.StepLimitExceeded = ¬ (8 * tried i text o ≤ o.step_limit)

  -- where the whole tree is easy, a limit is passed only if it is below its bound
  abbrev pub MayPass : RuntimeError → Type 0
  MayPass l = IsFalse (is_root_hard (plan i).analysis) → IsBelowBound l

-- so it is of whatever accepted tree is laid out as the program
pub record RunMayPass (program : Prog) (text : List ℕ) (o : RunOptions) (l : RuntimeError) : Type 0 where
  pub may_pass : (i : Input) → IsAccepted i (length program.body) → IsProgramOf i program → MayPass i text o l

-- P of the limit that was passed, if one was
abbrev pub IfLimit : {A : Type 0} → Result A Error → (RuntimeError → Type 0) → Type 0
IfLimit (Err (error.RuntimeError l)) P = P l
IfLimit r P = Unit {0}
