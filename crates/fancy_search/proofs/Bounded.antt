-- Where the whole tree is easy, a search passes a limit only below its bound.
use Rattle.std.proofs.Common.{◌≡◌, ℕ, ◌<◌, true, List, length, Option, Ok, Err, Result}
use Rattle.std.specs.Prelude.{IsUtf8}
use Rattle.std.specs.declared.vec.Vec.{Vec}
use Rattle.std.specs.declared.alloc.Global.{Global}
use Rattle.fancy_meaning.specs.Numbers.{usize_max}
use Rattle.fancy_meaning.specs.Machine as machine
use Rattle.fancy_meaning.specs.Fits.{run_fits}
use Rattle.fancy_meaning.specs.Premises.{Input}
use Rattle.fancy_expr.specs.declared.error.Error.{Error}
use Rattle.fancy_expr.specs.declared.error.Error.TheVariants as error
use Rattle.fancy_program.specs.Programs.{prog_of}
use Rattle.fancy_steps.specs.declared.options.RunOptions.{RunOptions}
use Rattle.fancy_vm.specs.Bounds.{IfLimit, MayPass, RunMayPass}
use Rattle.fancy_steps.specs.Outcomes.{RunAnswers}
use Rattle.fancy_steps.specs.Tasks.{task_of, options_of as run_options_of}
use Rattle.fancy_vm.proofs.BoundsLaws as runs
use Rattle.fancy_search.specs.declared.search.Compiled.{Compiled}
use Rattle.fancy_search.specs.Searches.{IsCompiledFrom, Bounds, program}
use Rattle.fancy_search.proofs.Searched.{accepted}

module _ (i : Input) (compiled : Compiled) (text : List ℕ) (o : RunOptions) (from : IsCompiledFrom i compiled)
    (fits : run_fits (task_of (program compiled) text o) ≡ true) where
  -- what a run of the program may pass, a search for the tree may
  pub search_may_pass : {A : Type 0} (result : Result A Error) →
      IfLimit result (RunMayPass (prog_of (program compiled)) text (run_options_of o)) → IfLimit result (MayPass i text (run_options_of o))
  search_may_pass {A} (Ok found) may = tt
  search_may_pass {A} (Err (error.RuntimeError l)) may = may.may_pass i (accepted i compiled text o from fits) from.program
  search_may_pass {A} (Err error.Memory) may = tt
  search_may_pass {A} (Err (error.CompileError e)) may = tt
  search_may_pass {A} (Err (error.TreeFault at)) may = tt
  search_may_pass {A} (Err error.NestLimitExceeded) may = tt

  -- by what the machine comes to
  pub run_bounds : (utf8 : IsUtf8 text) (small : length text < usize_max) (result : Result (Option (Vec ℕ Global)) Error) →
      RunAnswers (machine.run (task_of (program compiled) text o)) result → Bounds i text (run_options_of o) result
  run_bounds utf8 small result answers =
      search_may_pass result (runs.run_bounds (prog_of (program compiled)) text (run_options_of o) utf8 small result fits answers)
