-- A search that answers the first pair of the numbers alone does so as is promised.
use Rattle.std.proofs.Common.{◌≡◌, ℕ, Bool, true, false, List, Option, Some, None, Ok, if◌then◌else◌, option_map, sym, ap}
use Rattle.std.specs.declared.alloc.Global.{Global}
use Rattle.std.specs.declared.vec.Vec.{Vec}
use Rattle.fancy_meaning.specs.Answer.{answer, search_of}
use Rattle.fancy_meaning.specs.Fits.{run_fits}
use Rattle.fancy_meaning.specs.Premises.{Input, plan}
use Rattle.fancy_hybrid.specs.Patterns.{told}
use Rattle.fancy_steps.specs.Outcomes.{answer_in, first_pair}
use Rattle.fancy_steps.specs.Tasks.{options_of as run_options_of, task_of}
use Rattle.fancy_steps.specs.declared.options.RunOptions.{RunOptions}
use Rattle.fancy_search.specs.declared.search.Compiled.{Compiled}
use Rattle.fancy_search.specs.Searches.{Bounds, IsCompiledFrom, Promises, PromisesPair, program}
use Rattle.fancy_search.proofs.Searched.{accepted_input}

module _ (i : Input) (compiled : Compiled) (text : List ℕ) (o : RunOptions) (from : IsCompiledFrom i compiled)
    (fits : run_fits (task_of (program compiled) text o) ≡ true) where
  pub told_promises : (found : Bool) (numbers : Vec ℕ Global) → answer (search_of (plan i) text (run_options_of o)) ≡ told found numbers.items →
      Promises i text (run_options_of o) (answer_in (Ok found) numbers)
  told_promises true numbers is = (accepted_input i compiled text o from fits, sym is)
  told_promises false numbers is = (accepted_input i compiled text o from fits, sym is)

  pub found_promises : (found : Option (ℕ × ℕ)) → found ≡ option_map first_pair (answer (search_of (plan i) text (run_options_of o))) →
      PromisesPair i text (run_options_of o) (Ok found)
  found_promises found is = (accepted_input i compiled text o from fits, is)

  -- the first pair of the numbers of a search
  pub first_of : (found : Bool) (numbers : Vec ℕ Global) → Promises i text (run_options_of o) (answer_in (Ok found) numbers) →
      PromisesPair i text (run_options_of o) (Ok (if found then Some (first_pair numbers.items) else None))
  first_of true numbers h = (h.0, ap (option_map first_pair) h.1)
  first_of false numbers h = (h.0, ap (option_map first_pair) h.1)

pub told_bounds : (i : Input) (text : List ℕ) (o : RunOptions) (found : Bool) (numbers : Vec ℕ Global) →
    Bounds i text (run_options_of o) (answer_in (Ok found) numbers)
told_bounds i text o true numbers = tt
told_bounds i text o false numbers = tt
