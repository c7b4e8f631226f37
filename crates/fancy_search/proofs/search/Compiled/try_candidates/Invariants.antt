use Rattle.std.proofs.Common.{◌≡◌, ◌≤◌, ◌-◌, suc, None, length}
use Rattle.fancy_meaning.specs.Premises.{Input}
use Rattle.fancy_steps.specs.Tasks.{options_of}
use Rattle.fancy_vm.specs.Attempts.{MayAttempt}
use Rattle.fancy_vm.specs.Scratches.{passed_of, limits_of}
use Rattle.fancy_search.specs.Candidates.{IsPassed}
use Rattle.fancy_search.specs.Searches.{IsCompiledFrom}
use Rattle.fancy_search.proofs.search.Compiled.try_candidates.Given as goal

abbrev pub invariant-candidates : goal.invariant-candidates
invariant-candidates l =
    MayAttempt l.fn.self.prog l.fn.text l.runs × (limits_of l.runs ≡ limits_of l.fn.runs) × (passed_of l.runs ≡ None) × (l.fn.options.pos ≤ l.from)
    × ((i : Input) → IsCompiledFrom i l.fn.self → IsPassed i l.fn.text (options_of l.fn.options) l.from)

abbrev pub decreases-candidates : goal.decreases-candidates
decreases-candidates l = suc (length l.text) - l.from
