-- That limits are monotone, as types: for every program, text and options of a run.
use Rattle.std.specs.Prelude.{◌≡◌, ◌≢◌, ℕ, ◌≤◌}
use Rattle.fancy_meaning.specs.Config.{BacktrackLimitExceeded, StepLimitExceeded}
use Rattle.fancy_meaning.specs.Machine.{Task, run}
use Rattle.fancy_meaning.specs.Enumerates.{IsLimit}

-- the same run under another step limit
abbrev pub with_step_limit : ℕ → Task → Task
with_step_limit limit t = record t { options = record (t.options) { step_limit = limit } }

-- the same run under another backtrack limit
abbrev pub with_backtrack_limit : ℕ → Task → Task
with_backtrack_limit limit t = record t { options = record (t.options) { backtrack_limit = limit } }

-- A run that does not pass the step limit has the same outcome under each higher one.
abbrev pub StepLimitIsMonotone : Type 0
StepLimitIsMonotone = (t : Task) (limit : ℕ) → t.step_limit ≤ limit →
    run t ≢ StepLimitExceeded → run (with_step_limit limit t) ≡ run t

-- A run that does not pass the backtrack limit has the same outcome under each higher one.
abbrev pub BacktrackLimitIsMonotone : Type 0
BacktrackLimitIsMonotone = (t : Task) (limit : ℕ) → t.backtrack_limit ≤ limit →
    run t ≢ BacktrackLimitExceeded → run (with_backtrack_limit limit t) ≡ run t

-- A run that passes no limit has the same outcome where both are higher.
abbrev pub LimitsAreMonotone : Type 0
LimitsAreMonotone = (t : Task) (backtracks steps : ℕ) → t.backtrack_limit ≤ backtracks → t.step_limit ≤ steps →
    ¬ IsLimit (run t) → run (with_backtrack_limit backtracks (with_step_limit steps t)) ≡ run t
