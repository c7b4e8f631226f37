-- What a run costs by the starts that it begins, where the whole tree is left to a plain search, as types.
use Rattle.std.specs.Prelude.{◌≢◌, ℕ, ◌+◌, ◌*◌, ◌≤◌, List, length, filter, Option, Some, None, if◌then◌else◌, nat_le}
use Rattle.fancy_meaning.specs.Options.{RunOptions}
use Rattle.fancy_meaning.specs.Answer.{Search, search_of, starts}
use Rattle.fancy_meaning.specs.Config.{BacktrackLimitExceeded, StepLimitExceeded}
use Rattle.fancy_meaning.specs.Premises.{Input, plan}
use Rattle.fancy_meaning.specs.Theorems.{EasyRun, outcome}
use Rattle.fancy_starts.specs.Matches.{Found, match_of}

-- of these starts those up to the one where the match was tried, or all where there is none
abbrev pub up_to : Option Found → List ℕ → List ℕ
up_to None is = is
up_to (Some m) is = filter (λ start. nat_le start m.0) is

-- how many starts are begun until there is an answer
abbrev pub begun : Search → ℕ
begun q = length (up_to (match_of q) (starts q))

abbrev pub begun_by : Input → List ℕ → RunOptions → ℕ
begun_by i text o = begun (search_of (plan i) text o)

-- one backtrack for each start that is begun is enough
abbrev pub BacktracksByStartsBegun : Type 0
BacktracksByStartsBegun = (i : Input) (text : List ℕ) (o : RunOptions) → EasyRun i text o →
    begun_by i text o ≤ o.backtrack_limit → outcome i text o ≢ BacktrackLimitExceeded

-- Eight instructions for each start that is begun are enough; where the longest match is asked for, one more for all.
abbrev pub InstructionsByStartsBegun : Type 0
InstructionsByStartsBegun = (i : Input) (text : List ℕ) (o : RunOptions) → EasyRun i text o →
    8 * begun_by i text o + (if o.leftmost_longest then 1 else 0) ≤ o.step_limit → outcome i text o ≢ StepLimitExceeded
