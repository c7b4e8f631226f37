-- What attempts from candidates tell is what is promised.
use Rattle.std.proofs.Common.{◌≡◌, ℕ, Bool, true, false, List}
use Rattle.fancy_hybrid.specs.Patterns.{told}
use Rattle.fancy_meaning.specs.Answer.{answer, search_of}
use Rattle.fancy_meaning.specs.Options as plain
use Rattle.fancy_meaning.specs.Premises.{Input, plan}
use Rattle.fancy_search.specs.Candidates.{IsTold}
use Rattle.fancy_search.specs.declared.candidates.Tried.TheVariants as tried

-- an answer that is told
pub told_by : (i : Input) (text : List ℕ) (o : plain.RunOptions) (found : Bool) (numbers : List ℕ) → IsTold i text o numbers (tried.Found found) →
    answer (search_of (plan i) text o) ≡ told found numbers
told_by i text o true numbers h = h
told_by i text o false numbers h = h
