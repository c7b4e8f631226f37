-- At which places attempts of a search are made, and what they tell of it.
use Rattle.std.specs.Prelude.{◌≡◌, ◌≤◌, ◌<◌, ℕ, Bool, true, false, List, Option, Some, None, length}
use Rattle.fancy_meaning.specs.Answer.{answer, attempt, search_of}
use Rattle.fancy_meaning.specs.Options as plain
use Rattle.fancy_meaning.specs.Places.{is_place}
use Rattle.fancy_meaning.specs.Premises.{Input, plan}
use Rattle.memchr.specs.Find.{Nowhere}
use Rattle.fancy_literals.specs.Starts.{may_begin}
use Rattle.fancy_literals.specs.declared.starts.Starts.{Starts}
use Rattle.fancy_steps.specs.declared.search_limits.SearchLimit.{SearchLimit}
use Rattle.fancy_search.specs.declared.candidates.Candidates.{Candidates}
use Rattle.fancy_search.specs.declared.candidates.Candidates.TheVariants as candidates
use Rattle.fancy_search.specs.declared.candidates.Tried.{Tried}
use Rattle.fancy_search.specs.declared.candidates.Tried.TheVariants as tried

-- no match begins at these bytes, as far as the first is one
abbrev pub IsPassedBy : Starts → (text : List ℕ) → (from to : ℕ) → Type 0
IsPassedBy starts text from to = Nowhere (λ k. may_begin starts text k ≡ true) from to

-- the next candidate from this byte on
abbrev pub IsNextCandidate : Candidates → (text : List ℕ) → (from : ℕ) → Option ℕ → Type 0
IsNextCandidate candidates.Everywhere text from None = length text < from
IsNextCandidate candidates.Everywhere text from (Some at) = (at ≡ from) × (at ≤ length text)
IsNextCandidate (candidates.At starts) text from None =
    IsPassedBy starts text from (length text) × (starts.at_end ≡ true → length text < from)
IsNextCandidate (candidates.At starts) text from (Some at) = IsPassedBy starts text from at

-- from no place before this byte an admitted way begins
abbrev pub IsPassed : Input → (text : List ℕ) → plain.RunOptions → ℕ → Type 0
IsPassed i text o to = (start : ℕ) → o.pos ≤ start → start < to → is_place text start ≡ true → attempt (search_of (plan i) text o) start ≡ None

-- the answer of the search, if it is known: these numbers, or none
abbrev pub IsTold : Input → (text : List ℕ) → plain.RunOptions → (numbers : List ℕ) → Tried → Type 0
IsTold i text o numbers (tried.Found true) = answer (search_of (plan i) text o) ≡ Some numbers
IsTold i text o numbers (tried.Found false) = answer (search_of (plan i) text o) ≡ None
IsTold i text o numbers tried.Unknown = Unit {0}

-- where there is an answer no limit was exceeded
abbrev pub TellsNoLimit : Tried → (passed : Option SearchLimit) → Type 0
TellsNoLimit (tried.Found b) passed = passed ≡ None
TellsNoLimit tried.Unknown passed = Unit {0}
