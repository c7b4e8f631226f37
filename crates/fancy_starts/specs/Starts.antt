-- Where a match begins, and where a search may begin, as types.
use Rattle.std.specs.Prelude.{◌≡◌, ℕ, ◌-◌, ◌≤◌, ◌<◌, Bool, true, false, List, ◌∷◌, length, MatchOption, Option, Some, None, option_map}
use Rattle.fancy_meaning.specs.Places.{is_place}
use Rattle.fancy_meaning.specs.Nodes.{group_count}
use Rattle.fancy_meaning.specs.Answer.{Search, as_numbers, attempt, reported, answer}
use Rattle.fancy_starts.specs.Matches.{has_continue, has_keep_out, Found, match_of, anchored_at, begun_at, for_first, for_longest}

-- The answer is the match as numbers.
abbrev pub AnswerIsOfMatch : Type 0
AnswerIsOfMatch = (q : Search) → answer q ≡ option_map (λ (m : Found). as_numbers (group_count q.tree) m.1) (match_of q)

-- Without `\K` the answer's first two numbers are the start that was tried and the end of the way.
abbrev pub AnswerBeginsAtItsStart : Type 0
AnswerBeginsAtItsStart = (q : Search) (m : Found) → q.pos ≤ length q.text → has_keep_out q.tree ≡ false →
    match_of q ≡ Some m → (groups : List ℕ) × (answer q ≡ Some (m.0 ∷ (m.1).place ∷ groups))

-- and where it begins is the start that was tried
abbrev pub MatchOfAnswer : Type 0
MatchOfAnswer = (q : Search) (from : ℕ) (numbers : List ℕ) → q.pos ≤ length q.text → has_keep_out q.tree ≡ false →
    answer q ≡ Some (from ∷ numbers) → (m : Found) × (match_of q ≡ Some m) × (m.0 ≡ from)

-- ---- a later start, without `\G`

-- where there is no answer, there is none from a later place
abbrev pub NoneFromLater : Type 0
NoneFromLater = (q : Search) (pos : ℕ) (continued : Bool) → q.anchored ≡ false → has_continue q.tree ≡ false →
    q.pos ≤ pos → answer q ≡ None → answer (begun_at pos continued q) ≡ None

-- the match is the same from each place up to the start that was tried
abbrev pub SameMatchFromLater : Type 0
SameMatchFromLater = (q : Search) (pos : ℕ) (continued : Bool) (m : Found) → q.anchored ≡ false →
    has_continue q.tree ≡ false → q.pos ≤ pos → pos ≤ m.0 → match_of q ≡ Some m →
    match_of (begun_at pos continued q) ≡ Some m

-- without `\K` too, an answer is the same from each place up to where it begins
abbrev pub SameAnswerFromLater : Type 0
SameAnswerFromLater = (q : Search) (pos from : ℕ) (continued : Bool) (numbers : List ℕ) → q.anchored ≡ false →
    has_continue q.tree ≡ false → has_keep_out q.tree ≡ false → q.pos ≤ pos → pos ≤ from →
    answer q ≡ Some (from ∷ numbers) → answer (begun_at pos continued q) ≡ Some (from ∷ numbers)

-- where no way from a start before a later place is admitted, the answer is that from the later place
abbrev pub AnswerFromNext : Type 0
AnswerFromNext = (q : Search) (pos : ℕ) (continued : Bool) → q.anchored ≡ false → has_continue q.tree ≡ false → q.pos ≤ pos →
    ((start : ℕ) → q.pos ≤ start → start < pos → is_place q.text start ≡ true → attempt q start ≡ None) →
    answer q ≡ answer (begun_at pos continued q)

-- what is answered of one start alone is answered of the search from there, and if it is nothing, no way from there is admitted
abbrev pub AnswerOfOneStart : Type 0
AnswerOfOneStart = (q : Search) (pos : ℕ) (continued : Bool) → q.anchored ≡ false → has_continue q.tree ≡ false → q.pos ≤ pos →
    is_place q.text pos ≡ true →
    MatchOption (answer (anchored_at pos continued q)) (attempt q pos ≡ None)
    (λ numbers. answer (begun_at pos continued q) ≡ Some numbers)

-- ---- the longest match beside the first

-- none of both, or both from the same start that was tried, the second one at least as long
abbrev pub IsAtLeastAsLong : Option Found → Option Found → Type 0
IsAtLeastAsLong None None = Unit {0}
IsAtLeastAsLong (Some m) (Some n) = (m.0 ≡ n.0) × (reported m.1 ≤ reported n.1)
IsAtLeastAsLong m n = ⊥

abbrev pub LongestBesideFirst : Type 0
LongestBesideFirst = (q : Search) → IsAtLeastAsLong (match_of (for_first q)) (match_of (for_longest q))

-- the same of answers, by their spans of group 0
abbrev pub SpanIsAtLeastAsLong : Option (List ℕ) → Option (List ℕ) → Type 0
SpanIsAtLeastAsLong None None = Unit {0}
SpanIsAtLeastAsLong (Some (i ∷ j ∷ first)) (Some (k ∷ l ∷ longest)) = j - i ≤ l - k
SpanIsAtLeastAsLong first longest = ⊥

abbrev pub LongestAnswerBesideFirst : Type 0
LongestAnswerBesideFirst = (q : Search) → SpanIsAtLeastAsLong (answer (for_first q)) (answer (for_longest q))

-- without `\K` both begin at the same place, and the longest does not end before the first
abbrev pub EndsNoEarlier : Option (List ℕ) → Option (List ℕ) → Type 0
EndsNoEarlier None None = Unit {0}
EndsNoEarlier (Some (i ∷ j ∷ first)) (Some (k ∷ l ∷ longest)) = (i ≡ k) × (j ≤ l)
EndsNoEarlier first longest = ⊥

abbrev pub LongestEndsNoEarlier : Type 0
LongestEndsNoEarlier = (q : Search) → q.pos ≤ length q.text → has_keep_out q.tree ≡ false →
    EndsNoEarlier (answer (for_first q)) (answer (for_longest q))
