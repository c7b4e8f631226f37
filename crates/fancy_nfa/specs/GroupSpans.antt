-- The groups that a way sets.
use Rattle.std.specs.Prelude.{◌≡◌, ◌+◌, ℕ, List, [], ◌∷◌, reverse, Option, None, if◌then◌else◌, nat_eq}
use Rattle.fancy_meaning.specs.MatchState.{Span}
use Rattle.fancy_nfa_laws.specs.FirstWays.{spans_of}
use Rattle.fancy_nfa.specs.declared.group_spans.GroupSpans.{GroupSpans}

-- the span of a group, in a list of those of all groups from the first one on
abbrev pub span_from : (first : ℕ) → List (Option Span) → ℕ → Option Span
span_from first [] g = None
span_from first (span ∷ spans) g = if nat_eq g first then span else span_from (first + 1) spans g

abbrev pub spans_in : GroupSpans → ℕ → Option Span
spans_in groups = span_from groups.first groups.spans.items

-- these groups are open, the innermost first, and these were closed, the last one first
abbrev pub AreGroupsOf : GroupSpans → (opened : List ℕ) → (spans : List (ℕ × Span)) → Type 0
AreGroupsOf groups opened spans =
    (reverse groups.opened.items ≡ opened) × ((g : ℕ) → spans_in groups g ≡ spans_of spans g)
