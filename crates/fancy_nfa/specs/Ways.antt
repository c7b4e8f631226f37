-- What the search for a fragment's first way answers.
use Rattle.std.specs.Prelude.{◌≡◌, ◌≤◌, ◌-◌, ℕ, Bool, List, length, map, Option, Some, None, IfSome, nat_eq}
use Rattle.std.specs.List.Sorted.{IsStrictlySortedBy}
use Rattle.std.specs.Map.{keys_of, lookup}
use Rattle.std.specs.Ordering.{nat_cmp}
use Rattle.fancy_meaning.specs.Tree.{Tree}
use Rattle.fancy_meaning.specs.Options.{Analysis}
use Rattle.fancy_meaning.specs.FragmentStates.{visit_bound}
use Rattle.fancy_meaning.specs.MatchState.{Span}
use Rattle.fancy_nfa_laws.specs.NfaSearch.{Ends, NfaConfig, Pair, Search}
use Rattle.fancy_nfa_laws.specs.FirstWays.{AreMemoized, Seen, first_seen, searched}
use Rattle.fancy_nfa.specs.declared.first_way.FirstWay.{FirstWay}
use Rattle.fancy_nfa.specs.declared.first_way.Way.{Way}
use Rattle.fancy_nfa.specs.declared.nfa.Nfa.{Nfa}
use Rattle.fancy_backtrack.specs.declared.memo.Memo.{Memo}
use Rattle.fancy_nfa.specs.Views.{state_of}
use Rattle.fancy_nfa.specs.Nfas.{IsNfaOf}
use Rattle.fancy_backtrack.specs.Memos.{HaveFailed, saturated}

-- a group's number, the start and the end of its span
abbrev pub span_entry : ℕ × ℕ × ℕ → ℕ × Span
span_entry s = (s.0, (s.1, s.2))

-- the span that the list has for a group
abbrev pub listed : List (ℕ × ℕ × ℕ) → ℕ → Option Span
listed spans g = lookup (nat_eq g) (map span_entry spans)

-- the groups of the list ascend, so each has one span
abbrev pub Ascends : List (ℕ × ℕ × ℕ) → Type 0
Ascends spans = IsStrictlySortedBy nat_cmp (keys_of (map span_entry spans))

-- the spans of the way, if there is one, are in order
abbrev pub HasAscending : FirstWay → Type 0
HasAscending answer = IfSome answer.way (λ w. Ascends w.spans.items)

-- a way ends and sets the groups as this one does, or there is none
abbrev pub IsSeenAs : Option Way → Option Seen → Type 0
IsSeenAs None None = Unit {0}
IsSeenAs None (Some way) = ⊥
IsSeenAs (Some w) None = ⊥
IsSeenAs (Some w) (Some way) = (w.end ≡ way.0) × ((g : ℕ) → listed w.spans.items g ≡ way.1 g)

-- The answer is the first way of the nodes, wherever the search of the whole pattern began, and no more states are told
-- as taken up than one of each at each place.
abbrev pub IsFirstWay : (text : List ℕ) → Nfa → (place : ℕ) → FirstWay → Type 0
IsFirstWay text f place answer = (a : Analysis) (es : List Tree) → IsNfaOf a es f.unicode f →
    ((pos : ℕ) (continued : Bool) →
    IsSeenAs answer.way
    (first_seen (record { text = text; pos = pos; continued = continued; unicode = f.unicode }) es place))
    × (answer.visits ≤ visit_bound a.tree es (length text - place))

-- the search of the definition from the place, where these pairs are known to have no way, ends with so many states
-- counted
abbrev pub CountsVisits : (text : List ℕ) → Nfa → (failed : Pair → Bool) → (place : ℕ) → FirstWay → Type 0
CountsVisits text f failed place answer =
    (steps : ℕ) × ((way : Option NfaConfig) × ((found : Search) ×
    ((searched text f.unicode (map state_of f.states.items) failed place steps ≡ Ends way found)
    × (answer.visits ≡ saturated found.visits))))

-- the nodes have no way from the place, wherever the search of the whole pattern began
abbrev pub HasNoWayAt : (text : List ℕ) → Nfa → (place : ℕ) → Type 0
HasNoWayAt text f place = (a : Analysis) (es : List Tree) → IsNfaOf a es f.unicode f →
    (pos : ℕ) (continued : Bool) →
    first_seen (record { text = text; pos = pos; continued = continued; unicode = f.unicode }) es place ≡ None

-- it is the NFA of some nodes
abbrev pub IsOfNodes : Nfa → Type 0
IsOfNodes f = (a : Analysis) × ((es : List Tree) × IsNfaOf a es f.unicode f)

-- it knows what searches by this NFA in this text have memoized, and no more
abbrev pub IsMemoOf : (text : List ℕ) → Nfa → Memo → Type 0
IsMemoOf text f m = (failed : Pair → Bool) ×
    (HaveFailed m failed × AreMemoized text f.unicode (map state_of f.states.items) failed)
