-- What a plain search of a fragment is to answer.
use Rattle.std.specs.Prelude.{◌≡◌, ◌≤◌, ◌-◌, ℕ, Bool, true, false, List, [], ◌∷◌, length, map, Contains, Option, Some, None, option_map, IsTrue}
use Rattle.fancy_meaning.specs.Tree.{Tree}
use Rattle.fancy_meaning.specs.Nodes.{nodes}
use Rattle.fancy_meaning.specs.WellFormed.{IsFine}
use Rattle.fancy_meaning.specs.Places.{is_place}
use Rattle.fancy_meaning.specs.Hard.{is_hard}
use Rattle.fancy_meaning.specs.Options.{Analysis}
use Rattle.fancy_meaning.specs.Premises.{IsText}
use Rattle.fancy_meaning.specs.FragmentStates.{visit_bound}
use Rattle.fancy_meaning.specs.MatchState.{MatchState, Span, put, in_order, first_state, fails, preferred}
use Rattle.fancy_meaning.specs.Ways.{Setting, ways_with}
use Rattle.fancy_nfa_laws.specs.NfaStates.{NfaState}
use Rattle.fancy_nfa_laws.specs.NfaCode.{states_of}
use Rattle.fancy_nfa_laws.specs.NfaSearch.{Pair, NfaConfig, Fails, Search, Next, TakesUp, TakesBack, Ends, after_steps, pair_of, first_search, first_config}

-- the ways of neighbouring nodes without calls, one after the other
abbrev pub ways_of_nodes : Setting → List Tree → MatchState → List MatchState
ways_of_nodes q es = in_order (map (ways_with q (λ g. fails)) es)

-- what a user sees of a way: where it ends, and the span of each group
abbrev pub Seen : Type 0
Seen = ℕ × (ℕ → Option Span)

abbrev pub seen : MatchState → Seen
seen s = (s.place, s.captures)

-- the spans that these groups have, closed in this order, the last one first
abbrev pub spans_of : List (ℕ × Span) → ℕ → Option Span
spans_of [] = λ g. None
spans_of ((g, span) ∷ rest) = put g (Some span) (spans_of rest)

abbrev pub seen_of : NfaConfig → Seen
seen_of s = (s.place, spans_of s.spans)

-- the first way of neighbouring nodes from a place, as it is seen
abbrev pub first_seen : Setting → List Tree → ℕ → Option Seen
first_seen q es i = option_map seen (preferred (ways_of_nodes q es) (first_state i))

-- neighbours that are fine throughout, none of them hard
abbrev pub AreEasy : Analysis → List Tree → Type 0
AreEasy a [] = Unit {0}
AreEasy a (e ∷ es) = (is_hard a e ≡ false) × ((d : Tree) → Contains (nodes e) d → IsFine d) × AreEasy a es

abbrev pub search_in : Next → Search
search_in (TakesUp s found) = found
search_in (TakesBack found) = found
search_in (Ends s found) = found

-- what a search from this place came to, after so many steps
abbrev pub searched : List ℕ → Bool → List NfaState → (Pair → Bool) → (place steps : ℕ) → Next
searched text unicode states failed place steps =
    after_steps text unicode states steps (TakesUp (first_config place) (first_search failed))

-- the pairs that searches of a fragment in a text memoized, each from where the one before left them
pub data AreMemoized (text : List ℕ) (unicode : Bool) (states : List NfaState) : (Pair → Bool) → Type 0 where
  no_pairs : AreMemoized text unicode states (λ pair. false)
  of_search : {failed : Pair → Bool} (place steps : ℕ) → IsTrue (is_place text place) →
      AreMemoized text unicode states failed →
      AreMemoized text unicode states (search_in (searched text unicode states failed place steps)).failed

-- A search comes to its end, whatever was memoized before: it finds the first way, and has taken up at most as many
-- states as the bound says.
pub record FindsFirst (q : Setting) (a : Analysis) (es : List Tree) (failed : Pair → Bool) (place : ℕ) : Type 0 where
  pub steps : ℕ
  pub way : Option NfaConfig
  pub found : Search
  pub ends : searched q.text q.unicode (states_of a.tree es) failed place steps ≡ Ends way found
  pub first : option_map seen_of way ≡ first_seen q es place
  pub bounded : found.visits ≤ visit_bound a.tree es (length q.text - place)

abbrev pub FindsFirstWays : Type 0
FindsFirstWays = (q : Setting) (a : Analysis) (es : List Tree) (failed : Pair → Bool) (place : ℕ) →
    IsText q.text → IsTrue (is_place q.text place) → AreEasy a es →
    AreMemoized q.text q.unicode (states_of a.tree es) failed →
    FindsFirst q a es failed place

-- a search from this configuration that knows of no pair ends without a way
abbrev pub HasNoWay : Setting → List NfaState → NfaConfig → Type 0
HasNoWay q states s =
    (steps : ℕ) × (found : Search)
    × (after_steps q.text q.unicode states steps (TakesUp s (first_search (λ pair. false))) ≡ Ends None found)

-- where a search comes to a pair that was memoized before it began, there is no way
abbrev pub FailedSetIsSound : Type 0
FailedSetIsSound = (q : Setting) (a : Analysis) (es : List Tree) (failed : Pair → Bool) (place steps : ℕ)
    (s : NfaConfig)
    (found : Search) →
    IsText q.text → IsTrue (is_place q.text place) → AreEasy a es →
    AreMemoized q.text q.unicode (states_of a.tree es) failed →
    searched q.text q.unicode (states_of a.tree es) failed place steps ≡ TakesUp s found →
    failed (pair_of s) ≡ true → HasNoWay q (states_of a.tree es) s
