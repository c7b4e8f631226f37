-- Ways that a search comes to without taking a choice back.
use Rattle.std.specs.Prelude.{◌≡◌, ℕ, Bool, true, false, List, [], ◌∷◌, map, Option, Some, None, slice_get}
use Rattle.fancy_meaning.specs.Tree.{Tree}
use Rattle.fancy_meaning.specs.Options.{Analysis}
use Rattle.fancy_nfa_laws.specs.NfaSearch.{Ends, Fails, Frame, Other, Pair, Search, NfaConfig, TakesBack, TakesUp, Tries, first_config, first_search, goes_to, step_by}
use Rattle.fancy_nfa_laws.specs.FirstWays.{AreEasy, Seen, first_seen, spans_of}
use Rattle.fancy_nfa_laws.specs.NfaCode.{states_of}
use Rattle.fancy_nfa.specs.declared.nfa_state.CharTest.{CharTest}
use Rattle.fancy_nfa.specs.declared.nfa_state.NfaState.{NfaState}
use Rattle.fancy_nfa.specs.declared.nfa_state.NfaState.TheVariants as nfa_state
use Rattle.fancy_nfa.specs.declared.search.Searcher.{Searcher}
use Rattle.fancy_nfa.specs.declared.one_pass.OnePass.{OnePass}
use Rattle.fancy_nfa.specs.declared.one_pass.OnePass.TheVariants as one_pass
use Rattle.fancy_nfa.specs.declared.one_pass.Passed.{Passed}
use Rattle.fancy_nfa.specs.declared.one_pass.Passed.TheVariants as passed
use Rattle.fancy_nfa.specs.declared.nfa.Nfa.{Nfa}
use Rattle.fancy_nfa.specs.Runs.{Excludes, FailsFrom, IsBody}
use Rattle.fancy_nfa.specs.Searches.{after_steps_of}
use Rattle.fancy_nfa.specs.Views.{state_of}
use Rattle.fancy_nfa.specs.Nfas.{IsNfaOf}
use Rattle.fancy_nfa.specs.Ways.{HasNoWayAt}
use Rattle.fancy_nfa.specs.declared.group_spans.GroupSpans.{GroupSpans}
use Rattle.fancy_nfa.specs.GroupSpans.{spans_in}
use Rattle.fancy_meaning.specs.MatchState.{Span}

-- at this state and place, in the same loops and groups
abbrev pub config_at : NfaConfig → (at place : ℕ) → NfaConfig
config_at s at place = record s { at = at; place = place }

-- a group begins here, and the search goes on at this state
abbrev pub opened_at : NfaConfig → (at place : ℕ) → NfaConfig
opened_at s at place = record (config_at s at place) { opened = place ∷ s.opened }

-- this group, which began there, ends here
abbrev pub closed_at : NfaConfig → (group from : ℕ) → (opened : List ℕ) → (at place : ℕ) → NfaConfig
closed_at s group from opened at place =
    record (config_at s at place) { opened = opened; spans = (group, (from, place)) ∷ s.spans }

-- this group, which began there if it is open, ends here
abbrev pub closed_by : NfaConfig → (group : ℕ) → (opened : List ℕ) → (at place : ℕ) → NfaConfig
closed_by s group [] at place = config_at s at place
closed_by s group (from ∷ opened) at place = closed_at s group from opened at place

-- no pair is known to have no way
abbrev pub IsBlank : Search → Type 0
IsBlank f = (p : Pair) → f.failed p ≡ false

-- nothing is kept for later but what is to be memoized
abbrev pub AreFails : List Frame → Type 0
AreFails [] = Unit {0}
AreFails (Other s ∷ frames) = ⊥
AreFails (Fails s ∷ frames) = AreFails frames

-- this state tries these two ways, and nothing else
abbrev pub IsChoice : Searcher → (at first second : ℕ) → Type 0
IsChoice t at first second =
    (p : NfaState) × ((slice_get (t.states).now at ≡ Some p) × ((is_memoized : Bool) × ((s : NfaConfig) →
    step_by (t.text).now t.unicode (state_of p) s ≡ Tries is_memoized (goes_to first s) (goes_to second s ∷ []))))

-- this state tries these two branches, and nothing else
abbrev pub AreBranches : Searcher → (at first second : ℕ) → Type 0
AreBranches t at first second =
    (p : NfaState) × ((slice_get (t.states).now at ≡ Some p) × ((s : NfaConfig) →
    step_by (t.text).now t.unicode (state_of p) s ≡ Tries false (goes_to first s) (goes_to second s ∷ [])))

-- A search that knows of no pair goes on from the one configuration to the other. Where that is sure, it keeps no way for
-- later.
abbrev pub Walks : Searcher → (is_sure : Bool) → (from to : NfaConfig) → Type 0
Walks t is_sure from to =
    (f : Search) → IsBlank f →
    (steps : ℕ) × ((g : Search) × ((after_steps_of t steps (TakesUp from f) ≡ TakesUp to g)
    × IsBlank g × (is_sure ≡ true → AreFails f.frames → AreFails g.frames)))

-- it comes to the end, perhaps at another state
abbrev pub Succeeds : Searcher → (from : NfaConfig) → Type 0
Succeeds t from =
    (f : Search) → IsBlank f → (at : ℕ) × ((steps : ℕ) × ((g : Search) ×
    (after_steps_of t steps (TakesUp from f) ≡ Ends (Some (config_at from at from.place)) g)))

-- it goes back from the configuration, and keeps no way for later
abbrev pub Loses : Searcher → NfaConfig → Type 0
Loses t from =
    (f : Search) → IsBlank f →
    (steps : ℕ) × ((g : Search) × ((after_steps_of t steps (TakesUp from f) ≡ TakesBack g)
    × (AreFails f.frames → AreFails g.frames)))

-- what a search that knows of no pair comes to from this state and place, whatever loops and groups are around
abbrev pub ComesPast : Searcher → (at place : ℕ) → Passed → Type 0
ComesPast t at place (passed.On next end is_sure) =
    (s : NfaConfig) → Walks t is_sure (config_at s at place) (config_at s next end)
ComesPast t at place passed.Ends = (s : NfaConfig) → Succeeds t (config_at s at place)
ComesPast t at place (passed.Opens next) =
    (s : NfaConfig) → Walks t true (config_at s at place) (opened_at s next place)
ComesPast t at place (passed.Closes group next) = (s : NfaConfig) (opened : List ℕ) → s.opened ≡ opened →
    Walks t true (config_at s at place) (closed_by s group opened next place)
ComesPast t at place passed.Fails = (s : NfaConfig) → Loses t (config_at s at place)
ComesPast t at place passed.Unknown = Unit {0}

-- it goes so over a loop over this test, from its head to its head
abbrev pub RunsOn : Searcher → CharTest → (from to : ℕ) → Type 0
RunsOn t test from to =
    (s : NfaConfig) (head first second : ℕ) → slice_get (t.states).now head ≡ Some (nfa_state.LoopSplit first second) →
    IsBody (t.states).now head first test → Walks t false (config_at s head from) (config_at s head to)

-- and to what stands behind it
abbrev pub RunsPast : Searcher → CharTest → (from to : ℕ) → Type 0
RunsPast t test from to =
    (s : NfaConfig) (head first second : ℕ) → slice_get (t.states).now head ≡ Some (nfa_state.LoopSplit first second) →
    IsBody (t.states).now head first test → Walks t false (config_at s head from) (config_at s second to)

-- where this test takes no character, a search from that state fails
abbrev pub IsFirstTest : Searcher → (at : ℕ) → CharTest → Type 0
IsFirstTest t at test = (place : ℕ) → Excludes t test place → FailsFrom t at place

-- a search that knows of no pair ends so
abbrev pub Finds : Searcher → (place : ℕ) → Option NfaConfig → Type 0
Finds t place way =
    (steps : ℕ) × ((g : Search) ×
    (after_steps_of t steps (TakesUp (first_config place) (first_search (λ p. false))) ≡ Ends way g))

-- these are the states of neighbouring nodes, none of them hard
abbrev pub AreStatesOf : Analysis → List Tree → List NfaState → Type 0
AreStatesOf a es states = AreEasy a es × (map state_of states ≡ states_of a.tree es)

abbrev pub EndsOnePass : Searcher → (place : ℕ) → OnePass → Type 0
EndsOnePass t place (one_pass.Ends end) =
    (a : Analysis) (es : List Tree) → AreStatesOf a es (t.states).now →
    (s : NfaConfig) × (Finds t place (Some s) × (s.place ≡ end) × (s.spans ≡ []))
EndsOnePass t place one_pass.Fails = Finds t place None
EndsOnePass t place one_pass.Unknown = Unit {0}

-- and where groups may be set it sets these
abbrev pub EndsOnePassWith : Searcher → (place : ℕ) → GroupSpans → OnePass → Type 0
EndsOnePassWith t place groups (one_pass.Ends end) =
    (s : NfaConfig) × (Finds t place (Some s) × (s.place ≡ end) × ((g : ℕ) → spans_in groups g ≡ spans_of s.spans g))
EndsOnePassWith t place groups one_pass.Fails = Finds t place None
EndsOnePassWith t place groups one_pass.Unknown = Unit {0}

-- the first way of the nodes, wherever the search of the whole pattern began, as far as it is known and sets no group
abbrev pub IsOnePass : (text : List ℕ) → Nfa → (place : ℕ) → OnePass → Type 0
IsOnePass text f place (one_pass.Ends end) = (a : Analysis) (es : List Tree) → IsNfaOf a es f.unicode f →
    (pos : ℕ) (continued : Bool) →
    first_seen (record { text = text; pos = pos; continued = continued; unicode = f.unicode }) es place
    ≡ Some (end, λ g. None)
IsOnePass text f place one_pass.Fails = HasNoWayAt text f place
IsOnePass text f place one_pass.Unknown = Unit {0}

-- a way that ends there and sets the groups so is the one that is seen
abbrev pub IsSeenWay : (end : ℕ) → (spans : ℕ → Option Span) → Option Seen → Type 0
IsSeenWay end spans None = ⊥
IsSeenWay end spans (Some way) = (end ≡ way.0) × ((g : ℕ) → spans g ≡ way.1 g)

-- as `IsOnePass`, of nodes with groups
abbrev pub IsOnePassWay : (text : List ℕ) → Nfa → (place : ℕ) → (spans : ℕ → Option Span) → OnePass → Type 0
IsOnePassWay text f place spans (one_pass.Ends end) = (a : Analysis) (es : List Tree) → IsNfaOf a es f.unicode f →
    (pos : ℕ) (continued : Bool) →
    IsSeenWay end spans
    (first_seen (record { text = text; pos = pos; continued = continued; unicode = f.unicode }) es place)
IsOnePassWay text f place spans one_pass.Fails = HasNoWayAt text f place
IsOnePassWay text f place spans one_pass.Unknown = Unit {0}
