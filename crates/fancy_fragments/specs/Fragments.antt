-- What a fragment stands for, and what its search answers.
use Rattle.std.specs.Prelude.{◌≡◌, ◌≤◌, ◌-◌, ℕ, Bool, List, length, Option, None, Some}
use Rattle.fancy_meaning.specs.Tree.{Tree}
use Rattle.fancy_meaning.specs.Instr as plain
use Rattle.fancy_meaning.specs.Options.{Analysis}
use Rattle.fancy_meaning.specs.FragmentStates.{visit_bound}
use Rattle.fancy_meaning.specs.MatchState.{Span}
use Rattle.fancy_nfa_laws.specs.FirstWays.{AreEasy, first_seen}
use Rattle.fancy_expr.specs.Walk.{within_of}
use Rattle.fancy_nfa.specs.declared.first_way.FirstWay.{FirstWay}
use Rattle.fancy_backtrack.specs.declared.memo.Memo.{Memo}
use Rattle.fancy_nfa.specs.declared.one_pass.OnePass.{OnePass}
use Rattle.fancy_nfa.specs.declared.one_pass.OnePass.TheVariants as one_pass
use Rattle.fancy_nfa.specs.OnePass.{IsSeenWay}
use Rattle.fancy_nfa.specs.Ways.{IsMemoOf, IsSeenAs}
use Rattle.fancy_fragments.specs.declared.fragment.Fragment.{Fragment}
use Rattle.fancy_fragments.specs.Nodes.{nodes_over}

-- the numbered nodes
abbrev pub nodes_of : Fragment → List Tree
nodes_of f = nodes_over f.exprs.items f.first_group (within_of f.within)

abbrev pub fragment_of : Fragment → plain.Fragment
fragment_of f = record { nodes = nodes_of f; unicode = f.unicode }

-- The answer is the first way of the nodes, wherever the search of the whole pattern began, and no more states are told
-- as taken up than one of each at each place.
pub record IsFirstWayOf (text : List ℕ) (f : Fragment) (place : ℕ) (answer : FirstWay) : Type 0 where
  pub way : (pos : ℕ) (continued : Bool) →
      IsSeenAs answer.way
      (first_seen (record { text = text; pos = pos; continued = continued; unicode = f.unicode }) (nodes_of f) place)
  pub visits : (a : Analysis) → AreEasy a (nodes_of f) →
      answer.visits ≤ visit_bound a.tree (nodes_of f) (length text - place)

-- the nodes have no way from the place, wherever the search of the whole pattern began
abbrev pub HasNoWayFrom : (text : List ℕ) → Fragment → (place : ℕ) → Type 0
HasNoWayFrom text f place = (pos : ℕ) (continued : Bool) →
    IsSeenAs None
    (first_seen (record { text = text; pos = pos; continued = continued; unicode = f.unicode }) (nodes_of f) place)

-- the first way of the nodes, wherever the search of the whole pattern began, as far as it is known
abbrev pub IsOnePassOf : (text : List ℕ) → Fragment → (place : ℕ) → OnePass → Type 0
IsOnePassOf text f place (one_pass.Ends end) = (pos : ℕ) (continued : Bool) →
    first_seen (record { text = text; pos = pos; continued = continued; unicode = f.unicode }) (nodes_of f) place
    ≡ Some (end, λ g. None)
IsOnePassOf text f place one_pass.Fails = HasNoWayFrom text f place
IsOnePassOf text f place one_pass.Unknown = Unit {0}

-- the first way ends there and sets the groups so, wherever the search of the whole pattern began
abbrev pub IsWayTo : (text : List ℕ) → Fragment → (place end : ℕ) → (spans : ℕ → Option Span) → Type 0
IsWayTo text f place end spans = (pos : ℕ) (continued : Bool) →
    IsSeenWay end spans
    (first_seen (record { text = text; pos = pos; continued = continued; unicode = f.unicode }) (nodes_of f) place)

-- as `IsOnePassOf`, of nodes with groups
abbrev pub IsOnePassWayOf : (text : List ℕ) → Fragment → (place : ℕ) → (spans : ℕ → Option Span) → OnePass → Type 0
IsOnePassWayOf text f place spans (one_pass.Ends end) = IsWayTo text f place end spans
IsOnePassWayOf text f place spans one_pass.Fails = HasNoWayFrom text f place
IsOnePassWayOf text f place spans one_pass.Unknown = Unit {0}

-- it knows what searches of this fragment in this text have memoized, and no more
abbrev pub IsMemoFor : (text : List ℕ) → Fragment → Memo → Type 0
IsMemoFor text f m = IsMemoOf text f.nfa m
