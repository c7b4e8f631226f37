-- The first way by the NFA is that of the nodes.
use Rattle.std.proofs.Common.{◌≡◌, ◌≤◌, ◌-◌, ℕ, List, length, Option, Some, None, Result, Ok, Err, IfOk, refl, sym, subst}
use Rattle.std.proofs.Math.Logic.{∥∥₁_elim, ∥∥₁_map}
use Rattle.std.specs.Coded.{×_prop, Π_prop, Unit-prop, le_prop, Coded-set, coded_option, coded×, coded_ℕ}
use Rattle.std.proofs.Props.{props}
use Rattle.fancy_expr.specs.declared.error.Error.{Error}
use Rattle.fancy_meaning.specs.MatchState.{Span}
use Rattle.fancy_nfa_laws.specs.FirstWays.{Seen, first_seen}
use Rattle.fancy_nfa.specs.declared.first_way.FirstWay.{FirstWay}
use Rattle.fancy_nfa.specs.declared.first_way.Way.{Way}
use Rattle.fancy_nfa.specs.declared.one_pass.OnePass.{OnePass}
use Rattle.fancy_nfa.specs.declared.one_pass.OnePass.TheVariants as one_pass
use Rattle.fancy_nfa.specs.OnePass.{IsOnePass, IsOnePassWay, IsSeenWay}
use Rattle.fancy_nfa.specs.Nfas.{IsNfaOf}
use Rattle.fancy_nfa.specs.Ways.{HasNoWayAt, IsFirstWay, IsOfNodes, IsSeenAs}
use Rattle.fancy_fragments.specs.declared.fragment.Fragment.{Fragment}
use Rattle.fancy_fragments.specs.Nodes.{IsLaidOut}
use Rattle.fancy_fragments.specs.Fragments.{nodes_of, HasNoWayFrom, IsFirstWayOf, IsOnePassOf, IsOnePassWayOf}
use Rattle.fancy_fragments.proofs.EasySizes.{bound_alike}

-- it can be seen in one way only
pub seen-prop : (way : Option Way) (seen : Option Seen) → IsProp (IsSeenAs way seen)
seen-prop None None = Unit-prop
seen-prop None (Some seen) = λ x y. elim x [ ]
seen-prop (Some w) None = λ x y. elim x [ ]
seen-prop (Some w) (Some seen) = ×_prop (search props) (Π_prop (λ g. Coded-set (coded_option (coded× coded_ℕ coded_ℕ)) _ _))

way-prop : (end : ℕ) (spans : ℕ → Option Span) (seen : Option Seen) → IsProp (IsSeenWay end spans seen)
way-prop end spans None = λ x y. elim x [ ]
way-prop end spans (Some seen) = ×_prop (search props) (Π_prop (λ g. Coded-set (coded_option (coded× coded_ℕ coded_ℕ)) _ _))

none_seen : (seen : Option Seen) → IsSeenAs None seen → seen ≡ None
none_seen None h = refl
none_seen (Some seen) h = absurd h

module _ (f : Fragment) where
  -- the NFA's own option is the fragment's
  by_option : (laid : IsLaidOut (nodes_of f) f.unicode f.nfa) → IsNfaOf laid.0 (nodes_of f) (f.nfa).unicode f.nfa
  by_option laid = subst (λ u. IsNfaOf laid.0 (nodes_of f) u f.nfa) (sym laid.1.unicode) laid.1

  pub of_nodes : ∥ IsOfNodes f.nfa ∥₁
  of_nodes = ∥∥₁_map f.laid_out (λ laid. (laid.0, (nodes_of f, by_option laid)))

  by_table : (text : List ℕ) (place : ℕ) (answer : FirstWay) → IsFirstWay text f.nfa place answer → IsFirstWayOf text f place answer
  by_table text place answer h = record {
    way = λ pos continued.
        ∥∥₁_elim f.laid_out (seen-prop answer.way _) (λ laid.
        subst
        (λ u. IsSeenAs answer.way (first_seen (record { text = text; pos = pos; continued = continued; unicode = u }) (nodes_of f) place))
        laid.1.unicode
        ((h laid.0 (nodes_of f) (by_option laid)).0 pos continued));
    visits = λ a easy.
        ∥∥₁_elim f.laid_out le_prop (λ laid.
        subst
        (λ n. answer.visits ≤ n)
        (bound_alike a (laid.0).tree a.tree (nodes_of f) easy (length text - place))
        (h laid.0 (nodes_of f) (by_option laid)).1);
  }

  -- what the NFA's nodes have not, the fragment's have not
  pub no_way_from : (text : List ℕ) (place : ℕ) → HasNoWayAt text f.nfa place → HasNoWayFrom text f place
  no_way_from text place h = λ pos continued.
      ∥∥₁_elim f.laid_out (seen-prop None _) (λ laid.
      subst
      (λ u. IsSeenAs None (first_seen (record { text = text; pos = pos; continued = continued; unicode = u }) (nodes_of f) place))
      laid.1.unicode
      (subst (IsSeenAs None) (sym (h laid.0 (nodes_of f) (by_option laid) pos continued)) tt))

  pub one_pass_from : (text : List ℕ) (place : ℕ) (s : OnePass) → IsOnePass text f.nfa place s → IsOnePassOf text f place s
  one_pass_from text place (one_pass.Ends end) h = λ pos continued.
      ∥∥₁_elim f.laid_out (Prim.hlevel props) (λ laid.
      subst
      (λ u. first_seen (record { text = text; pos = pos; continued = continued; unicode = u }) (nodes_of f) place ≡ Some (end, λ g. None))
      laid.1.unicode
      (h laid.0 (nodes_of f) (by_option laid) pos continued))
  one_pass_from text place one_pass.Fails h = no_way_from text place h
  one_pass_from text place one_pass.Unknown h = h

  pub one_pass_way_from : (text : List ℕ) (place : ℕ) (spans : ℕ → Option Span) (s : OnePass) → IsOnePassWay text f.nfa place spans s →
      IsOnePassWayOf text f place spans s
  one_pass_way_from text place spans (one_pass.Ends end) h = λ pos continued.
      ∥∥₁_elim f.laid_out (way-prop end spans _) (λ laid.
      subst
      (λ u. IsSeenWay end spans (first_seen (record { text = text; pos = pos; continued = continued; unicode = u }) (nodes_of f) place))
      laid.1.unicode
      (h laid.0 (nodes_of f) (by_option laid) pos continued))
  one_pass_way_from text place spans one_pass.Fails h = no_way_from text place h
  one_pass_way_from text place spans one_pass.Unknown h = h

pub found_first : (text : List ℕ) (f : Fragment) (place : ℕ) (result : Result FirstWay Error) → IfOk result (IsFirstWay text f.nfa place) →
    IfOk result (IsFirstWayOf text f place)
found_first text f place (Ok answer) h = by_table f text place answer h
found_first text f place (Err e) h = h
