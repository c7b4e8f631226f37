-- Scopes and sites within one more node.
use Rattle.std.proofs.Common.{◌≡◌, ℕ, ◌-◌, ◌<◌, Bool, List, [], ◌∷◌, inl, inr, Option, Some, option_map, sym, ap, ◌∙◌, subst}
use Rattle.std.specs.Option.{ForSome}
use Rattle.fancy_meaning.specs.Code.{Code}
use Rattle.fancy_meaning.specs.CompileRefusals.{IsAmong, written_parts}
use Rattle.fancy_meaning.specs.Tree.{Tree}
use Rattle.fancy_info.specs.declared.info.Info.{Info}
use Rattle.fancy_code.specs.Faults.{too_deep, HasRejected}
use Rattle.fancy_code.specs.Nesting.{NestsOver, alone}
use Rattle.fancy_code.specs.Sites.{Site, HasRoom, within_node}
use Rattle.fancy_code.proofs.Written.{over_part_room}
use Rattle.fancy_compile.specs.declared.scope.Scope.{Scope}
use Rattle.fancy_compile.specs.Nodes.{AreWhole, IsScopeAt, IsWhole, below_node}
use Rattle.fancy_compile.proofs.CallLaws.{below_tree}

-- no room for a node
pub no_room : (p : Site) (e : Tree) → p.room ≡ Some 0 → HasRejected p (e ∷ []) too_deep
no_room p e none = inl (subst (λ r. NestsOver p.analysis.tree p.depths r e) (sym none) alone)

-- a part that nests too deep where it stands
pub deep_part : (p : Site) (d c : Tree) → IsAmong c (written_parts d) → HasRejected (within_node p) (c ∷ []) too_deep → HasRejected p (d ∷ []) too_deep
deep_part p d c i (inr h) = absurd h
deep_part p d c i (inl h) = inl (over_part_room p.analysis.tree p.depths d p.room c i h)

module _ (scope : Scope) where
  pub whole_within : (i : Info) → IsWhole scope i → IsWhole (below_node scope) i
  whole_within i h = record {
    analysis = h.analysis;
    of_tree = below_tree h.analysis scope h.of_tree;
    known = h.known;
    small = h.small;
    fine = h.fine;
  }

  pub all_within : (is : List Info) → AreWhole scope is → AreWhole (below_node scope) is
  all_within is h = record {
    analysis = h.analysis;
    of_tree = below_tree h.analysis scope h.of_tree;
    each = h.each;
    small = h.small;
    fine = h.fine;
    within = h.within;
    first = h.first;
    in_turn = h.in_turn;
  }

  module _ (p : Site) (call : ℕ → Bool → Code) (u : IsScopeAt p call scope) where
    pub at_within : IsScopeAt (within_node p) call (below_node scope)
    at_within = record {
      unicode = u.unicode;
      of_tree = below_tree p.analysis scope u.of_tree;
      depths = u.depths;
      room = ap (option_map (λ n. n - 1)) u.room;
      budget = u.budget;
      enough = u.enough;
      calls = u.calls;
    }

    pub room_at : ForSome scope.room (λ n. 0 < n) → HasRoom p
    room_at h = subst (λ r. ForSome r (λ n. 0 < n)) (sym u.room) h
