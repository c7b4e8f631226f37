-- What is known of a node, and of its children.
use Rattle.std.proofs.Common.{◌≡◌, ℕ, zero, suc, ◌+◌, ◌<◌, false, List, [], ◌∷◌, length, map, get_or, Contains, refl, sym, ap, ◌∙◌, subst, arith}
use Rattle.std.proofs.lemmas.List.Elements.{Contains-append_left, Contains-append_right}
use Rattle.fancy_meaning.specs.Tree.{Tree, trees}
use Rattle.fancy_meaning.specs.Nodes.{nodes, nodes_of_each}
use Rattle.fancy_meaning.specs.Hard.{is_hard}
use Rattle.fancy_meaning.specs.WellFormed.{IsFine}
use Rattle.fancy_meaning.specs.Options.{Analysis}
use Rattle.fancy_info.specs.declared.info.Info.{Info}
use Rattle.fancy_info.specs.declared.info.Info.TheViews.{out-Info, roll-out-Info}
use Rattle.fancy_expr.specs.declared.expr.Expr.{Expr}
use Rattle.fancy_expr.specs.Exprs.{below}
use Rattle.fancy_info.specs.Infos.{info_tree, info_children, info_facts, info_hard, info_within, EachNode, IsFound, IsAnalysed}
use Rattle.fancy_info.proofs.Children.{each_at, only_one, node_count-below, child_count}
use Rattle.fancy_info.proofs.Unfolded.{tree_out, each_made}
use Rattle.fancy_expr.specs.Walk.{start_inside, within_inside}
use Rattle.fancy_nfa.specs.Neighbours.{IsEasy}
use Rattle.fancy_nfa.specs.Nfas.{AreFine}
use Rattle.fancy_fragments.specs.Nodes.{AreEasyNeighbours}
use Rattle.fancy_compile.specs.declared.scope.Scope.{Scope}
use Rattle.fancy_info.specs.NodeCounts.{node_count, node_counts}
use Rattle.fancy_compile.specs.Nodes.{IsWhole, AreWhole}
use Rattle.fancy_compile.specs.AnalysedNodes.{IsFineTree, IsKnown}
use Rattle.fancy_compile.proofs.Known.{known_child, nodes_of_info}

-- ---- lists

pub only_three : (l : List Info) (c d e : Info) → length l ≡ 3 → c ≡ get_or l 0 c → d ≡ get_or l 1 d → e ≡ get_or l 2 e → l ≡ c ∷ d ∷ e ∷ []
only_three [] c d e n p q r = absurd (omega arith)
only_three (x ∷ []) c d e n p q r = absurd (omega arith)
only_three (x ∷ y ∷ []) c d e n p q r = absurd (omega arith)
only_three (x ∷ y ∷ z ∷ []) c d e n p q r = ap (λ v. v ∷ y ∷ z ∷ []) (sym p) ∙ ap (λ v. c ∷ v ∷ z ∷ []) (sym q) ∙ ap (λ v. c ∷ d ∷ v ∷ []) (sym r)
only_three (x ∷ y ∷ z ∷ w ∷ l) c d e n p q r = absurd (omega arith)

-- ---- what is known

-- a node that is said to be easy is
pub easy_known : (a : Analysis) (i : Info) → IsKnown a i → info_hard i ≡ false → IsEasy a i
easy_known a i k h =
    let easy = k.easy h in
    let found : IsFound a (info_facts i) (info_children i) = record { node = k.node; hard = h ∙ sym easy ∙ ap (is_hard a) (tree_out i) } in
    record { analysed = subst (EachNode (IsFound a)) (roll-out-Info i) (each_made (IsFound a) (out-Info i) found k.children); easy = easy }

fine_each : (es : List Tree) → ((d : Tree) → Contains (nodes_of_each (trees es)) d → IsFine d) → AreFine es
fine_each [] h = tt
fine_each (e ∷ es) h = (
  λ d c. h d (Contains-append_left (nodes e) (nodes_of_each (trees es)) d c),
  fine_each es (λ d c. h d (Contains-append_right (nodes e) (nodes_of_each (trees es)) d c)),
)

pub fine_below : (a : Analysis) (i : Info) → IsKnown a i → IsFineTree (info_tree i) → AreFine (map info_tree (info_children i))
fine_below a i k h =
    let rest = nodes_of_each (trees (map info_tree (info_children i))) in
    fine_each (map info_tree (info_children i))
    (λ d c. h d (subst (λ l. Contains l d) (sym (nodes_of_info a i k)) (Contains-append_right (info_tree i ∷ []) rest d c)))

pub fine_at : (l : List Info) (i : ℕ) (x : Info) → AreFine (map info_tree l) → i < length l → x ≡ get_or l i x → IsFineTree (info_tree x)
fine_at [] i x h lt e = absurd (omega arith)
fine_at (y ∷ l) zero x h lt e = subst (λ z. IsFineTree (info_tree z)) (sym e) h.0
fine_at (y ∷ l) (suc i) x h lt e = fine_at l i x h.1 (omega arith) e

module _ (scope : Scope) where
  pub whole_below : (i : Info) → IsWhole scope i → AreWhole scope (info_children i)
  whole_below i h = record {
    analysis = h.analysis;
    of_tree = h.of_tree;
    each = (h.known).children;
    small = omega (arith, node_count-below i, h.small);
    fine = fine_below h.analysis i h.known h.fine;
    within = within_inside (info_facts i).expr (info_facts i).within;
    first = start_inside (info_facts i).expr (info_facts i).start_group;
    in_turn = ((h.known).node).in_turn;
  }

  -- an easy node by itself
  pub easy_alone : (i : Info) → IsWhole scope i → info_hard i ≡ false → AreEasyNeighbours (i ∷ [])
  easy_alone i h easy = record {
    analysis = h.analysis;
    each = (easy_known h.analysis i h.known easy, tt);
    fine = (h.fine, tt);
    within = info_within i;
    first = (out-Info i).start_group;
    in_turn = (refl, refl, tt);
  }

  pub whole_arity : (i : Info) → IsWhole scope i → length (info_children i) ≡ length (below (out-Info i).expr.now)
  whole_arity i h = ((h.known).node).arity

  pub whole_at : (l : List Info) (i : ℕ) (x : Info) → AreWhole scope l → i < length l → x ≡ get_or l i x → IsWhole scope x
  whole_at l i x h lt at = record {
    analysis = h.analysis;
    of_tree = h.of_tree;
    known = known_child h.analysis x
        (each_at (IsAnalysed h.analysis) l i x h.each lt at);
    small = omega (arith, child_count l i x lt at, h.small);
    fine = fine_at l i x h.fine lt at;
  }

module _ (scope : Scope) (info : Info) where
  -- a node over one other
  module _ (d : Info) (e : Expr) (at : (out-Info info).expr.now ≡ e) (whole : IsWhole scope info) (one : length (below e) ≡ 1) where
    pub has_one : length (info_children info) ≡ 1
    has_one = whole_arity scope info whole ∙ ap (λ x. length (below x)) at ∙ one

    pub only_child : d ≡ get_or (info_children info) 0 d → info_children info ≡ d ∷ []
    only_child here = only_one (info_children info) d has_one here

    -- its body is smaller and whole
    pub smaller_child : d ≡ get_or (info_children info) 0 d → node_count d < node_count info
    smaller_child here = omega (arith, node_count-below info, has_one, child_count (info_children info) 0 d (omega (arith, has_one)) here)

    pub whole_child : d ≡ get_or (info_children info) 0 d → IsWhole scope d
    whole_child here = whole_at scope (info_children info) 0 d (whole_below scope info whole) (omega (arith, has_one)) here

    pub analysed_only : d ≡ get_or (info_children info) 0 d → (a : Analysis) → IsKnown a info → IsAnalysed a d
    analysed_only here a k = each_at (IsAnalysed a) (info_children info) 0 d k.children (omega (arith, has_one)) here

  -- a node over three others
  module _ (c d x : Info) (e : Expr) (at : (out-Info info).expr.now ≡ e) (whole : IsWhole scope info) (three : length (below e) ≡ 3)
      (c_at : c ≡ get_or (info_children info) 0 c) (d_at : d ≡ get_or (info_children info) 1 d) (x_at : x ≡ get_or (info_children info) 2 x) where
    pub has_three : length (info_children info) ≡ 3
    has_three = whole_arity scope info whole ∙ ap (λ y. length (below y)) at ∙ three

    pub three_children : info_children info ≡ c ∷ d ∷ x ∷ []
    three_children = only_three (info_children info) c d x has_three c_at d_at x_at

    pub smaller_three : node_count c + node_count d + node_count x < node_count info
    smaller_three = omega (arith, node_count-below info, ap node_counts three_children)

    pub whole_three : IsWhole scope c × (IsWhole scope d × IsWhole scope x)
    whole_three = (
      whole_at scope (info_children info) 0 c (whole_below scope info whole) (omega (arith, has_three)) c_at,
      (
        whole_at scope (info_children info) 1 d (whole_below scope info whole) (omega (arith, has_three)) d_at,
        whole_at scope (info_children info) 2 x (whole_below scope info whole) (omega (arith, has_three)) x_at,
      ),
    )

    pub analysed_three : (a : Analysis) → IsKnown a info → IsAnalysed a c × (IsAnalysed a d × IsAnalysed a x)
    analysed_three a k = (
      each_at (IsAnalysed a) (info_children info) 0 c k.children (omega (arith, has_three)) c_at,
      (
        each_at (IsAnalysed a) (info_children info) 1 d k.children (omega (arith, has_three)) d_at,
        each_at (IsAnalysed a) (info_children info) 2 x k.children (omega (arith, has_three)) x_at,
      ),
    )
