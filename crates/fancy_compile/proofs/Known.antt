-- What is known of a node, and of its children.
use Rattle.std.proofs.Common.{◌≡◌, ℕ, zero, suc, ◌<◌, List, [], ◌∷◌, length, map, get_or, Contains, refl, sym, ap, ◌∙◌, subst, arith}
use Rattle.std.proofs.lemmas.List.{length-map}
use Rattle.std.proofs.lemmas.List.Elements.{Contains-append_left, Contains-append_right}
use Rattle.fancy_meaning.specs.Tree.{Tree, trees, children, parts}
use Rattle.fancy_meaning.specs.Nodes.{nodes, nodes_of_each}
use Rattle.fancy_meaning.specs.Hard.{is_hard}
use Rattle.fancy_meaning.specs.Options.{Analysis}
use Rattle.fancy_meaning.specs.Sizes.{size}
use Rattle.fancy_info.specs.declared.info.Info.{Info}
use Rattle.fancy_info.specs.declared.info.Info.TheViews.{out-Info}
use Rattle.fancy_info.specs.Infos.{info_tree, info_children, info_facts, info_hard, info_size, info_within, is_read_group, IsFound, IsAnalysed}
use Rattle.fancy_info.specs.NodeCounts.{node_count, node_counts}
use Rattle.fancy_expr.specs.Each.{Each}
use Rattle.fancy_info.proofs.Children.{each_at, node_count-below, child_count}
use Rattle.fancy_info.proofs.Unfolded.{tree_out, each_here, each_below}
use Rattle.fancy_info.proofs.OverParts.{over-parts}
use Rattle.fancy_expr.proofs.NodeParts.{nodes-parts}
use Rattle.fancy_compile.specs.AnalysedNodes.{IsFineTree, IsKnown}

pub children_trees : (es : List Tree) → children (trees es) ≡ es
children_trees [] = refl
children_trees (e ∷ es) = ap (λ l. e ∷ l) (children_trees es)

-- the hardness of a node that was visited
pub hard_child : (a : Analysis) (i : Info) → IsAnalysed a i → info_hard i ≡ is_hard a (info_tree i)
hard_child a i h = (each_here (IsFound a) i h).hard ∙ ap (is_hard a) (sym (tree_out i))

pub known_child : (a : Analysis) (i : Info) → IsAnalysed a i → IsKnown a i
known_child a i h = record {
  node = (each_here (IsFound a) i h).node;
  children = each_below (IsFound a) i h;
  easy = λ e. sym (hard_child a i h) ∙ e;
}

-- a child by its place among the children
module _ (i : Info) (children : List Info) (same : children ≡ info_children i) (n : ℕ) (x : Info)
    (lt : n < length children) (is : x ≡ get_or children n x) where
  pub part_smaller : node_count x < node_count i
  part_smaller = omega (arith, node_count-below i, ap node_counts same, child_count children n x lt is)

  pub part_known : (a : Analysis) → IsKnown a i → IsKnown a x
  part_known a k = known_child a x (each_at (IsAnalysed a) children n x (subst (Each (IsAnalysed a)) (sym same) k.children) lt is)

module _ (info : Info) where
  pub size_known : (a : Analysis) → IsKnown a info → info_size info ≡ size a.tree (info_tree info)
  size_known a k = k.node.size ∙ ap (size a.tree) (sym (tree_out info))

pub read_known : (a : Analysis) (i : Info) → IsKnown a i → (info_facts i).is_read ≡ is_read_group a.tree (info_tree i)
read_known a i k = (k.node).read ∙ ap (is_read_group a.tree) (sym (tree_out i))

-- ---- the nodes below a node

pub nodes_of_info : (a : Analysis) (i : Info) → IsKnown a i → nodes (info_tree i) ≡ info_tree i ∷ nodes_of_each (trees (map info_tree (info_children i)))
nodes_of_info a i k =
    let ts = map info_tree (info_children i) in
    let e = (out-Info i).expr.now in
    let below_it = over-parts e (out-Info i).start_group (info_within i) ts (length-map (info_children i) info_tree ∙ (k.node).arity) in
    nodes-parts (info_tree i) ∙ ap (λ t. info_tree i ∷ nodes_of_each t) (ap parts (tree_out i) ∙ below_it)

-- what stands in one of these stands among them
within_each : (l : List Info) (n : ℕ) (x : Info) → n < length l → x ≡ get_or l n x → (d : Tree)
    → Contains (nodes (info_tree x)) d → Contains (nodes_of_each (trees (map info_tree l))) d
within_each [] n x lt is d h = absurd (omega arith)
within_each (y ∷ l) zero x lt is d h =
    Contains-append_left (nodes (info_tree y)) (nodes_of_each (trees (map info_tree l))) d (subst (λ z. Contains (nodes (info_tree z)) d) is h)
within_each (y ∷ l) (suc n) x lt is d h =
    Contains-append_right (nodes (info_tree y)) (nodes_of_each (trees (map info_tree l))) d (within_each l n x (omega arith) is d h)

-- a child of a well-formed node
pub fine_part : (i : Info) (children : List Info) → children ≡ info_children i → (n : ℕ) (x : Info) → n < length children → x ≡ get_or children n x
    → (a : Analysis) → IsKnown a i → IsFineTree (info_tree i) → IsFineTree (info_tree x)
fine_part i children same n x lt is a k fine d h =
    let inside = subst (λ l. Contains (nodes_of_each (trees (map info_tree l))) d) same (within_each children n x lt is d h) in
    fine d (subst (λ l. Contains l d) (sym (nodes_of_info a i k))
    (Contains-append_right (info_tree i ∷ []) (nodes_of_each (trees (map info_tree (info_children i)))) d inside))
