-- Whether a node of some kind stands below a node.
use Rattle.std.proofs.Common.{◌≡◌, ℕ, ◌+◌, ◌<◌, ◌≤◌, ◌||◌, Bool, true, false, List, length, map, drop, get_or, sym, ap, ◌∙◌}
use Rattle.std.specs.List.{list_any}
use Rattle.std.proofs.lemmas.List.{drop_all}
use Rattle.std.proofs.Math.Bool.{or-true}
use Rattle.std.proofs.lemmas.List.Folds.{list_any-append}
use Rattle.fancy_meaning.specs.Tree.{Tree, Trees, trees, Within}
use Rattle.fancy_meaning.specs.Nodes.{nodes, nodes_of_each}
use Rattle.fancy_meaning.specs.Options.{Analysis}
use Rattle.fancy_expr.specs.declared.expr.Expr.{Expr}
use Rattle.fancy_info.specs.declared.info.Info.{Info}
use Rattle.fancy_info.specs.declared.info.Info.TheViews.{out-Info}
use Rattle.fancy_info.specs.Infos.{node_over, info_tree, info_within, info_children, info_facts}
use Rattle.fancy_info.proofs.Unfolded.{tree_out}
use Rattle.fancy_compile.specs.AnalysedNodes.{IsKnown}
use Rattle.fancy_info.proofs.Children.{rest_at}
use Rattle.fancy_compile.proofs.Known.{nodes_of_info}

module _ (test : Tree → Bool) where
  -- the nodes of these, and below them
  abbrev pub any_below : List Info → Bool
  any_below is = list_any test (nodes_of_each (trees (map info_tree is)))

  pub any_more : (l : List Info) (i : ℕ) (x : Info) → i < length l → x ≡ get_or l i x
      → any_below (drop i l) ≡ (list_any test (nodes (info_tree x)) || any_below (drop (i + 1) l))
  any_more l i x lt at = ap any_below (rest_at l i x lt at) ∙ list_any-append test (nodes (info_tree x))
      (nodes_of_each (trees (map info_tree (drop (i + 1) l))))

  pub any_done : (l : List Info) (i : ℕ) → length l ≤ i → any_below (drop i l) ≡ false
  any_done l i end = ap any_below (drop_all i l end)

  -- where the test of a node goes by its expression
  module _ (of_expr : Expr → Bool) (over : (es : Trees) (n : ℕ) (w : Within) (e : Expr) → test (node_over e n w es) ≡ of_expr e) where
    pub any_of_info : (a : Analysis) (i : Info) → IsKnown a i → list_any test (nodes (info_tree i)) ≡
        (of_expr (info_facts i).expr || any_below (info_children i))
    any_of_info a i k =
        ap (list_any test) (nodes_of_info a i k)
        ∙ ap (λ b. b || any_below (info_children i))
        (ap test (tree_out i) ∙ over (trees (map info_tree (info_children i))) (out-Info i).start_group (info_within i) (out-Info i).expr.now)

    module _ (a : Analysis) (i : Info) (k : IsKnown a i) (l : List Info) (is : l ≡ info_children i) (n : ℕ)
        (so_far : any_below l ≡ any_below (drop n l)) where
      pub found_below : (x : Info) → n < length l → x ≡ get_or l n x → list_any test (nodes (info_tree x)) ≡ true
          → true ≡ list_any test (nodes (info_tree i))
      found_below x lt at h =
          let here : any_below (info_children i) ≡ true = ap any_below (sym is) ∙ so_far ∙ any_more l n x lt at ∙ ap (λ b. b || any_below (drop (n + 1) l)) h in
          sym (any_of_info a i k ∙ ap (λ b. of_expr (info_facts i).expr || b) here ∙ or-true (of_expr (info_facts i).expr))

      pub none_found : of_expr (info_facts i).expr ≡ false → length l ≤ n → false ≡ list_any test (nodes (info_tree i))
      none_found plainly end =
          let here : any_below (info_children i) ≡ false = ap any_below (sym is) ∙ so_far ∙ any_done l n end in
          sym (any_of_info a i k ∙ ap (λ b. b || any_below (info_children i)) plainly ∙ here)
