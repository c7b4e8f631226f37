-- The children of an easy node.
use Rattle.std.proofs.Common.{◌≡◌, ◌<◌, ◌==◌, ◌&&◌, false, List, [], ◌∷◌, length, get_or, sym, ap, ◌∙◌, subst, arith}
use Rattle.std.proofs.lemmas.Bool.{or_parts}
use Rattle.fancy_meaning.specs.Tree.{Tree, Trees, trees}
use Rattle.fancy_meaning.specs.Options.{Analysis}
use Rattle.fancy_meaning.specs.Hard.{is_hard}
use Rattle.fancy_meaning.specs.Sizes.{size}
use Rattle.fancy_delegation.proofs.EasyNodes.{AllEasy, easy_each}
use Rattle.fancy_info.specs.declared.info.Info.{Info}
use Rattle.fancy_info.specs.declared.info.Info.TheViews.{out-Info, roll-out-Info}
use Rattle.fancy_expr.specs.declared.expr.Expr.{Expr}
use Rattle.fancy_expr.specs.Exprs.{below}
use Rattle.fancy_info.specs.Infos.{info_tree, info_children, info_size, info_within, info_hard, node_over, IsFound, IsAnalysed, IsRoot}
use Rattle.fancy_expr.specs.Each.{Each}
use Rattle.fancy_info.specs.NodeCounts.{node_count, node_counts}
use Rattle.fancy_info.proofs.Children.{only_one, node_count-below, tree_by}
use Rattle.fancy_info.proofs.Unfolded.{tree_out, each_here, each_below, each_made}
use Rattle.fancy_nfa.specs.Neighbours.{IsEasy, trees_of}

-- ---- easy nodes

module _ (a : Analysis) where
  pub easy_size : (i : Info) → IsEasy a i → info_size i ≡ size a.tree (info_tree i)
  easy_size i h = (each_here (IsFound a) i h.analysed).node.size ∙ ap (size a.tree) (sym (tree_out i))

  pub each_easy : (is : List Info) → Each (IsAnalysed a) is → AllEasy a (trees_of is) → Each (IsEasy a) is
  each_easy [] h g = tt
  each_easy (i ∷ is) h g =
      let q = easy_each a (info_tree i) (trees_of is) g in
      (record { analysed = h.0; easy = q.0 }, each_easy is h.1 q.1)

module _ (info : Info) where
  module _ (a : Analysis) (h : IsEasy a info) where
    pub children_analysed : Each (IsAnalysed a) (info_children info)
    children_analysed = each_below (IsFound a) info h.analysed

    -- children of a node over several others
    pub easy_kids : (whole : Trees → Tree) → ((es : Trees) → is_hard a (whole es) ≡ false → AllEasy a es) →
        info_tree info ≡ whole (trees_of (info_children info)) → (kids : List Info) → kids ≡ info_children info → Each (IsEasy a) kids
    easy_kids whole easy tree kids same =
        subst (Each (IsEasy a)) (sym same)
        (each_easy a (info_children info) children_analysed
        (easy (trees_of (info_children info)) (subst (λ e. is_hard a e ≡ false) tree h.easy)))

    pub easy_arity : length (info_children info) ≡ length (below (out-Info info).expr.now)
    easy_arity = (each_here (IsFound a) info h.analysed).node.arity

    -- a node over one other
    module _ (d : Info) (e : Expr) (at : (out-Info info).expr.now ≡ e) (one : length (below e) ≡ 1) where
      pub has_one : length (info_children info) ≡ 1
      has_one = easy_arity ∙ ap (λ x. length (below x)) at ∙ one

      module _ (here : d ≡ get_or (info_children info) 0 d) where
        pub one_child : info_children info ≡ d ∷ []
        one_child = only_one (info_children info) d has_one here

        pub smaller_child : node_count d < node_count info
        smaller_child = omega (arith, node_count-below info, ap node_counts one_child)

        pub tree_over : info_tree info ≡ node_over e (out-Info info).start_group (info_within info) (trees (info_tree d ∷ []))
        tree_over = tree_by info e (d ∷ []) at one_child

        pub easy_child : is_hard a (info_tree d) ≡ false → IsEasy a d
        easy_child easy = record { analysed = (subst (Each (IsAnalysed a)) one_child children_analysed).0; easy = easy }

        -- as the law of its kind says
        pub easy_body : (is_hard a (node_over e (out-Info info).start_group (info_within info) (trees (info_tree d ∷ []))) ≡ false →
            is_hard a (info_tree d) ≡ false) → IsEasy a d
        easy_body law = easy_child (law (subst (λ x. is_hard a x ≡ false) tree_over h.easy))

-- ---- for callers: what an analysis found not to be hard

module _ (a : Analysis) where
  pub easy_by : (i : Info) → IsAnalysed a i → info_hard i ≡ false → IsEasy a i
  easy_by i h easy = record { analysed = h; easy = ap (is_hard a) (tree_out i) ∙ sym (each_here (IsFound a) i h).hard ∙ easy }

  pub each_easy_by : (is : List Info) → Each (IsAnalysed a) is → Each (λ i. info_hard i ≡ false) is → Each (IsEasy a) is
  each_easy_by [] h easy = tt
  each_easy_by (i ∷ is) h easy = (easy_by i h.0 easy.0, each_easy_by is h.1 easy.1)

  -- the root, which is found hard also where it is no hard node
  pub root_easy : (i : Info) → IsRoot a i → info_hard i ≡ false → IsEasy a i
  root_easy i h easy =
      let no = or_parts (is_hard a a.tree) (a.end_text && (size a.tree a.tree).least == 0) (sym h.hard ∙ easy) in
      let tree = ap (is_hard a) h.tree ∙ no.0 in
      record {
        analysed = subst (IsAnalysed a) (roll-out-Info i)
            (each_made (IsFound a) (out-Info i)
            (record { node = h.node; hard = easy ∙ sym (ap (is_hard a) (sym (tree_out i)) ∙ tree) }) h.children);
        easy = tree;
      }
