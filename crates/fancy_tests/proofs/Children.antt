-- The children of an analysed tree are neighbours, and well formed throughout.
use Rattle.std.proofs.Common.{◌≡◌, Bool, true, false, ◌&&◌, not, List, [], ◌∷◌, ◌++◌, map, length, refl, sym, ap, ◌∙◌, subst}
use Rattle.std.specs.List.{Contains, list_all}
use Rattle.std.proofs.lemmas.Bool.{and_parts}
use Rattle.std.proofs.lemmas.List.Elements.{Contains-append_left, Contains-append_right}
use Rattle.fancy_meaning.specs.Tree.{Tree, parts, trees}
use Rattle.fancy_meaning.specs.Nodes.{nodes, nodes_of_each}
use Rattle.fancy_meaning.specs.WellFormed.{IsFine}
use Rattle.fancy_meaning.specs.Premises.{Analysed, analysis, tree_of}
use Rattle.fancy_laws.proofs.Orderly.{analysed_is_fine}
use Rattle.fancy_expr.specs.Each.{Each}
use Rattle.fancy_expr.proofs.NodeParts.{nodes-parts}
use Rattle.fancy_info.specs.declared.info.Info.{Info}
use Rattle.fancy_info.specs.Infos.{info_tree, info_children, info_facts, info_hard, IsRoot}
use Rattle.fancy_expr.specs.Walk.{start_inside, within_inside}
use Rattle.fancy_analysis.proofs.InfoNodes.{parts-out}
use Rattle.fancy_nfa.specs.Nfas.{AreFine}
use Rattle.fancy_nfa.proofs.Nodes.{each_easy_by}
use Rattle.fancy_fragments.specs.Nodes.{AreEasyNeighbours}

each_fine : (es : List Tree) → ((d : Tree) → Contains (nodes_of_each (trees es)) d → IsFine d) → AreFine es
each_fine [] fine = tt
each_fine (e ∷ es) fine = (
  (λ d in_e. fine d (Contains-append_left (nodes e) (nodes_of_each (trees es)) d in_e)),
  each_fine es (λ d in_es. fine d (Contains-append_right (nodes e) (nodes_of_each (trees es)) d in_es)),
)

not_true : (b : Bool) → not b ≡ true → b ≡ false
not_true true h = sym h
not_true false h = refl

each_easy : (is : List Info) → list_all (λ i. not (info_facts i).hard) is ≡ true → Each (λ i. info_hard i ≡ false) is
each_easy [] h = tt
each_easy (i ∷ is) h =
    let both = and_parts _ _ h in
    (not_true (info_hard i) both.0, each_easy is both.1)

module _ (a : Analysed) (i : Info) (root : IsRoot (analysis a) i) where
  tree_parts : parts (tree_of a) ≡ trees (map info_tree (info_children i))
  tree_parts = ap parts (sym root.tree) ∙ parts-out i root.node.arity

  pub neighbours : list_all (λ i. not (info_facts i).hard) (info_children i) ≡ true → AreEasyNeighbours (info_children i)
  neighbours easy = record {
    analysis = analysis a;
    each = each_easy_by (analysis a) (info_children i) root.children (each_easy (info_children i) easy);
    fine = each_fine (map info_tree (info_children i)) (λ d below. analysed_is_fine a d
        (subst (λ l. Contains l d) (sym (nodes-parts (tree_of a) ∙ ap (λ es. tree_of a ∷ nodes_of_each es) tree_parts))
        (Contains-append_right (tree_of a ∷ []) (nodes_of_each (trees (map info_tree (info_children i)))) d below)));
    within = within_inside (info_facts i).expr (info_facts i).within;
    first = start_inside (info_facts i).expr (info_facts i).start_group;
    in_turn = root.node.in_turn;
  }
