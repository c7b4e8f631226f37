-- The nodes of a fragment are those that it was built of.
use Rattle.std.proofs.Common.{◌≡◌, ℕ, ◌+◌, ◌*◌, ◌<◌, Bool, nat_le, List, [], ◌∷◌, ◌++◌, length, map, take, get_or, refl, sym, ap, ap₂, subst, ◌∙◌}
use Rattle.std.proofs.lemmas.List.{map-append}
use Rattle.fancy_meaning.specs.Tree.{Within, trees, children}
use Rattle.fancy_meaning.specs.Numbering.{each_numbered}
use Rattle.fancy_meaning.specs.Options.{Analysis}
use Rattle.fancy_expr.specs.declared.expr.Expr.{Expr}
use Rattle.fancy_expr.specs.Each.{Each}
use Rattle.fancy_expr.specs.Views.{tree_of}
use Rattle.fancy_expr.proofs.Walks.{taken}
use Rattle.fancy_info.specs.declared.info.Info.{Info}
use Rattle.fancy_info.specs.Infos.{info_tree, AreInTurn, IsAnalysed}
use Rattle.fancy_nfa.specs.declared.nfa.Nfa.{Nfa}
use Rattle.fancy_nfa.specs.Neighbours.{IsEasy}
use Rattle.fancy_nfa.specs.Nfas.{AreFine, IsNfaOf}
use Rattle.fancy_fragments.specs.Nodes.{AreEasyNeighbours, BeginAt, IsLaidOut, fits_over, nodes_over, plain_tree}
use Rattle.fancy_fragments.specs.Settable.{settable_above}
use Rattle.fancy_fragments.proofs.Numbered.{are_numbered}
use Rattle.fancy_fragments.proofs.SettableNodes.{children_listed, fits_below}

-- one more copy
pub one_more : (is : List Info) (old new : List Expr) (k : ℕ) (i : Info) (copy : Expr) → k < length is → i ≡ get_or is k i →
    map tree_of old ≡ map plain_tree (take k is) → tree_of copy ≡ plain_tree i → new ≡ old ++ copy ∷ [] →
    map tree_of new ≡ map plain_tree (take (k + 1) is)
one_more is old new k i copy lt at before copied made =
    ap (map tree_of) made
    ∙ map-append tree_of old (copy ∷ [])
    ∙ ap₂ (λ l t. l ++ t ∷ []) before copied
    ∙ sym (map-append plain_tree (take k is) (i ∷ []))
    ∙ ap (map plain_tree) (sym (taken is k i lt at))

pub each_analysed : (a : Analysis) (is : List Info) → Each (IsEasy a) is → Each (IsAnalysed a) is
each_analysed a [] h = tt
each_analysed a (i ∷ is) h = (h.0.analysed, each_analysed a is h.1)

-- they can be taken to begin where the first of them does
begun : (w v : Within) (n k : ℕ) (is : List Info) → AreInTurn w n is → BeginAt v k is →
    each_numbered w n (trees (map plain_tree is)) ≡ each_numbered v k (trees (map plain_tree is))
begun w v n k [] turn begin = refl
begun w v n k (i ∷ is) (within, starts, rest) begin =
    ap₂ (λ x m. each_numbered x m (trees (map plain_tree (i ∷ is)))) (sym within ∙ sym begin.0) (sym starts ∙ sym begin.1)

module _ (is : List Info) (h : AreEasyNeighbours is) (exprs : List Expr) (copied : map tree_of exprs ≡ map plain_tree is) (first : ℕ) (w : Within)
    (begin : BeginAt w first is) where
  pub same_nodes : nodes_over exprs first w ≡ map info_tree is
  same_nodes =
      ap (λ l. children (each_numbered w first (trees l))) copied
      ∙ ap children (sym (begun h.within w h.first first is h.in_turn begin))
      ∙ ap children (sym (are_numbered h.analysis h.within h.first is (each_analysed h.analysis is h.each) h.in_turn))
      ∙ children_listed (map info_tree is)

  pub laid_over : (unicode : Bool) (nfa : Nfa) →
      ((a : Analysis) → Each (IsEasy a) is → AreFine (map info_tree is) → IsNfaOf a (map info_tree is) unicode nfa) →
      ∥ IsLaidOut (nodes_over exprs first w) unicode nfa ∥₁
  laid_over unicode nfa made =
      ∣ (h.analysis, subst (λ es. IsNfaOf h.analysis es unicode nfa) (sym same_nodes) (made h.analysis h.each h.fine)) ∣₁

  pub fits_copied : (settable : ℕ) → settable ≡ settable_above (map info_tree is) → (slots : ℕ) →
      fits_over slots (nodes_over exprs first w) ≡ nat_le (2 * settable) slots
  fits_copied settable most slots =
      ap (fits_over slots) same_nodes ∙ fits_below slots (map info_tree is) ∙ ap (λ n. nat_le (2 * n) slots) (sym most)
