-- The children of a node, one by one.
use Rattle.std.proofs.Common.{◌≡◌, ℕ, zero, suc, ◌+◌, ◌<◌, ◌≤◌, List, [], ◌∷◌, length, map, drop, get_or, sym, ap, ◌∙◌, subst, arith, add-one}
use Rattle.std.proofs.Math.Seq.{drop-cons}
use Rattle.fancy_meaning.specs.Tree.{trees}
use Rattle.fancy_expr.specs.declared.expr.Expr.{Expr}
use Rattle.fancy_expr.specs.Each.{Each}
use Rattle.fancy_info.specs.declared.info.Info.{Info}
use Rattle.fancy_info.specs.declared.info.Info.TheViews.{out-Info}
use Rattle.fancy_info.specs.declared.info.Info.TheFolds.{fold_out-Info}
use Rattle.fancy_info.specs.Infos.{info_tree, info_children, info_within, node_over}
use Rattle.fancy_info.specs.NodeCounts.{size_step, node_count, node_counts}
use Rattle.fancy_info.proofs.Unfolded.{tree_out}

-- ---- lists

pub each_at : {X : Type 0} (P : X → Type 0) (l : List X) (i : ℕ) (x : X) → Each P l → i < length l → x ≡ get_or l i x → P x
each_at P [] i x h lt e = absurd (omega arith)
each_at P (y ∷ l) zero x h lt e = subst P (sym e) h.0
each_at P (y ∷ l) (suc i) x h lt e = each_at P l i x h.1 (omega arith) e

pub rest_at : {X : Type 0} (l : List X) (i : ℕ) (x : X) → i < length l → x ≡ get_or l i x → drop i l ≡ x ∷ drop (i + 1) l
rest_at l i x h at = drop-cons l i x h ∙ ap (λ y. y ∷ drop (suc i) l) (sym at) ∙ ap (λ k. x ∷ drop k l) (sym (add-one i))

pub only_one : (l : List Info) (d : Info) → length l ≡ 1 → d ≡ get_or l 0 d → l ≡ d ∷ []
only_one [] d n e = absurd (omega arith)
only_one (x ∷ []) d n e = ap (λ y. y ∷ []) (sym e)
only_one (x ∷ y ∷ l) d n e = absurd (omega arith)

-- ---- how many nodes there are

pub node_count-below : (i : Info) → node_count i ≡ suc (node_counts (info_children i))
node_count-below i = fold_out-Info ℕ size_step i

pub child_count : (l : List Info) (i : ℕ) (x : Info) → i < length l → x ≡ get_or l i x → node_count x ≤ node_counts l
child_count [] i x h e = absurd (omega arith)
child_count (y ∷ l) zero x h e = omega (arith, ap node_count e)
child_count (y ∷ l) (suc i) x h e = omega (arith, child_count l i x (omega arith) e)

-- ---- the node over them

-- the tree by this expression and these children
pub tree_by : (info : Info) (e : Expr) (l : List Info) → (out-Info info).expr.now ≡ e → info_children info ≡ l
    → info_tree info ≡ node_over e (out-Info info).start_group (info_within info) (trees (map info_tree l))
tree_by info e l at kids =
    tree_out info ∙ ap (λ x. node_over x (out-Info info).start_group (info_within info) (trees (map info_tree (info_children info)))) at
    ∙ ap (λ m. node_over e (out-Info info).start_group (info_within info) (trees (map info_tree m))) kids
