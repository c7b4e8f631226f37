-- Expressions that are the same node over the same children, and lists of them.
use Rattle.std.proofs.Common.{◌≡◌, ℕ, ◌+◌, ◌<◌, ◌≤◌, List, [], ◌∷◌, ◌++◌, length, map, take, get_or, refl, sym, ap, ap₂, ◌∙◌}
use Rattle.std.proofs.lemmas.List.{map-append, take_all}
use Rattle.fancy_meaning.specs.Tree.{Tree, Trees, NoLook, trees, parts}
use Rattle.fancy_expr.specs.declared.expr.Absent.{Absent}
use Rattle.fancy_expr.specs.declared.expr.Absent.TheVariants as code_absent
use Rattle.fancy_expr.specs.declared.expr.Expr.{Expr}
use Rattle.fancy_expr.specs.declared.expr.Expr.TheVariants as code
use Rattle.fancy_expr.specs.Exprs.{below}
use Rattle.fancy_expr.specs.Views.{tree_of, absent_of}
use Rattle.fancy_expr.proofs.Exprs.{parts-below}
use Rattle.fancy_expr.proofs.Walks.{taken}
use Rattle.fancy_info.specs.Infos.{absent_over, node_over}

-- ---- nodes over the same children

absent_rebuilt : (a : Absent) → absent_of a ≡ absent_over a (parts (absent_of a))
absent_rebuilt (code_absent.Repeater' b e) = refl
absent_rebuilt (code_absent.Expression' b a c e) = refl
absent_rebuilt (code_absent.Stopper' b e) = refl
absent_rebuilt code_absent.Clear = refl

rebuilt : (e : Expr) → tree_of e ≡ node_over e 0 NoLook (parts (tree_of e))
rebuilt (code.Absent a) = absent_rebuilt a
rebuilt e = refl

pub same_tree : (e d : Expr) → ((es : Trees) → node_over e 0 NoLook es ≡ node_over d 0 NoLook es) → map tree_of (below e) ≡ map tree_of (below d)
    → tree_of e ≡ tree_of d
same_tree e d alike same =
    rebuilt e ∙ ap (node_over e 0 NoLook) (parts-below e ∙ ap trees same ∙ sym (parts-below d)) ∙ alike (parts (tree_of d)) ∙ sym (rebuilt d)

-- ---- lists, one by one

module _ {X Y : Type 0} (f : X → Tree) (g : Y → Tree) (xs : List X) (ys : List Y) (i : ℕ) where
  -- one more of each
  pub same_more : (x : X) (y : Y) → i < length xs → x ≡ get_or xs i x → i < length ys → y ≡ get_or ys i y → f x ≡ g y
      → map f (take i xs) ≡ map g (take i ys) → map f (take (i + 1) xs) ≡ map g (take (i + 1) ys)
  same_more x y lt at lt2 at2 same before =
      ap (map f) (taken xs i x lt at)
      ∙ map-append f (take i xs) (x ∷ [])
      ∙ ap₂ (λ l t. l ++ t ∷ []) before same
      ∙ sym (map-append g (take i ys) (y ∷ []))
      ∙ ap (map g) (sym (taken ys i y lt2 at2))

  pub same_all : length xs ≤ i → length ys ≤ i → map f (take i xs) ≡ map g (take i ys) → map f xs ≡ map g ys
  same_all past past2 h = ap (map f) (sym (take_all i xs past)) ∙ h ∙ ap (map g) (take_all i ys past2)
