-- The trees of copied sequences and alternations.
use Rattle.std.proofs.Common.{◌≡◌, ℕ, zero, suc, ◌+◌, ◌<◌, ◌≤◌, List, [], ◌∷◌, ◌++◌, length, map, take, get_or, Vec, Global, refl, sym, ap, ap₂, ◌∙◌, arith, length-append}
use Rattle.std.proofs.lemmas.List.{map-append}
use Rattle.fancy_meaning.specs.Tree.{Concat, Alt, trees}
use Rattle.fancy_expr.specs.declared.expr.Expr.{Expr}
use Rattle.fancy_expr.specs.declared.expr.Absent.TheViews as view
use Rattle.fancy_expr.specs.Exprs.{exprs, exprs_of_each}
use Rattle.fancy_expr.specs.Views.{tree_of}
use Rattle.fancy_expr.proofs.Exprs.{parts-below, below-concat, below-alt}
use Rattle.fancy_expr.proofs.Walks.{taken}

pub tree-concat : (v : Vec Expr Global) → tree_of (view.Concat v) ≡ Concat (trees (map tree_of v.items))
tree-concat v = ap Concat (parts-below (view.Concat v) ∙ ap (λ l. trees (map tree_of l)) (below-concat _ v refl))

tree-alt : (v : Vec Expr Global) → tree_of (view.Alt v) ≡ Alt (trees (map tree_of v.items))
tree-alt v = ap Alt (parts-below (view.Alt v) ∙ ap (λ l. trees (map tree_of l)) (below-alt _ v refl))

pub copied_concat : (e : Expr) (v w : Vec Expr Global) → e ≡ view.Concat v → map tree_of w.items ≡ map tree_of v.items →
    tree_of (view.Concat w) ≡ tree_of e
copied_concat e v w is same =
    tree-concat w
    ∙ ap (λ l. Concat (trees l)) same
    ∙ sym (tree-concat v)
    ∙ sym (ap tree_of is)

pub copied_alt : (e : Expr) (v w : Vec Expr Global) → e ≡ view.Alt v → map tree_of w.items ≡ map tree_of v.items →
    tree_of (view.Alt w) ≡ tree_of e
copied_alt e v w is same =
    tree-alt w
    ∙ ap (λ l. Alt (trees l)) same
    ∙ sym (tree-alt v)
    ∙ sym (ap tree_of is)

-- ---- how many nodes there are

-- one of these nodes has no more below it than all
pub each_smaller : (es : List Expr) (i : ℕ) (e : Expr) → i < length es → e ≡ get_or es i e → length (exprs e) ≤ length (exprs_of_each es)
each_smaller [] i e h at = absurd (omega arith)
each_smaller (x ∷ es) zero e h at = omega (arith, ap (λ y. length (exprs y)) at, length-append (exprs x) (exprs_of_each es))
each_smaller (x ∷ es) (suc i) e h at = omega (arith, each_smaller es i e (omega arith) at, length-append (exprs x) (exprs_of_each es))

-- ---- copies

-- one more copy
pub one_more : (given old new : List Expr) (i : ℕ) (e copy : Expr) → i < length given → e ≡ get_or given i e →
    map tree_of old ≡ map tree_of (take i given) → tree_of copy ≡ tree_of e → new ≡ old ++ copy ∷ [] →
    map tree_of new ≡ map tree_of (take (i + 1) given)
one_more given old new i e copy lt at before copied is =
    ap (map tree_of) is
    ∙ map-append tree_of old (copy ∷ [])
    ∙ ap₂ (λ l t. l ++ t ∷ []) before copied
    ∙ sym (map-append tree_of (take i given) (e ∷ []))
    ∙ ap (map tree_of) (sym (taken given i e lt at))
