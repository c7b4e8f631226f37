-- How many groups there are, child by child.
use Rattle.std.proofs.Common.{◌≡◌, ℕ, ◌+◌, ◌<◌, ◌≤◌, List, [], ◌∷◌, ◌++◌, length, map, take, drop, filter_map, get_or, sym, ap, ◌∙◌, arith, length-append}
use Rattle.std.proofs.lemmas.List.{map-append, take_all, take-append-drop}
use Rattle.std.proofs.lemmas.List.Elements.{filter_map-append}
use Rattle.fancy_meaning.specs.Nodes.{as_group, groups, group_count}
use Rattle.fancy_expr.specs.declared.expr.Expr.{Expr}
use Rattle.fancy_expr.specs.Views.{tree_of}
use Rattle.fancy_expr.specs.Exprs.{below, exprs, exprs_of_each}
use Rattle.fancy_expr.proofs.Exprs.{exprs-below, nodes-exprs}
use Rattle.fancy_expr.proofs.Walks.{each-append, each-taken}

-- how many of these nodes are groups
abbrev pub group_total : List Expr → ℕ
group_total es = length (filter_map as_group (map tree_of es))

abbrev pub own_group : Expr → ℕ
own_group e = group_total (e ∷ [])

pub total-append : (a b : List Expr) → group_total (a ++ b) ≡ group_total a + group_total b
total-append a b =
    ap (λ l. length (filter_map as_group l)) (map-append tree_of a b)
    ∙ ap length (filter_map-append as_group (map tree_of a) (map tree_of b))
    ∙ length-append (filter_map as_group (map tree_of a)) (filter_map as_group (map tree_of b))

pub count-total : (e : Expr) → group_count (tree_of e) ≡ group_total (exprs e)
unfolding group_count groups
count-total e = ap (λ l. length (filter_map as_group l)) (sym (nodes-exprs e))

pub count-below : (e : Expr) → group_count (tree_of e) ≡ own_group e + group_total (exprs_of_each (below e))
count-below e = count-total e ∙ ap group_total (exprs-below e) ∙ total-append (e ∷ []) (exprs_of_each (below e))

pub total-taken : (es : List Expr) (i : ℕ) (e : Expr) → i < length es → e ≡ get_or es i e →
    group_total (exprs_of_each (take (i + 1) es)) ≡ group_total (exprs_of_each (take i es)) + group_count (tree_of e)
total-taken es i e h at =
    ap group_total (each-taken es i e h at)
    ∙ total-append (exprs_of_each (take i es)) (exprs e)
    ∙ ap (λ n. group_total (exprs_of_each (take i es)) + n) (sym (count-total e))

pub total-all : (e : Expr) (n : ℕ) → length (below e) ≤ n → own_group e + group_total (exprs_of_each (take n (below e))) ≡ group_count (tree_of e)
total-all e n h = ap (λ l. own_group e + group_total (exprs_of_each l)) (take_all n (below e) h) ∙ sym (count-below e)

pub total-most : (es : List Expr) (n : ℕ) → group_total (exprs_of_each (take n es)) ≤ group_total (exprs_of_each es)
total-most es n =
    omega (
      arith,
      total-append (exprs_of_each (take n es)) (exprs_of_each (drop n es)),
      ap group_total (sym (each-append (take n es) (drop n es)) ∙ ap exprs_of_each (take-append-drop n es)),
    )
