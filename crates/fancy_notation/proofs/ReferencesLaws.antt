-- What is gathered child by child is gathered of the whole tree.
use Rattle.std.proofs.Common.{◌≡◌, ℕ, ◌+◌, ◌<◌, ◌≤◌, List, [], ◌∷◌, ◌++◌, length, take, get_or, map, refl, sym, ap, ◌∙◌}
use Rattle.std.proofs.lemmas.List.{take_all, map-append}
use Rattle.fancy_meaning.specs.Tree.{Tree}
use Rattle.fancy_meaning.specs.Nodes.{nodes}
use Rattle.fancy_expr.specs.declared.expr.Expr.{Expr}
use Rattle.fancy_expr.specs.declared.expr.Absent.{Absent}
use Rattle.fancy_expr.specs.declared.expr.Absent.TheVariants as code_absent
use Rattle.fancy_expr.specs.declared.expr.Expr.TheVariants as code
use Rattle.fancy_expr.specs.Views.{tree_of, absent_of}
use Rattle.fancy_expr.specs.Exprs.{below, exprs, exprs_of_each}
use Rattle.fancy_expr.proofs.Exprs.{exprs-below, nodes-exprs}
use Rattle.fancy_expr.proofs.Walks.{each-taken}
use Rattle.fancy_notation.specs.References.{Referenced, with_node, with_nodes}

pub with_absent : (s : Referenced) (e : Expr) (a : Absent) → e ≡ code.Absent a → s ≡ with_node s (tree_of e)
with_absent s e a is =
    sym (ap (λ x. with_node s (tree_of x)) is
    ∙ elim a as (λ x. with_node s (absent_of x) ≡ s) [
      | code_absent.Repeater' b y ↦ refl
      | code_absent.Expression' b y d z ↦ refl
      | code_absent.Stopper' b y ↦ refl
      | code_absent.Clear ↦ refl
    ])

with_nodes-append : (s : Referenced) (a b : List Tree) → with_nodes s (a ++ b) ≡ with_nodes (with_nodes s a) b
with_nodes-append s [] b = refl
with_nodes-append s (e ∷ a) b = with_nodes-append (with_node s e) a b

pub with_more : (s before after : Referenced) (es : List Expr) (i : ℕ) (e : Expr) → i < length es → e ≡ get_or es i e →
    before ≡ with_nodes s (map tree_of (exprs_of_each (take i es))) → after ≡ with_nodes before (nodes (tree_of e)) →
    after ≡ with_nodes s (map tree_of (exprs_of_each (take (i + 1) es)))
with_more s before after es i e h at was is =
    is
    ∙ ap (λ l. with_nodes before l) (sym (nodes-exprs e))
    ∙ ap (λ b. with_nodes b (map tree_of (exprs e))) was
    ∙ sym (with_nodes-append s (map tree_of (exprs_of_each (take i es))) (map tree_of (exprs e)))
    ∙ ap (with_nodes s) (sym (map-append tree_of (exprs_of_each (take i es)) (exprs e)))
    ∙ ap (λ l. with_nodes s (map tree_of l)) (sym (each-taken es i e h at))

pub with_done : (s after : Referenced) (e : Expr) (n : ℕ) → length (below e) ≤ n →
    after ≡ with_nodes (with_node s (tree_of e)) (map tree_of (exprs_of_each (take n (below e)))) → after ≡ with_nodes s (nodes (tree_of e))
with_done s after e n h is =
    is
    ∙ ap (λ l. with_nodes (with_node s (tree_of e)) (map tree_of (exprs_of_each l))) (take_all n (below e) h)
    ∙ sym (ap (λ l. with_nodes s (map tree_of l)) (exprs-below e))
    ∙ ap (with_nodes s) (nodes-exprs e)
