-- How many nodes there are, child by child.
use Rattle.std.proofs.Common.{◌≡◌, ℕ, suc, ◌+◌, ◌<◌, ◌≤◌, List, length, take, get_or, sym, ap, ◌∙◌, length-append}
use Rattle.std.proofs.lemmas.List.{take_all}
use Rattle.fancy_expr.specs.declared.expr.Expr.{Expr}
use Rattle.fancy_expr.specs.Exprs.{below, exprs, exprs_of_each}
use Rattle.fancy_expr.proofs.Exprs.{exprs-below}
use Rattle.fancy_expr.proofs.Walks.{each-taken}

-- one more child
pub count-taken : (es : List Expr) (i : ℕ) (e : Expr) → i < length es → e ≡ get_or es i e →
    length (exprs_of_each (take (i + 1) es)) ≡ length (exprs_of_each (take i es)) + length (exprs e)
count-taken es i e h at = ap length (each-taken es i e h at) ∙ length-append (exprs_of_each (take i es)) (exprs e)

-- all children, and the node
pub count-all : (e : Expr) (n : ℕ) → length (below e) ≤ n → suc (length (exprs_of_each (take n (below e)))) ≡ length (exprs e)
count-all e n h = ap (λ l. suc (length (exprs_of_each l))) (take_all n (below e) h) ∙ sym (ap length (exprs-below e))
