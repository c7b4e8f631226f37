-- Where the groups below a node begin.
use Rattle.std.proofs.Common.{◌≡◌, ℕ, ◌+◌, ◌<◌, ◌^◌, ◌∷◌, [], length, take, get_or, refl, arith}
use Rattle.fancy_meaning.specs.Nodes.{group_count}
use Rattle.fancy_expr.specs.declared.expr.Absent.{Absent}
use Rattle.fancy_expr.specs.declared.expr.Absent.TheVariants as code_absent
use Rattle.fancy_expr.specs.declared.expr.Expr.{Expr}
use Rattle.fancy_expr.specs.declared.expr.Expr.TheVariants as code
use Rattle.fancy_expr.specs.Views.{tree_of}
use Rattle.fancy_expr.specs.Exprs.{below, exprs_of_each}
use Rattle.fancy_expr.specs.Walk.{start_inside}
use Rattle.fancy_expr.proofs.Groups.{group_total, own_group, total-taken, total-most, count-below}

absent-own : (a : Absent) → group_total (code.Absent a ∷ []) ≡ 0
absent-own (code_absent.Repeater' b e) = refl
absent-own (code_absent.Expression' b a c e) = refl
absent-own (code_absent.Stopper' b e) = refl
absent-own code_absent.Clear = refl

pub start-own : (e : Expr) (n : ℕ) → start_inside e n ≡ n + own_group e
start-own (code.Group' b e) n = omega arith
start-own (code.Absent a) n = omega (arith, absent-own a)
start-own e n = omega arith

-- room for the next child
pub room : (e child : Expr) (i start next : ℕ) → i < length (below e) → child ≡ get_or (below e) i child →
    next ≡ start_inside e start + group_total (exprs_of_each (take i (below e))) → start + group_count (tree_of e) < 2 ^ 64 →
    next + group_count (tree_of child) < 2 ^ 64
room e child i start next h at counted fits =
    omega (arith, counted, start-own e start, total-taken (below e) i child h at, total-most (below e) (i + 1), count-below e)
