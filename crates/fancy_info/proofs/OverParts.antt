-- The children of a node that is made over them.
use Rattle.std.proofs.Common.{◌≡◌, ℕ, List, [], ◌∷◌, length, refl, ap, arith}
use Rattle.fancy_meaning.specs.Tree as plain
use Rattle.fancy_meaning.specs.Tree.{Tree, none, more, trees, parts}
use Rattle.fancy_expr.specs.declared.expr.Absent.{Absent}
use Rattle.fancy_expr.specs.declared.expr.Absent.TheVariants as code_absent
use Rattle.fancy_expr.specs.declared.expr.Expr.{Expr}
use Rattle.fancy_expr.specs.declared.expr.Expr.TheVariants as code
use Rattle.fancy_expr.specs.Exprs.{below, below_absent}
use Rattle.fancy_info.specs.Infos.{nth, absent_over, node_over}

one_part : (ts : List Tree) → length ts ≡ 1 → more (nth (trees ts) 0) none ≡ trees ts
one_part [] h = absurd (omega arith)
one_part (a ∷ []) h = refl
one_part (a ∷ b ∷ ts) h = absurd (omega arith)

two_parts : (ts : List Tree) → length ts ≡ 2 → more (nth (trees ts) 0) (more (nth (trees ts) 1) none) ≡ trees ts
two_parts [] h = absurd (omega arith)
two_parts (a ∷ ts) h = ap (more a) (one_part ts (omega arith))

three_parts : (ts : List Tree) → length ts ≡ 3 → more (nth (trees ts) 0) (more (nth (trees ts) 1) (more (nth (trees ts) 2) none)) ≡ trees ts
three_parts [] h = absurd (omega arith)
three_parts (a ∷ ts) h = ap (more a) (two_parts ts (omega arith))

no_parts : (ts : List Tree) → length ts ≡ 0 → none ≡ trees ts
no_parts [] h = refl
no_parts (a ∷ ts) h = absurd (omega arith)

absent-parts : (a : Absent) (ts : List Tree) → length ts ≡ length (below_absent a) → parts (absent_over a (trees ts)) ≡ trees ts
absent-parts (code_absent.Repeater' b e) ts h = one_part ts h
absent-parts (code_absent.Expression' b a c e) ts h = two_parts ts h
absent-parts (code_absent.Stopper' b e) ts h = one_part ts h
absent-parts code_absent.Clear ts h = no_parts ts h

pub over-parts : (e : Expr) (n : ℕ) (w : plain.Within) (ts : List Tree) → length ts ≡ length (below e) → parts (node_over e n w (trees ts)) ≡ trees ts
over-parts (code.Concat' shape row) n w ts h = refl
over-parts (code.Alt' shape row) n w ts h = refl
over-parts (code.Group' b e) n w ts h = one_part ts h
over-parts (code.LookAround' b e look) n w ts h = one_part ts h
over-parts (code.Repeat' b e lo hi greedy) n w ts h = one_part ts h
over-parts (code.AtomicGroup' b e) n w ts h = one_part ts h
over-parts (code.Conditional' b c d t x f) n w ts h = three_parts ts h
over-parts (code.Absent a) n w ts h = absent-parts a ts h
over-parts (code.DefineGroup' b e) n w ts h = one_part ts h
over-parts e n w ts h = no_parts ts h
