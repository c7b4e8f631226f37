use Rattle.std.proofs.Common.{◌≡◌, ℕ, ◌&&◌, ◌||◌, false, nat_lt, take, length, slice_index_or}
use Rattle.fancy_expr.specs.Exprs.{below, exprs}
use Rattle.fancy_analysis.proofs.InfoNodes.{read_among_each, read_here}
use Rattle.fancy_analysis.proofs.reads.+mark_all.Given as goal

abbrev pub decreases-mark_all : goal.decreases-mark_all
decreases-mark_all l = length (exprs l.expr.now)

abbrev pub invariant-loop-i : goal.invariant-loop-i
invariant-loop-i l =
    (g : ℕ)
    → slice_index_or l.reads g false
    ≡ (slice_index_or l.fn.reads g false || (nat_lt g (length l.fn.reads) && (read_here l.expr g || read_among_each (take l.i (below l.expr)) g)))
