use Rattle.std.proofs.Common.{length, map, sym, ap, ◌∙◌, arith}
use Rattle.fancy_expr.specs.Exprs.{exprs_of_each}
use Rattle.fancy_expr.specs.Views.{tree_of}
use Rattle.fancy_expr.proofs.Exprs.{below-concat, below-alt, exprs-below}
use Rattle.fancy_fragments.proofs.CopiedNodes.{copied_concat, copied_alt, each_smaller, one_more}
use Rattle.fancy_fragments.proofs.copies.+copying.Goals as goal

pub copy_of-copies_of-requires : goal.copy_of-copies_of-requires
copy_of-copies_of-requires t c =
    let e = c.args.expr.now in
    let same = below-concat e c.in-Concat.parts c.in-Concat.is ∙ sym c.deref.ensures.value in
    (omega (arith, ap length (exprs-below e), ap (λ l. length (exprs_of_each l)) same), tt)

pub copy_of-copies_of-requires-in-Alt : goal.copy_of-copies_of-requires-in-Alt
copy_of-copies_of-requires-in-Alt t c =
    let e = c.args.expr.now in
    let same = below-alt e c.in-Alt.branches c.in-Alt.is ∙ sym c.deref-in-Alt.ensures.value in
    (omega (arith, ap length (exprs-below e), ap (λ l. length (exprs_of_each l)) same), tt)

pub copy_of-returns-in_ok-copies_of-in-Concat : goal.copy_of-returns-in_ok-copies_of-in-Concat
copy_of-returns-in_ok-copies_of-in-Concat t c =
    copied_concat _ _ _ c.in-Concat.is (c.in_ok-copies_of-in-Concat.ensures ∙ ap (map tree_of) c.deref.ensures.value)

pub copy_of-returns-in_ok-copies_of-in-Alt : goal.copy_of-returns-in_ok-copies_of-in-Alt
copy_of-returns-in_ok-copies_of-in-Alt t c =
    copied_alt _ _ _ c.in-Alt.is (c.in_ok-copies_of-in-Alt.ensures ∙ ap (map tree_of) c.deref-in-Alt.ensures.value)

pub copies_of-copy_of-requires : goal.copies_of-copy_of-requires
copies_of-copy_of-requires t c =
    (omega (arith, each_smaller c.args.exprs.now c.loop-expr.expr-index c.expr-item.result (omega arith) c.expr-item.is), tt)

pub copies_of-loop-expr-preserved : goal.copies_of-loop-expr-preserved
copies_of-loop-expr-preserved t c =
    one_more _ _ _ _ _ _ (omega arith) c.expr-item.is c.loop-expr.invariant c.in_ok-copy_of.ensures c.in_ok-push.ensures.items
