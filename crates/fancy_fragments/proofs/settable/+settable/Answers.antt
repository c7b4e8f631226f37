use Rattle.std.proofs.Common.{max, map, ap, sym, ◌∙◌, subst, arith}
use Rattle.fancy_expr.specs.Each.{Each}
use Rattle.fancy_info.specs.Infos.{info_tree, IsFound, IsAnalysed}
use Rattle.fancy_info.proofs.Unfolded.{each_below}
use Rattle.fancy_info.specs.NodeCounts.{node_counts}
use Rattle.fancy_info.proofs.Children.{each_at, child_count, node_count-below}
use Rattle.fancy_expr.specs.Views.{tree_of}
use Rattle.fancy_fragments.specs.Settable.{settable_above, is_way_in}
use Rattle.fancy_fragments.proofs.SettableNodes.{greater, one_more, node_in, node_out}
use Rattle.fancy_fragments.proofs.settable.+settable.Goals as goal

pub settable_above-settable_above_one-requires : goal.settable_above-settable_above_one-requires
settable_above-settable_above_one-requires t c =
    let a = c.requires.0 in (
      omega (arith, child_count c.args.infos.now c.loop-info.info-index c.info-item.result (omega arith) c.info-item.is),
      (a, each_at (IsAnalysed a) c.args.infos.now c.loop-info.info-index c.info-item.result c.requires.1 (omega arith) c.info-item.is),
    )

pub settable_above-loop-info-preserved : goal.settable_above-loop-info-preserved
settable_above-loop-info-preserved t c =
    let step = one_more c.args.infos.now c.loop-info.info-index c.info-item.result c.loop-info.above (omega arith) c.info-item.is c.loop-info.invariant in
    c.max-above.ensures
    ∙ greater c.loop-info.above c.settable_above_one.result
    ∙ ap (max c.loop-info.above) c.settable_above_one.ensures
    ∙ step

pub settable_above_one-settable_above-requires : goal.settable_above_one-settable_above-requires
settable_above_one-settable_above-requires t c =
    let a = c.requires.0 in (
      omega (arith, node_count-below c.args.info.now, ap node_counts c.children.ensures),
      (a, subst (Each (IsAnalysed a)) (sym c.children.ensures) (each_below (IsFound a) c.args.info.now c.requires.1)),
    )

pub settable_above_one-returns-then-is_way_in : goal.settable_above_one-returns-then-is_way_in
settable_above_one-returns-then-is_way_in t c =
    let whole = node_in c.args.info.now c.requires
    (ap (λ e. is_way_in (tree_of e)) (sym c.expr.ensures) ∙ sym c.is_way_in.ensures ∙ c.if-is_way_in.true) c.settable_above.result c.own_above.result
    (c.settable_above.ensures ∙ ap (λ l. settable_above (map info_tree l)) c.children.ensures) c.own_above.ensures in
    c.max.ensures ∙ whole

pub settable_above_one-returns-else-is_way_in : goal.settable_above_one-returns-else-is_way_in
settable_above_one-returns-else-is_way_in t c =
    node_out c.args.info.now c.requires
    (ap (λ e. is_way_in (tree_of e)) (sym c.expr.ensures) ∙ sym c.is_way_in.ensures ∙ c.if-is_way_in.false)
