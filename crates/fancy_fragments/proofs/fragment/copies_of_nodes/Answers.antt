use Rattle.std.proofs.Common.{ap, ◌∙◌, arith}
use Rattle.fancy_expr.specs.Views.{tree_of}
use Rattle.fancy_fragments.proofs.FragmentNodes.{one_more}
use Rattle.fancy_fragments.proofs.fragment.copies_of_nodes.Goals as goal

pub loop-info-preserved : goal.loop-info-preserved
loop-info-preserved c =
    one_more c.args.infos.now _ _ c.loop-info.info-index c.info-item.result _ (omega arith) c.info-item.is c.loop-info.invariant
    (c.in_ok-copy_of.ensures ∙ ap tree_of c.expr.ensures) c.in_ok-push.ensures.items
