use Rattle.std.proofs.Common.{sym, ◌∙◌, arith}
use Rattle.fancy_fragments.proofs.SettableNodes.{group_ends}
use Rattle.fancy_fragments.proofs.settable.own_above.Goals as goal

pub prove-unreachable-requires : goal.prove-unreachable-requires
prove-unreachable-requires c =
    omega (
      arith,
      group_ends c.args.info.now c.requires c.in-Group.field-0 (sym c.expr.ensures ∙ c.in-Group.is),
      c.end_group.ensures,
      c.start_group.ensures,
    )
