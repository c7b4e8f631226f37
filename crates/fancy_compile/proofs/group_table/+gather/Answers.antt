use Rattle.std.proofs.Common.{◌≡◌, ◌<◌, ◌++◌, length, drop, ◌+◌, sym, ap, ◌∙◌, arith, append-nil, append_assoc}
use Rattle.fancy_compile.specs.GroupTables.{is_group, own_trees, trees_of, group_trees}
use Rattle.fancy_info.specs.Infos.{info_facts, info_children, info_tree}
use Rattle.fancy_compile.proofs.Known.{fine_part, part_known, part_smaller}
use Rattle.fancy_compile.proofs.GroupTable.{each_group_trees, groups_of_info, no_groups, each_rest}
use Rattle.fancy_compile.proofs.group_table.+gather.Goals as goal

pub returns-then-start_group-end_group : goal.returns-then-start_group-end_group
returns-then-start_group-end_group t c =
    let i = c.args.info.now in
    let old = trees_of c.args.nodes.now.items in
    let same : (info_facts i).start_group ≡ (info_facts i).end_group = omega (
      arith,
      c.start_group.ensures,
      c.end_group.ensures,
      c.if-start_group-end_group.true,
    ) in record {
      nodes = λ a k. sym (ap (λ l. old ++ l) (no_groups a i k same) ∙ append-nil old);
      known = λ a most k fine le all. all;
    }

pub loop-part-init : goal.loop-part-init
loop-part-init t c =
    let i = c.args.info.now in
    let own = own_trees (is_group (info_facts i).expr) (info_tree i) in
    let old = trees_of c.args.nodes.now.items in
    record {
      nodes = λ a k.
          ap (λ l. l ++ each_group_trees c.children-children.result.now) c.in_ok-gather_own.ensures.nodes
          ∙ ap (λ l. (old ++ own) ++ each_group_trees l) c.children-children.ensures
          ∙ append_assoc old own (each_group_trees (info_children i))
          ∙ ap (λ l. old ++ l) (sym (groups_of_info a i k));
      known = c.in_ok-gather_own.ensures.known;
    }

pub gather-requires : goal.gather-requires
gather-requires t c =
    let lt : c.loop-part.part-index < length c.children-children.result.now = omega arith in (
      omega (arith, part_smaller c.args.info.now _ c.children-children.ensures _ _ lt c.part-item.is),
      (c.requires.0, part_known c.args.info.now _ c.children-children.ensures _ _ lt c.part-item.is c.requires.0 c.requires.1),
    )

pub loop-part-preserved : goal.loop-part-preserved
loop-part-preserved t c =
    let children = c.children-children.result.now in
    let n = c.loop-part.part-index in
    let x = c.part-item.result in
    let lt : n < length children = omega arith in
    let before = trees_of c.loop-part.nodes.items in
    record {
      nodes = λ a k.
          let known = part_known c.args.info.now children c.children-children.ensures n x lt c.part-item.is a k in
          ap (λ l. l ++ each_group_trees (drop (n + 1) children)) (c.in_ok-gather.ensures.nodes a known)
          ∙ append_assoc before (group_trees (info_tree x)) (each_group_trees (drop (n + 1) children))
          ∙ ap (λ l. before ++ l) (sym (each_rest children n x lt c.part-item.is))
          ∙ c.loop-part.invariant.nodes a k;
      known = λ a most k fine le all.
          let known = part_known c.args.info.now children c.children-children.ensures n x lt c.part-item.is a k in
          c.in_ok-gather.ensures.known a most known (fine_part c.args.info.now children c.children-children.ensures n x lt c.part-item.is a k fine)
          (omega (arith, le, part_smaller c.args.info.now children c.children-children.ensures n x lt c.part-item.is))
          (c.loop-part.invariant.known a most k fine le all);
    }
