use Rattle.std.proofs.Common.{◌≡◌, ◌&&◌, ◌||◌, false, nat_lt, ◌<◌, length, get_or, slice_index_or, arith, ap, ◌∙◌, sym}
use Rattle.fancy_analysis.specs.Endings.{ends_by, with_part, node_ends, is_own_end, group_ends}
use Rattle.fancy_info.specs.Infos.{info_tree, info_children, info_facts}
use Rattle.fancy_analysis.proofs.InfoNodes.{child_sized}
use Rattle.fancy_analysis.proofs.EndingRules.{ends-taken, ends-here, flag_more, flag_all}
use Rattle.fancy_analysis.proofs.endings.+find_ends.Goals as goal

pub loop-i-preserved : goal.loop-i-preserved
loop-i-preserved t c =
    let info = c.args.info.now in
    let flags = c.args.flags.now in
    let e = (info_facts info).expr in
    let child = c.child-item.result in
    let n = c.loop-i.i in
    let lt : n < length (info_children info) = omega (arith, ap length c.deref-child-items.ensures.value) in
    let at : child ≡ get_or (info_children info) n child = c.child-item.is ∙ ap (λ l. get_or l n child) c.deref-child-items.ensures.value in
    let so_far = c.loop-i.invariant in (
      c.find_ends-ends.ensures.length ∙ so_far.0,
      λ a found.
          c.with_part-parts.ensures
          ∙ ap (with_part e n c.loop-i.parts) (c.find_ends-ends.ensures.ends a (child_sized a info n child lt at found))
          ∙ ap (λ p. with_part e n p (ends_by flags (info_tree child))) (so_far.1 a found)
          ∙ sym (ends-taken flags e (info_children info) n child lt at),
      λ a found g.
          flag_more flags g (info_children info) n child (slice_index_or c.args.next.now g false) (slice_index_or c.loop-i.next g false)
          (slice_index_or c.find_ends-ends.new.next g false) (nat_lt g (length c.args.next.now)) lt at (so_far.2 a found g)
          (c.find_ends-ends.ensures.next a (child_sized a info n child lt at found) g
          ∙ ap (λ k. slice_index_or c.loop-i.next g false || (nat_lt g k && group_ends flags (info_tree child) g)) so_far.0),
    )

pub returns-clause-ends : goal.returns-clause-ends
returns-clause-ends t c = λ a found.
    let info = c.args.info.now in
    c.node_ends-ends.ensures
    ∙ ap (node_ends c.args.flags.now (info_facts info).expr) (c.loop-i.invariant.1 a found)
    ∙ ends-here c.args.flags.now a info c.loop-i.i found (omega (arith, ap length c.deref-child-items.ensures.value))

pub returns-clause-next : goal.returns-clause-next
returns-clause-next t c = λ a found g.
    let info = c.args.info.now in
    let ends = c.node_ends-ends.result in
    flag_all c.args.flags.now a g info c.loop-i.i (slice_index_or c.args.next.now g false) (slice_index_or c.loop-i.next g false)
    (slice_index_or c.set_flag.new.flags g false) (nat_lt g (length c.args.next.now)) ends found
    (omega (arith, ap length c.deref-child-items.ensures.value)) (returns-clause-ends t c a found) (c.loop-i.invariant.2 a found g)
    (c.set_flag.ensures.flags g
    ∙ ap (λ k. slice_index_or c.loop-i.next g false ||
    (nat_lt g k && is_own_end (info_facts info).expr (info_facts info).start_group ends g)) c.loop-i.invariant.0)
