use Rattle.std.proofs.Common.{◌≡◌, ◌<◌, length, get_or, if◌then◌else◌, sym, ap, ◌∙◌, subst, arith, append-nil}
use Rattle.fancy_meaning.specs.Sizes.{known_of}
use Rattle.fancy_meaning.specs.Spots.{past, spots}
use Rattle.fancy_info.specs.Infos.{info_children, info_facts, info_tree}
use Rattle.fancy_analysis.specs.Links.{IsAt, around_inside, follows, links_at}
use Rattle.fancy_analysis.proofs.InfoNodes.{child_sized}
use Rattle.fancy_analysis.proofs.SpotNodes.{child_size, links-join, more_links, on_way_first, on_way_more, on_way_all, own_added}
use Rattle.fancy_analysis.proofs.links.+add_links.Goals as goal
use Rattle.fancy_analysis.proofs.links.+add_links.Goals.{then-follows, else-follows}

pub loop-i-init : goal.loop-i-init
loop-i-init t c = λ whole a at sized.
    on_way_first more_links whole c.args.info.now a links-join (IsAt c.inside-first.result) c.args.links.now.items c.add_link.new.links.items sized
    (c.inside-first.ensures a at) (own_added c.args.info.now a _ _ _ (c.own_link.ensures a _ _ at) c.in_ok-add_link.ensures)

pub loop-i-preserved : goal.loop-i-preserved
unfolding links_at
loop-i-preserved t c = λ whole a at sized.
    let info = c.args.info.now in
    let e = (info_facts info).expr in
    let n = c.loop-i.i in
    let child = c.child-item.result in
    let lt : n < length (info_children info) = omega (arith, ap length c.deref-child-items.ensures.value) in
    let here : child ≡ get_or (info_children info) n child = c.child-item.is ∙ ap (λ l. get_or l n child) c.deref-child-items.ensures.value in
    let w = c.loop-i.invariant whole a at sized in
    let sized_child = child_sized (known_of whole) info n child lt here sized in
    let behind = past whole (info_tree child) w.around in
    let inside = around_inside e (info_facts info).start_group a in
    let stands : IsAt c.if-follows.next (if follows e n then behind else inside) = elim c.if-follows.branch [
      | then-follows b ↦ subst (λ x. IsAt x (if follows e n then behind else inside)) (sym b.next-is)
          (subst (λ f. IsAt b.past-next.result (if f then behind else inside)) b.if-follows.ensures
          (b.past-next.ensures whole w.around w.stands (child_size whole child sized_child)))
      | else-follows b ↦ subst (λ x. IsAt x (if follows e n then behind else inside)) (sym b.next-is)
          (subst (λ f. IsAt c.inside-first.result (if f then behind else inside)) b.if-follows.ensures (c.inside-first.ensures a at))
    ] in
    on_way_more more_links whole info a links-join (IsAt c.loop-i.next) (IsAt c.if-follows.next)
    (more_links c.args.links.now.items (spots whole a (info_tree info))) c.loop-i.links.items c.add_links.new.links.items n child lt here w
    (c.in_ok-add_links.ensures whole w.around w.stands sized_child) stands

pub returns : goal.returns
unfolding links_at
returns t c = λ whole a at sized.
    on_way_all more_links whole c.args.info.now a (λ l. append-nil l) (IsAt c.loop-i.next)
    (more_links c.args.links.now.items (spots whole a (info_tree c.args.info.now))) c.loop-i.links.items c.loop-i.i
    (omega (arith, ap length c.deref-child-items.ensures.value)) (c.loop-i.invariant whole a at sized)
