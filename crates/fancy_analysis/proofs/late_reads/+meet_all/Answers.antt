use Rattle.std.proofs.Common.{◌≡◌, ◌<◌, ◌==◌, length, map, get_or, refl, arith, ap, ◌∙◌, sym}
use Rattle.fancy_meaning.specs.Sizes.{known_of}
use Rattle.fancy_meaning.specs.Spots.{Around, spots}
use Rattle.fancy_meaning.specs.Tree.{trees}
use Rattle.fancy_info.specs.Infos.{info_tree, info_children, info_facts}
use Rattle.fancy_info.proofs.Unfolded.{tree_out}
use Rattle.fancy_analysis.specs.LateReads.{meet, met_over, own_inside}
use Rattle.fancy_analysis.specs.Links.{around_inside, follows}
use Rattle.fancy_analysis.proofs.InfoNodes.{child_sized}
use Rattle.fancy_analysis.proofs.SpotNodes.{met-append, on_way_all, on_way_first, on_way_more, own-inside, owner_kept}
use Rattle.fancy_analysis.proofs.late_reads.+meet_all.Goals as goal

pub loop-child-init : goal.loop-child-init
loop-child-init t c = λ whole a sized is.
    let g = c.args.group in
    let info = c.args.info.now in
    let f = info_facts info in
    on_way_first (met_over g) whole info a (met-append g) (λ r. (r.owner == g) ≡ c.own_inside-inside.result) c.args.met c.meet-met.result sized
    (own-inside g f.expr f.start_group a ∙ ap (own_inside f.expr f.start_group g) is ∙ sym c.own_inside-inside.ensures)
    (c.meet-met.ensures f.start_group f.within (trees (map info_tree (info_children info)))
    ∙ ap (λ t. meet g c.args.own t c.args.met) (sym (tree_out info)) ∙ ap (λ own. meet g own (info_tree info) c.args.met) (sym is))

pub loop-child-preserved : goal.loop-child-preserved
loop-child-preserved t c = λ whole a sized is.
    let g = c.args.group in
    let info = c.args.info.now in
    let f = info_facts info in
    let child = c.child-item.result in
    let n = c.loop-child.child-index in
    let inside = c.own_inside-inside.result in
    let At : Around → Type 0 = λ r. (r.owner == g) ≡ inside in
    let lt : n < length (info_children info) = omega (arith, ap length c.deref-child-items.ensures.value) in
    let at : child ≡ get_or (info_children info) n child = c.child-item.is ∙ ap (λ l. get_or l n child) c.deref-child-items.ensures.value in
    let w = c.loop-child.invariant whole a sized is in
    on_way_more (met_over g) whole info a (met-append g) At At (met_over g c.args.met (spots whole a (info_tree info))) c.loop-child.met c.meet_all-met.result
    n child lt at w (c.meet_all-met.ensures whole w.around (child_sized (known_of whole) info n child lt at sized) w.stands)
    (owner_kept (λ o. (o == g) ≡ inside) whole (info_tree child) (follows f.expr n) w.around (around_inside f.expr f.start_group a) w.stands
    (own-inside g f.expr f.start_group a ∙ ap (own_inside f.expr f.start_group g) is ∙ sym c.own_inside-inside.ensures))

pub returns : goal.returns
returns t c = λ whole a sized is.
    let g = c.args.group in
    let info = c.args.info.now in
    on_way_all (met_over g) whole info a (λ m. refl) (λ r. (r.owner == g) ≡ c.own_inside-inside.result) (met_over g c.args.met (spots whole a (info_tree info)))
    c.loop-child.met c.loop-child.child-index (omega (arith, ap length c.deref-child-items.ensures.value)) (c.loop-child.invariant whole a sized is)
