use Rattle.std.proofs.Common.{false, length, sym, ap, ◌∙◌, subst}
use Rattle.std.proofs.lemmas.List.{length-replicate}
use Rattle.fancy_analysis.specs.Reached.{IsState}
use Rattle.fancy_analysis.proofs.SearchSteps.{first_state, room_all}
use Rattle.fancy_analysis.proofs.cycle_search.CycleSearch.of.Goals as goal

pub returns-clause-searching : goal.returns-clause-searching
returns-clause-searching c =
    let links = c.args.links.now in
    let n = c.args.numbers in
    let seen = c.in_ok-seen.seen.items in
    let long = ap length c.in_ok-seen.ensures ∙ length-replicate n false in
    subst (IsState links 0 c.in_ok-ways.ways.items seen c.in_ok-done.done.items) (sym c.new.ensures.items)
    (first_state links c.in_ok-ways.ways.items seen c.in_ok-done.done.items n (room_all links seen n c.requires.some long c.requires.room) long
    c.in_ok-ways.ensures.ways c.in_ok-seen.ensures c.in_ok-done.ensures)
