use Rattle.std.proofs.Common.{map, refl, sym, subst}
use Rattle.fancy_nfa.specs.FirstSets.{AreLevels, IsLevel}
use Rattle.fancy_nfa.specs.Views.{state_of}
use Rattle.fancy_nfa.proofs.FirstSetLaws.{one_more}
use Rattle.fancy_nfa.proofs.first_sets.levels_from.Goals as goal

pub levels-init : goal.levels-init
levels-init c =
    let first = c.args.first.items in
    subst (λ levels. AreLevels c.args.unicode (map state_of c.args.states.now) first levels first) (sym c.new-levels.ensures.items) refl

pub returns-in_default : goal.returns-in_default
returns-in_default c = (c.levels.reached.items, c.levels.invariant)

pub levels-preserved : goal.levels-preserved
levels-preserved c =
    let unicode = c.args.unicode in
    let states = map state_of c.args.states.now in
    let first = c.args.first.items in
    let reached = c.levels.reached.items in
    let after = c.in_ok-after.after.items in
    let ascii = c.in-Some.set in
    subst (λ levels. AreLevels unicode states first levels after) (sym c.in_ok-push.ensures.items)
    (one_more unicode states first c.levels.levels.items reached ascii after c.levels.invariant
    (subst (λ r. IsLevel unicode states r ascii after) c.deref-in-levels.ensures.value
    (subst (λ a. IsLevel unicode states c.deref-in-levels.result.now ascii a) c.deref-in-levels-2.ensures.value c.in-Some.ensures)))

pub returns : goal.returns
returns c = (c.levels.reached.items, c.levels.invariant)
