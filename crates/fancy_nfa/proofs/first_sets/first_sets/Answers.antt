use Rattle.std.proofs.Common.{◌≡◌, true, map, sym, ◌∙◌, subst}
use Rattle.fancy_nfa.specs.FirstSets.{covers}
use Rattle.fancy_nfa.specs.Views.{state_of}
use Rattle.fancy_nfa.proofs.FirstSetLaws.{are_first_sets}
use Rattle.fancy_nfa.proofs.first_sets.first_sets.Goals as goal

pub returns : goal.returns
returns c =
    let reached = c.in_ok-reached.reached.items in
    let leads = c.in_ok-levels.ensures in
    are_first_sets c.args.unicode (map state_of c.args.states.now) reached c.in_ok-levels.levels.items leads.0
    (subst (λ r. covers r 0 255 ≡ true) c.deref.ensures.value (sym c.covers.ensures ∙ c.if-not-covers.false))
    leads.1
