use Rattle.std.proofs.Common.{Some, length, refl, sym, ap, ◌∙◌}
use Rattle.std.proofs.lemmas.Bool.{ltb-true}
use Rattle.std.proofs.lemmas.Option.{slice_get_read}
use Rattle.fancy_nfa.specs.declared.nfa_state.NfaState.TheVariants as nfa_state
use Rattle.fancy_nfa.specs.OnePass.{config_at}
use Rattle.fancy_nfa.proofs.OnePassLaws.{goes, jump_fails, stays}
use Rattle.fancy_nfa.proofs.search.Searcher.behind_jump.Goals as goal

pub returns-in-Some-Jump-clause-walks : goal.returns-in-Some-Jump-clause-walks
returns-in-Some-Jump-clause-walks c = λ s place.
    let states = c.args.self.now.states.now in
    let at = c.args.at in
    let to = c.in-Some-Jump.to in
    let found = c.in-Some-Jump.ensures.lookup in
    let there = slice_get_read states (length states) at c.in-Some-Jump.field-0.now refl (ltb-true at (length states) (sym found.0)) found.1
    ∙ ap Some c.in-Some-Jump.field-0-is in
    goes c.args.self.now (nfa_state.Jump to) (config_at s at place) there (config_at s to place) refl

pub returns-in-Some-Jump-clause-fails : goal.returns-in-Some-Jump-clause-fails
returns-in-Some-Jump-clause-fails c = λ place.
    let states = c.args.self.now.states.now in
    let at = c.args.at in
    let to = c.in-Some-Jump.to in
    let found = c.in-Some-Jump.ensures.lookup in
    let there = slice_get_read states (length states) at c.in-Some-Jump.field-0.now refl (ltb-true at (length states) (sym found.0)) found.1
    ∙ ap Some c.in-Some-Jump.field-0-is in
    jump_fails c.args.self.now at to place there

pub returns-in_default-clause-walks : goal.returns-in_default-clause-walks
returns-in_default-clause-walks c = λ s place. stays c.args.self.now (config_at s c.args.at place)

pub returns-in_default-2-clause-walks : goal.returns-in_default-2-clause-walks
returns-in_default-2-clause-walks c = λ s place. stays c.args.self.now (config_at s c.args.at place)
