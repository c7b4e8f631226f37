use Rattle.std.proofs.Common.{length, refl, sym, ap, ◌∙◌, Some, arith}
use Rattle.std.proofs.lemmas.Bool.{ltb-true}
use Rattle.std.proofs.lemmas.Option.{slice_get_read}
use Rattle.fancy_nfa.proofs.search.Searcher.body_at.Goals as goal

pub returns-then-to-head : goal.returns-then-to-head
returns-then-to-head c =
    let states = c.args.self.now.states.now in
    let taken = c.in-Some-Character.ensures.lookup in
    let jumps = c.in-Some-Jump.ensures.lookup in
    let test = slice_get_read states (length states) c.args.first c.in-Some-Character.field-0.now refl (ltb-true c.args.first (length states)
    (sym taken.0)) taken.1
    ∙ ap Some c.in-Some-Character.field-0-is in
    let jump = slice_get_read states (length states) _ c.in-Some-Jump.field-0.now refl (ltb-true _ (length states) (sym jumps.0)) jumps.1
    ∙ ap Some c.in-Some-Jump.field-0-is in
    (test, grind (arith, jump))
