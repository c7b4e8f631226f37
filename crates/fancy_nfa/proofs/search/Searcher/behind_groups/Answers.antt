use Rattle.std.proofs.Common.{Some, length, refl, sym, ap, ◌∙◌}
use Rattle.std.proofs.lemmas.Bool.{ltb-true}
use Rattle.std.proofs.lemmas.Option.{slice_get_read}
use Rattle.fancy_nfa.proofs.OnePassLaws.{close_fails, open_fails}
use Rattle.fancy_nfa.proofs.search.Searcher.behind_groups.Goals as goal

pub groups-preserved-in-Open : goal.groups-preserved-in-Open
groups-preserved-in-Open c = λ place fails.
    let searcher = c.args.self.now in
    let states = searcher.states.now in
    let next = c.groups.next in
    let found = c.in-Some.ensures.lookup in
    let there = slice_get_read states (length states) next c.in-Some.nfa_state.now refl (ltb-true next (length states) (sym found.0)) found.1
    ∙ ap Some c.in-Open.is in
    c.groups.invariant place (open_fails searcher next place there fails)

pub groups-preserved : goal.groups-preserved
groups-preserved c = λ place fails.
    let searcher = c.args.self.now in
    let states = searcher.states.now in
    let next = c.groups.next in
    let found = c.in-Some.ensures.lookup in
    let there = slice_get_read states (length states) next c.in-Some.nfa_state.now refl (ltb-true next (length states) (sym found.0)) found.1
    ∙ ap Some c.in-Close.is in
    c.groups.invariant place (close_fails searcher c.in-Close.field-0 next place there fails)
