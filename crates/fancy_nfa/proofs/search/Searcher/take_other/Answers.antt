use Rattle.std.proofs.Common.{sym, ◌≤◌, length, refl}
use Rattle.std.proofs.lemmas.Bool.{ltb-false}
use Rattle.fancy_nfa.specs.Searches.{continuation_of}
use Rattle.fancy_nfa.proofs.SearchLaws.{lost_past}
use Rattle.fancy_backtrack.proofs.MemoLaws.{no_tries}
use Rattle.std.proofs.lemmas.Bool.{ltb-true}
use Rattle.std.proofs.lemmas.Option.{slice_get_read}
use Rattle.fancy_nfa.proofs.search.Searcher.take_other.Goals as goal

pub returns-in-None-clause-leads : goal.returns-in-None-clause-leads
returns-in-None-clause-leads c = λ s first other is_memoized f rest h here e.
    let searcher = c.args.self.now in
    let past : length searcher.states.now ≤ c.args.config.at =
    ltb-false c.args.config.at (length searcher.states.now) (sym c.in-None.ensures.lookup.0) in
    absurd (no_tries (continuation_of searcher s) is_memoized first other (lost_past searcher c.args.config s here.at past) e)

pub returns-in-Some-clause-leads : goal.returns-in-Some-clause-leads
returns-in-Some-clause-leads c = c.other_from.ensures.leads

pub other_from-requires : goal.other_from-requires
other_from-requires c =
    let states = c.args.self.now.states.now in
    let at = c.args.config.at in
    let found = c.in-Some.ensures.lookup in
    slice_get_read states (length states) at c.in-Some.nfa_state.now refl (ltb-true at (length states) (sym found.0)) found.1
