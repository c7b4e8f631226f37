use Rattle.std.proofs.Common.{sym, ◌≤◌, ◌+◌, length, refl}
use Rattle.fancy_nfa.specs.Searches.{continuation_of}
use Rattle.std.proofs.lemmas.Bool.{ltb-false}
use Rattle.fancy_nfa.proofs.SearchLaws.{nothing_there}
use Rattle.fancy_backtrack.proofs.MemoLaws.{one_visit}
use Rattle.std.proofs.lemmas.Bool.{ltb-true}
use Rattle.std.proofs.lemmas.Option.{slice_get_read}
use Rattle.fancy_nfa.proofs.search.Searcher.take_up.Goals as goal

-- src/search.rt:428:5
pub returns-in-None-clause-leads : goal.returns-in-None-clause-leads
returns-in-None-clause-leads c = λ s f h here.
    let searcher = c.args.self.now in
    let past : length searcher.states.now ≤ c.args.config.at = ltb-false c.args.config.at (length searcher.states.now) (sym c.in-None.ensures.lookup.0) in (
      1,
      (
        record f { visits = f.visits + 1 },
        (
          nothing_there searcher c.args.config s f here.at past,
          one_visit (continuation_of searcher) c.args.m.now f h c.count.new.self c.count.ensures,
        ),
      ),
    )

pub returns-in-Some-clause-leads : goal.returns-in-Some-clause-leads
returns-in-Some-clause-leads c = c.take_up_state.ensures.leads

pub take_up_state-requires-clause-at : goal.take_up_state-requires-clause-at
take_up_state-requires-clause-at c =
    let states = c.args.self.now.states.now in
    let at = c.args.config.at in
    let found = c.in-Some.ensures.lookup in
    slice_get_read states (length states) at c.in-Some.nfa_state.now refl (ltb-true at (length states) (sym found.0)) found.1
