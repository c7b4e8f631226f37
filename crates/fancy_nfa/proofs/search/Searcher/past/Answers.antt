use Rattle.fancy_nfa.proofs.OnePassLaws.{comes_behind_answered}
use Rattle.fancy_nfa.proofs.search.Searcher.past.Goals as goal

pub returns : goal.returns
returns c =
    comes_behind_answered c.args.self.now c.args.at c.behind_jump.result c.args.place c.skip_state.result
    (λ s. c.behind_jump.ensures.walks s c.args.place) c.skip_state.ensures
