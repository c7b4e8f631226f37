use Rattle.fancy_nfa.proofs.OnePassLaws.{runs_ascii}
use Rattle.fancy_nfa.proofs.search.Searcher.skip_ascii.Goals as goal

pub returns-clause-on : goal.returns-clause-on
returns-clause-on c =
    runs_ascii c.args.self.now c.as_bytes.result.now c.args.test.now c.args.from c.skip_ascii.result c.as_bytes.ensures.value
    c.skip_ascii.ensures.pass c.skip_ascii.ensures.further
