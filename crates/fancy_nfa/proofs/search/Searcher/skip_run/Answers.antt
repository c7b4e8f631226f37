use Rattle.fancy_nfa.proofs.RunLaws.{at_head, skip_run}
use Rattle.fancy_nfa.proofs.search.Searcher.skip_run.Goals as goal

pub returns-clause-ok : goal.returns-clause-ok
returns-clause-ok c =
    skip_run c.args.self.now c.args.m.now c.keep_run.new.self c.args.test.now c.args.config c.run_length-count.result c.keep_run.result
    c.requires.runs c.run_length-count.ensures.run c.keep_run.ensures.ok

pub returns-clause-at : goal.returns-clause-at
returns-clause-at c = at_head c.args.config c.run_length-count.result c.keep_run.result c.keep_run.ensures.on
