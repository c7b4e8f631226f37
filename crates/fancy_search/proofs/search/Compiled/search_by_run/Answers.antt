use Rattle.fancy_steps.specs.Tasks.{options_of}
use Rattle.fancy_search.proofs.CandidateAnswers.{told_by}
use Rattle.fancy_search.proofs.Pairs.{told_bounds, told_promises}
use Rattle.fancy_search.proofs.search.Compiled.search_by_run.Goals as goal

pub returns-in-Found-clause-promise : goal.returns-in-Found-clause-promise
returns-in-Found-clause-promise c i from =
    let text = c.args.text.now in
    let found = c.in-Found.found in
    let numbers = c.try_candidates.new.numbers in
    told_promises i c.args.self.now text c.args.options.now from c.requires.fits found numbers
    (told_by i text (options_of c.args.options.now) found numbers.items (c.in-Found.ensures.told i from))

pub returns-in-Found-clause-bounds : goal.returns-in-Found-clause-bounds
returns-in-Found-clause-bounds c i from = told_bounds i c.args.text.now c.args.options.now c.in-Found.found c.try_candidates.new.numbers
