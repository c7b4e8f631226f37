use Rattle.std.proofs.Common.{◌∙◌, ap}
use Rattle.fancy_vm.specs.Scratches as runs
use Rattle.fancy_search.proofs.Pairs.{told_bounds, told_promises}
use Rattle.fancy_search.proofs.search.Compiled.search_in_second_gear.Goals as goal

pub returns-in-Ok-clause-promise : goal.returns-in-Ok-clause-promise
returns-in-Ok-clause-promise c i from =
    told_promises i c.args.self.now c.args.text.now c.args.options.now from c.requires.fits c.in-Ok.found c.search_by_engine.new.numbers
    (c.in-Ok.ensures.answers i from)

pub returns-in-Ok-clause-bounds : goal.returns-in-Ok-clause-bounds
returns-in-Ok-clause-bounds c i from = told_bounds i c.args.text.now c.args.options.now c.in-Ok.found c.search_by_engine.new.numbers

pub returns-in-Err-GaveUp-clause-limits : goal.returns-in-Err-GaveUp-clause-limits
returns-in-Err-GaveUp-clause-limits c =
    c.search_by_run.ensures.limits ∙ (ap runs.limits_of c.give_up_engine.ensures.runs ∙ c.search_by_engine.ensures.limits)
