use Rattle.std.proofs.Common.{◌∙◌, ap, subst, sym}
use Rattle.fancy_steps.specs.Outcomes.{answer_in}
use Rattle.fancy_steps.specs.SearchLimits.{StaysWithin}
use Rattle.fancy_vm.specs.Scratches as runs
use Rattle.fancy_search.proofs.Bounded.{search_may_pass}
use Rattle.fancy_search.proofs.Searched.{run_promises}
use Rattle.fancy_search.proofs.search.Compiled.search_by_one_run.Goals as goal

pub returns-clause-promise : goal.returns-clause-promise
returns-clause-promise c i from =
    run_promises i c.args.self.now c.args.text.now c.args.options.now from c.requires.fits
    (answer_in c.run_into-answer.result c.run_into-answer.new.numbers) c.run_into-answer.ensures.machine c.run_into-answer.ensures.headline

pub returns-clause-bounds : goal.returns-clause-bounds
returns-clause-bounds c i from =
    search_may_pass i c.args.self.now c.args.text.now c.args.options.now from c.requires.fits
    (answer_in c.run_into-answer.result c.run_into-answer.new.numbers) c.run_into-answer.ensures.bounds

pub returns-clause-limits : goal.returns-clause-limits
returns-clause-limits c = ap runs.limits_of c.count.ensures.runs ∙ c.run_into-answer.ensures.limits

pub returns-clause-stays : goal.returns-clause-stays
returns-clause-stays c =
    subst (StaysWithin c.run_into-answer.result) (sym (ap runs.passed_of c.count.ensures.runs)) c.run_into-answer.ensures.stays
