use Rattle.std.proofs.Common.{◌∙◌, refl}
use Rattle.fancy_program.proofs.FitsLaws.{run_place}
use Rattle.fancy_steps.specs.Tasks.{options_of as run_options_of, task_of}
use Rattle.fancy_search.specs.Searches.{program}
use Rattle.fancy_search.proofs.Searched.{none_promises}
use Rattle.fancy_search.proofs.search.Compiled.search_into.Goals as goal

pub returns-then-has_none-clause-promise : goal.returns-then-has_none-clause-promise
returns-then-has_none-clause-promise c i from =
    let text = c.args.text.now in
    let o = c.args.options.now in
    let at = run_place (task_of (program c.args.self.now) text o) c.requires.fits in
    none_promises i c.args.self.now text o from c.requires.fits (c.has_none.ensures c.if-has_none.true i (run_options_of o) from at refl)

pub returns-then-has_none-clause-limits : goal.returns-then-has_none-clause-limits
returns-then-has_none-clause-limits c = c.limit.ensures.limits ∙ c.limits.ensures
