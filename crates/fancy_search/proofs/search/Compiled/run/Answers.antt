use Rattle.std.proofs.Common.{refl}
use Rattle.std.proofs.lemmas.Result.{err_from_is_err_and}
use Rattle.fancy_program.proofs.FitsLaws.{run_place}
use Rattle.fancy_steps.specs.Tasks.{options_of as run_options_of, task_of}
use Rattle.fancy_search.specs.Searches.{program}
use Rattle.fancy_search.proofs.Searched.{none_promises}
use Rattle.fancy_search.proofs.search.Compiled.run.Goals as goal

pub returns-then-is_too_short-clause-promise : goal.returns-then-is_too_short-clause-promise
returns-then-is_too_short-clause-promise c i from =
    let text = c.args.text.now in
    let o = c.args.options.now in
    let at = run_place (task_of (program c.args.self.now) text o) c.requires.fits in
    none_promises i c.args.self.now text o from c.requires.fits (c.is_too_short.ensures c.if-is_too_short.true i (run_options_of o) from at refl)

pub returns-in_err-found-clause-promise : goal.returns-in_err-found-clause-promise
returns-in_err-found-clause-promise c i from =
    let p = err_from_is_err_and c.from_residual.result c.from_residual.ensures.1 in
    rw (p.1, p.2) (c.in_err-found.ensures.promise i from)

pub returns-in_err-found-clause-bounds : goal.returns-in_err-found-clause-bounds
returns-in_err-found-clause-bounds c i from =
    let p = err_from_is_err_and c.from_residual.result c.from_residual.ensures.1 in
    rw (p.1, p.2) (c.in_err-found.ensures.bounds i from)
