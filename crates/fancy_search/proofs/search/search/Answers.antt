use Rattle.std.proofs.lemmas.Result.{err_from_is_err_and}
use Rattle.fancy_search.specs.Searches.{input_of}
use Rattle.fancy_search.proofs.Searched.{made_within, may_run, promised_within, refusal_made_within, refusal_promises}
use Rattle.fancy_search.proofs.search.search.Goals as goal

pub run-requires-clause-fits : goal.run-requires-clause-fits
run-requires-clause-fits c =
    may_run c.args.options.now c.args.tree.now c.in_ok-compiled.compiled c.args.text.now c.requires.fits c.in_ok-compiled.ensures.made

pub returns-in_err-compiled-clause-promise : goal.returns-in_err-compiled-clause-promise
returns-in_err-compiled-clause-promise c =
    let o = c.args.options.now in
    let p = err_from_is_err_and c.from_residual.result c.from_residual.ensures.1 in
    rw (p.1, p.2)
    (refusal_promises (input_of c.args.tree.now o.analysis o.compilation) o.compilation.max_nesting c.args.text.now o.run _ c.in_err-compiled.ensures.made)

pub returns-in_err-compiled-clause-within : goal.returns-in_err-compiled-clause-within
returns-in_err-compiled-clause-within c =
    let o = c.args.options.now in
    let p = err_from_is_err_and c.from_residual.result c.from_residual.ensures.1 in
    rw (p.1, p.2)
    (refusal_made_within (input_of c.args.tree.now o.analysis o.compilation) o.compilation.max_nesting _ c.in_err-compiled.ensures.made)

pub returns-clause-promise : goal.returns-clause-promise
returns-clause-promise c =
    let o = c.args.options.now in
    let i = input_of c.args.tree.now o.analysis o.compilation in
    promised_within i o.compilation.max_nesting c.args.text.now o.run c.run.result (c.run.ensures.promise i c.in_ok-compiled.ensures.made)

pub returns-clause-within : goal.returns-clause-within
returns-clause-within c =
    let o = c.args.options.now in
    made_within (input_of c.args.tree.now o.analysis o.compilation) o.compilation.max_nesting c.run.result c.in_ok-compiled.ensures.within
