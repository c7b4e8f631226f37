use Rattle.std.proofs.Common.{◌∙◌, sym, ap₂, subst}
use Rattle.fancy_steps.specs.SearchLimits.{StaysWithin}
use Rattle.fancy_host.specs.Hosted.{Answers, answered, compiled_of, outcome_of, passed_in, written}
use Rattle.fancy_host.proofs.Answered.{fits_by, promised_by, unfit_answers}
use Rattle.fancy_host.proofs.LimitsPassed.{passed_so}
use Rattle.fancy_host.proofs.tree.CompiledTree.find.Goals as goal

pub returns-then-not-fits-clause-answers : goal.returns-then-not-fits-clause-answers
returns-then-not-fits-clause-answers c =
    unfit_answers c.args.text.now c.args.options.now (passed_in c.args.options.now c.args.scratch.now) c.unfit.result c.args.spans.now c.args.self.now _ c.running-running.ensures
    (sym c.fits.ensures ∙ c.if-not-fits.true) c.unfit.ensures

pub returns-clause-answers : goal.returns-clause-answers
returns-clause-answers c =
    let s = c.args.self.now in
    let text = c.args.text.now in
    let o = c.args.options.now in
    let old = c.args.spans.now in
    let answer = c.search-answer.result in
    let scratch = c.search-answer.new.scratch in
    let limits_are = c.search-answer.ensures.limits ∙ (c.limit.ensures.limits ∙ c.limits.ensures) in
    let passed = passed_in o scratch in
    let is = passed_so o scratch limits_are in
    subst (λ new. Answers s text o passed old new c.of_answer.result) (sym c.write_answer.ensures)
    (subst (λ x. Answers s text o passed old (written answer old) x)
    (sym (c.of_answer.ensures ∙ ap₂ (λ t p. outcome_of t p answer) c.as_bytes.ensures.value (c.passed.ensures ∙ is)))
    (answered (fits_by (compiled_of s) text o _ c.running-running.ensures (sym c.fits.ensures ∙ c.if-not-fits.false)) answer
    (promised_by (compiled_of s) text o _ c.running-running.ensures answer c.search-answer.ensures.promise c.search-answer.ensures.bounds)
    (subst (StaysWithin answer) is c.search-answer.ensures.stays)))

pub search-answer-requires-clause-suits : goal.search-answer-requires-clause-suits
search-answer-requires-clause-suits c = c.limit.ensures.suits _ c.requires
