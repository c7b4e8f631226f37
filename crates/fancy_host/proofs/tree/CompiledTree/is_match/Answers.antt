use Rattle.std.proofs.Common.{◌∙◌, sym, ap, subst}
use Rattle.fancy_steps.specs.SearchLimits.{StaysWithin}
use Rattle.fancy_host.specs.Hosted.{compiled_of, passed_in}
use Rattle.fancy_host.specs.Whether.{Tells, told, whether}
use Rattle.fancy_host.proofs.Answered.{fits_by, promised_by}
use Rattle.fancy_host.proofs.Told.{unfit_tells}
use Rattle.fancy_host.proofs.LimitsPassed.{passed_so}
use Rattle.fancy_host.proofs.tree.CompiledTree.is_match.Goals as goal

pub returns-then-not-fits-clause-tells : goal.returns-then-not-fits-clause-tells
returns-then-not-fits-clause-tells c =
    unfit_tells c.args.text.now c.args.options.now (passed_in c.args.options.now c.args.scratch.now) c.unfit.result c.args.self.now _ c.running-running.ensures
    (sym c.fits.ensures ∙ c.if-not-fits.true) c.unfit.ensures

pub returns-clause-tells : goal.returns-clause-tells
returns-clause-tells c =
    let s = c.args.self.now in
    let text = c.args.text.now in
    let o = c.args.options.now in
    let answer = c.search-found.result in
    let scratch = c.search-found.new.scratch in
    let limits_are = c.search-found.ensures.limits ∙ (c.limit.ensures.limits ∙ c.limits.ensures) in
    let is = passed_so o scratch limits_are in
    subst (Tells s text o (passed_in o scratch)) (sym (c.of_found.ensures ∙ ap (λ p. whether p answer) (c.passed.ensures ∙ is)))
    (told (fits_by (compiled_of s) text o _ c.running-running.ensures (sym c.fits.ensures ∙ c.if-not-fits.false)) answer
    (promised_by (compiled_of s) text o _ c.running-running.ensures answer c.search-found.ensures.promise c.search-found.ensures.bounds)
    (subst (StaysWithin answer) is c.search-found.ensures.stays))

pub search-found-requires-clause-suits : goal.search-found-requires-clause-suits
search-found-requires-clause-suits c = c.limit.ensures.suits _ c.requires
