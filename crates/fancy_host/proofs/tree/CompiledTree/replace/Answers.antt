use Rattle.std.proofs.Common.{◌≡◌, false, true, [], sym, ap, ◌∙◌, subst}
use Rattle.fancy_meaning.specs.Fits.{run_fits}
use Rattle.fancy_program.specs.Programs.{prog_of}
use Rattle.fancy_search.specs.Searches.{program}
use Rattle.fancy_steps.specs.SearchLimits.{EndsBy}
use Rattle.fancy_replace.specs.Outputs.{Holds}
use Rattle.fancy_replace.specs.Pieces.{as_limit}
use Rattle.fancy_host.specs.Hosted.{compiled_of, failure_by, passed_in}
use Rattle.fancy_host.specs.Rewritten.{FailsToRewrite, IsRewritten, Replaces, does_not_fit, fails, replaced, writing}
use Rattle.fancy_host.proofs.LimitsPassed.{passed_so}
use Rattle.fancy_host.proofs.tree.CompiledTree.replace.Goals as goal

pub returns-then-not-fits-clause-replaces : goal.returns-then-not-fits-clause-replaces
returns-then-not-fits-clause-replaces c =
    let s = c.args.self.now in
    let text = c.args.text.now in
    let o = c.args.options.now in
    let old = c.args.room.now in
    let no = sym c.fits.ensures ∙ c.if-not-fits.true in
    subst (λ x. Replaces s text o (passed_in o c.args.scratch.now) c.args.limit (writing s c.args.is_literal c.args.replacement.now) old old x) (sym c.unfit.ensures)
    (does_not_fit
    (subst (λ r. run_fits (record { program = prog_of (program (compiled_of s)); text = []; options = r }) ≡ false) c.listing-listing.ensures no))

pub returns-in-Ok-clause-replaces : goal.returns-in-Ok-clause-replaces
returns-in-Ok-clause-replaces c =
    let s = c.args.self.now in
    let text = c.args.text.now in
    let o = c.args.options.now in
    let old = c.args.room.now in
    let write = writing s c.args.is_literal c.args.replacement.now in
    let is = c.in-Ok.ensures.rewrites in
    let yes = sym c.fits.ensures ∙ c.if-not-fits.false in
    let scratch = c.replaced.new.scratch in
    let limits_are = c.replaced.ensures.limits ∙ (c.limit.ensures.limits ∙ c.limits.ensures) in
    replaced
    (subst (λ r. run_fits (record { program = prog_of (program (compiled_of s)); text = []; options = r }) ≡ true) c.listing-listing.ensures yes) is.new
    (subst (λ r. IsRewritten (compiled_of s) text r (as_limit c.args.limit) write is.new) c.listing-listing.ensures is.is)
    (c.write_kept.ensures is.new (subst (λ n. Holds c.in-Ok.new n is.new) c.text_room.ensures is.holds))
    (sym (passed_so o scratch limits_are) ∙ c.in-Ok.ensures.stays)

pub returns-in-Err-clause-replaces : goal.returns-in-Err-clause-replaces
returns-in-Err-clause-replaces c =
    let s = c.args.self.now in
    let text = c.args.text.now in
    let o = c.args.options.now in
    let old = c.args.room.now in
    let write = writing s c.args.is_literal c.args.replacement.now in
    let yes = sym c.fits.ensures ∙ c.if-not-fits.false in
    let scratch = c.replaced.new.scratch in
    let limits_are = c.replaced.ensures.limits ∙ (c.limit.ensures.limits ∙ c.limits.ensures) in
    let is = passed_so o scratch limits_are in
    subst (λ x. Replaces s text o (passed_in o scratch) c.args.limit write old old x)
    (sym (c.of_failed.ensures ∙ ap (λ p. failure_by p c.in-Err.error) (c.passed.ensures ∙ is)))
    (fails
    (subst (λ r. run_fits (record { program = prog_of (program (compiled_of s)); text = []; options = r }) ≡ true) c.listing-listing.ensures yes)
    c.in-Err.error
    (subst (λ r. FailsToRewrite (compiled_of s) text r (as_limit c.args.limit) c.in-Err.error) c.listing-listing.ensures c.in-Err.ensures.rewrites)
    (subst (EndsBy c.in-Err.error) is c.in-Err.ensures.stays))

pub replaced-requires-clause-passed : goal.replaced-requires-clause-passed
replaced-requires-clause-passed c = c.limit.ensures.passed

pub replaced-requires-clause-suits : goal.replaced-requires-clause-suits
replaced-requires-clause-suits c = c.limit.ensures.suits _ c.requires
