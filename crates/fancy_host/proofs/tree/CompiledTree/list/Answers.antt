use Rattle.std.proofs.Common.{◌≡◌, false, true, [], refl, sym, ◌∙◌, subst}
use Rattle.fancy_meaning.specs.Fits.{run_fits}
use Rattle.fancy_program.specs.Programs.{prog_of}
use Rattle.fancy_search.specs.Searches.{program}
use Rattle.fancy_search.specs.Scratches.{passed_of}
use Rattle.fancy_matches.specs.Matchers as matches
use Rattle.fancy_host.specs.Hosted.{compiled_of, passed_in}
use Rattle.fancy_host.specs.Lists.{Lists, Writes, does_not_fit, listed, listing, cursor_of, width_of}
use Rattle.fancy_host.proofs.LimitsPassed.{passed_so}
use Rattle.fancy_host.proofs.tree.CompiledTree.list.Goals as goal

pub returns-then-not-fits-clause-lists : goal.returns-then-not-fits-clause-lists
returns-then-not-fits-clause-lists g c =
    let form = g.F.Row.form in
    let s = c.args.self.now in
    let text = c.args.text.now in
    let o = c.args.options.now in
    let from = c.args.cursor.now in
    let old = c.args.room.now in
    let no = sym c.fits.ensures ∙ c.if-not-fits.true in
    subst (λ x. Lists form s text o (passed_in o c.args.scratch.now) from old from old x) (sym c.unfit.ensures)
    (does_not_fit
    (subst (λ r. run_fits (record { program = prog_of (program (compiled_of s)); text = []; options = r }) ≡ false) c.listing-listing.ensures no))

pub write_rows-outcome-requires : goal.write_rows-outcome-requires
write_rows-outcome-requires g c k = ((refl, tt), (sym c.fits.ensures ∙ c.if-not-fits.false, (c.requires.width, (c.limit.ensures.passed, c.limit.ensures.suits _ c.requires.suits))))

pub returns-clause-lists : goal.returns-clause-lists
returns-clause-lists g c =
    let form = g.F.Row.form in
    let s = c.args.self.now in
    let text = c.args.text.now in
    let o = c.args.options.now in
    let old = c.args.room.now in
    let new = c.write_rows-outcome.new.room in
    let outcome = c.write_rows-outcome.result in
    let to = matches.cursor_of c.write_rows-outcome.new.cursor in
    let width = c.args.width in
    let fits = sym c.fits.ensures ∙ c.if-not-fits.false in
    let scratch = c.write_rows-outcome.new.scratch in
    let passed = passed_of scratch in
    let limits_are = c.write_rows-outcome.ensures.limits ∙ (c.limit.ensures.limits ∙ c.limits.ensures) in
    listed
    (subst (λ r. run_fits (record { program = prog_of (program (compiled_of s)); text = []; options = r }) ≡ true) c.listing-listing.ensures fits)
    (subst (λ p. Writes form (width_of form s) (compiled_of s) text (listing o text) p (cursor_of c.args.cursor.now) old (cursor_of c.of.result) new outcome)
    (passed_so o scratch limits_are)
    (subst (λ w. Writes form w (compiled_of s) text (listing o text) passed (cursor_of c.args.cursor.now) old (cursor_of c.of.result) new outcome)
    c.requires.width
    (subst (λ t. Writes form width (compiled_of s) text (listing o text) passed (cursor_of c.args.cursor.now) old t new outcome) (sym c.of.ensures)
    (subst (λ from. Writes form width (compiled_of s) text (listing o text) passed from old to new outcome) c.cursor-list.ensures
    (subst (λ r. Writes form width (compiled_of s) text r passed (matches.cursor_of c.cursor-list.result) old to new outcome) c.listing-listing.ensures
    c.write_rows-outcome.ensures.writes)))))
