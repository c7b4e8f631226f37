use Rattle.std.proofs.Common.{◌≡◌, ◌∙◌, [], true, ap, option_map, refl, subst, sym}
use Rattle.fancy_meaning.specs.Fits.{run_fits}
use Rattle.fancy_search.specs.Scratches.{Suits}
use Rattle.fancy_search.specs.Searches.{HasSource, IsCompiledFrom, program}
use Rattle.fancy_matches.specs.Listing.{begun_at}
use Rattle.fancy_matches.specs.Matchers.{Shows, compiled_of}
use Rattle.fancy_steps.specs.Tasks.{options_of as run_options_of, task_of}
use Rattle.fancy_matches.proofs.Easy.{easy_search}
use Rattle.fancy_matches.proofs.Searching.{fits_begun}
use Rattle.fancy_matches.proofs.Stepping.{stays_limited}
use Rattle.fancy_matches.proofs.matcher.Matcher.found_from.Goals as goal

pub search-requires : goal.search-requires
search-requires g c k =
    let matcher = c.args.self.now in
    let fits = subst (λ k. run_fits (task_of (program k) [] matcher.options.run) ≡ true) (sym c.deref.ensures) matcher.fits in (
      (refl, tt),
      (
        fits_begun (program c.deref.result.now) matcher.options.run c.begun_at-options.result matcher.options.backtrack_limit c.args.text.now c.args.pos fits
            c.requires c.begun_at-options.ensures,
        (
          subst HasSource (sym c.deref.ensures) matcher.source,
          subst (λ k. Suits k c.limit.new.self) (sym c.deref.ensures)
              (c.limit.ensures.suits (compiled_of matcher) matcher.suits),
        ),
      ),
    )

pub returns-clause-promise : goal.returns-clause-promise
returns-clause-promise g c i o h =
    let text = c.args.text.now in
    subst (λ q. Shows i text (begun_at q c.args.pos) g.F.FromSearch.show (g.F.FromSearch.seen text) c.search.result) h.options
    (subst (λ q. Shows i text q g.F.FromSearch.show (g.F.FromSearch.seen text) c.search.result) c.begun_at-options.ensures
    (c.search.ensures.promise i (subst (IsCompiledFrom i) (sym c.deref.ensures) h.compiled)))

pub returns-clause-easy : goal.returns-clause-easy
returns-clause-easy g c =
    let text = c.args.text.now in
    easy_search c.args.self.now text (run_options_of c.begun_at-options.result) (ap (λ o. o.backtrack_limit) c.begun_at-options.ensures)
    (ap (λ o. o.step_limit) c.begun_at-options.ensures) (λ numbers found. option_map g.F.FromSearch.show found ≡ option_map (g.F.FromSearch.seen text) numbers)
    c.search.result (λ i of. c.search.ensures.promise i (subst (IsCompiledFrom i) (sym c.deref.ensures) of))

pub returns-clause-stays : goal.returns-clause-stays
returns-clause-stays g c =
    stays_limited c.search.result c.search.new.scratch c.args.self.now.options.limits (c.search.ensures.limits ∙ c.limit.ensures.limits) c.search.ensures.stays
