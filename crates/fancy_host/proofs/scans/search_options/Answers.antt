use Rattle.std.proofs.Common.{ap, ◌∙◌}
use Rattle.fancy_matches.specs.Listing.{begun_at}
use Rattle.fancy_search.specs.Requests as requests
use Rattle.fancy_host.proofs.PatternsHeld.{asked_fits}
use Rattle.fancy_host.proofs.scans.search_options.Goals as goal

pub returns-clause-fits : goal.returns-clause-fits
returns-clause-fits c =
    let of_request = c.request-request.ensures in
    asked_fits c.args.options.now _ (c.analysis.ensures ∙ ap requests.analysis of_request) (c.compilation.ensures ∙ ap requests.compilation of_request)
    (ap (λ o. begun_at o 0) (c.running.ensures ∙ ap requests.running of_request))
