use Rattle.std.proofs.Common.{ap, ap₂, ◌∙◌}
use Rattle.fancy_search.specs.Requests as asked
use Rattle.fancy_matches.specs.Listing.{options_for}
use Rattle.fancy_host.proofs.options.FancyOptions.running.Goals as goal

pub returns : goal.returns
returns c =
    c.for_text.ensures
    ∙ ap₂ (λ run limit. options_for run limit c.args.text.now) (c.running-run.ensures ∙ ap asked.running c.request.ensures)
    c.backtracks-backtrack_limit.ensures
