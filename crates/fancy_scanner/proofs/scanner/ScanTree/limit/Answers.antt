use Rattle.std.proofs.Common.{sym, ap, ◌∙◌, subst}
use Rattle.fancy_search.specs.Searches.{IsCompiledFrom}
use Rattle.fancy_steps.specs.Tasks.{options_of as run_options_of}
use Rattle.fancy_matches.specs.Listing.{options_for}
use Rattle.fancy_matches.specs.declared.options.MatcherOptions.{MatcherOptions}
use Rattle.fancy_scanner.proofs.scanner.ScanTree.limit.Goals as goal

pub returns : goal.returns
returns c = λ r text h. record {
  matcher = record {
    compiled = subst (IsCompiledFrom r.input) (sym c.limit.ensures.compiled) (h.matcher).compiled;
    options =
        ap (λ (o : MatcherOptions). options_for (run_options_of o.run) o.backtrack_limit text) c.limit.ensures.options ∙ (h.matcher).options;
  };
  reuse = h.reuse;
  limits = ap (λ (o : MatcherOptions). o.limits) c.limit.ensures.options;
}
