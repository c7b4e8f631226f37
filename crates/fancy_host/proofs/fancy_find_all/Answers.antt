use Rattle.std.proofs.Common.{◌∙◌, Option, sym, ap, subst}
use Rattle.fancy_steps.specs.declared.search_limits.SearchLimit.{SearchLimit}
use Rattle.fancy_host.specs.Lists.{FindsAll, span_alone, unsearched}
use Rattle.fancy_host.specs.Hosted.{passed_of, tree_in, tree_of}
use Rattle.fancy_host.proofs.Listed.{all_found_by}
use Rattle.fancy_host.proofs.EasyOutcomes.{list_easy}
use Rattle.fancy_host.proofs.fancy_find_all.Goals as goal

pub returns-in-Err-clause-finds : goal.returns-in-Err-clause-finds
returns-in-Err-clause-finds c = unsearched c.in-Err.ensures

pub returns-clause-finds : goal.returns-clause-finds
returns-clause-finds c =
    let o = c.args.options.now in
    subst
    (λ (p : Option SearchLimit).
    FindsAll span_alone c.args.text.now o p c.args.cursor.now c.args.spans.now (tree_of c.args.program.now.handle.searcher)
    c.find_all-outcome.new.cursor c.find_all-outcome.new.spans c.find_all-outcome.result)
    (sym (ap (passed_of o) c.of.ensures))
    (all_found_by span_alone c.args.text.now o _ c.args.cursor.now c.args.spans.now c.find_all-outcome.result c.in-Ok.text.now
    c.find_all-outcome.new.spans c.find_all-outcome.new.cursor (tree_of c.args.program.now.handle.searcher) (tree_in c.into_searcher-searcher.result.value)
    (tree_in c.deref_mut.result.now) c.in-Ok.ensures.0 c.in-Ok.ensures.1
    (ap tree_of (sym c.take.ensures.held ∙ c.into_searcher-searcher.ensures)) (ap tree_in c.deref_mut.ensures.value) c.find_all-outcome.ensures.lists)

pub returns-in-Err-clause-easy : goal.returns-in-Err-clause-easy
returns-in-Err-clause-easy c = list_easy c.args.text.now c.args.options.now (returns-in-Err-clause-finds c)

pub returns-clause-easy : goal.returns-clause-easy
returns-clause-easy c = list_easy c.args.text.now c.args.options.now (returns-clause-finds c)
