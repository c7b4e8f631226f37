use Rattle.std.proofs.Common.{◌∙◌, Option, sym, ap, subst}
use Rattle.fancy_steps.specs.declared.search_limits.SearchLimit.{SearchLimit}
use Rattle.fancy_host.specs.Hosted.{FindsFirst, passed_of, tree_in, tree_of, unsearched}
use Rattle.fancy_host.proofs.Answered.{found_by}
use Rattle.fancy_host.proofs.EasyOutcomes.{find_easy}
use Rattle.fancy_host.proofs.fancy_find.Goals as goal

pub returns-in-Err-clause-finds : goal.returns-in-Err-clause-finds
returns-in-Err-clause-finds c = unsearched c.in-Err.ensures

pub returns-clause-finds : goal.returns-clause-finds
returns-clause-finds c =
    let o = c.args.options.now in
    subst
    (λ (p : Option SearchLimit).
    FindsFirst c.args.text.now o p c.args.spans.now (tree_of c.args.program.now.handle.searcher) c.find-outcome.new.spans c.find-outcome.result)
    (sym (ap (passed_of o) c.of.ensures))
    (found_by c.args.text.now o _ c.find-outcome.result c.args.spans.now c.in-Ok.text.now c.find-outcome.new.spans
    (tree_of c.args.program.now.handle.searcher) (tree_in c.into_searcher-searcher.result.value) (tree_in c.deref_mut.result.now)
    c.in-Ok.ensures.0 c.in-Ok.ensures.1
    (ap tree_of (sym c.take.ensures.held ∙ c.into_searcher-searcher.ensures)) (ap tree_in c.deref_mut.ensures.value) c.find-outcome.ensures.finds)

pub returns-in-Err-clause-easy : goal.returns-in-Err-clause-easy
returns-in-Err-clause-easy c = find_easy c.args.text.now c.args.options.now (returns-in-Err-clause-finds c)

pub returns-clause-easy : goal.returns-clause-easy
returns-clause-easy c = find_easy c.args.text.now c.args.options.now (returns-clause-finds c)
