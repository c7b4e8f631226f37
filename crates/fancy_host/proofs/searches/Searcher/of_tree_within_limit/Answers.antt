use Rattle.std.proofs.Common.{sym, ap, ◌∙◌, subst}
use Rattle.std.proofs.lemmas.Result.{err_from_is_err_and}
use Rattle.fancy_analysis.specs.Names.{names_of as in_entries}
use Rattle.fancy_search.specs.Requests as asked
use Rattle.fancy_search.specs.Searches.{IsCompiledFrom}
use Rattle.fancy_host.specs.Hosted.{asked_of, compiled_of, names_of, tree_in}
use Rattle.fancy_host.proofs.Answered.{compiled_by, refused_by, within_by}
use Rattle.fancy_host.proofs.searches.Searcher.of_tree_within_limit.Goals as goal

pub returns-in_err-compiled : goal.returns-in_err-compiled
returns-in_err-compiled c =
    let p = err_from_is_err_and c.from_residual.result c.from_residual.ensures.1 in
    rw (p.1, p.2)
    (refused_by c.args.tree c.args.options.now c.analysis.result c.compilation.result
    (c.analysis.ensures ∙ ap asked.analysis c.request-request.ensures) (c.compilation.ensures ∙ ap asked.compilation c.request-request.ensures) _
    c.in_err-compiled.ensures.made)

pub returns : goal.returns
returns c =
    let as_analysed = c.analysis.ensures ∙ ap asked.analysis c.request-request.ensures in
    let as_compiled = c.compilation.ensures ∙ ap asked.compilation c.request-request.ensures in
    let from = compiled_by c.args.tree c.args.options.now c.analysis.result c.compilation.result as_analysed as_compiled c.in_ok-compiled.compiled
    c.in_ok-compiled.ensures.made in
    let kept = ap tree_in c.in_ok-new-2.ensures.ok ∙ c.in_ok-new.ensures.ok in
    record {
      from = subst (λ x. IsCompiledFrom (asked_of c.args.tree c.args.options.now) x) (sym (ap compiled_of kept)) from;
      names = ap names_of kept ∙ ap (λ n. in_entries n.entries) c.into_named_groups.ensures;
      analysed_within = c.requires.analysed_within;
      within = within_by c.args.tree c.args.options.now c.analysis.result c.compilation.result as_analysed as_compiled c.in_ok-compiled.ensures.within;
    }
