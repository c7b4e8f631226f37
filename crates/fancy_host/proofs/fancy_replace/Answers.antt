use Rattle.std.proofs.Common.{◌∙◌, Option, sym, ap, subst}
use Rattle.fancy_steps.specs.declared.search_limits.SearchLimit.{SearchLimit}
use Rattle.fancy_host.specs.Hosted.{not_utf8, passed_of, tree_in, tree_of}
use Rattle.fancy_host.specs.Rewritten.{ReplacesIn, by_no_text, unsearched}
use Rattle.fancy_host.proofs.TextReplaced.{replaced_by}
use Rattle.fancy_host.proofs.EasyOutcomes.{replace_easy}
use Rattle.fancy_host.proofs.fancy_replace.Goals as goal

pub returns-in-Err-clause-replaces : goal.returns-in-Err-clause-replaces
returns-in-Err-clause-replaces c = unsearched c.in-Err.ensures

pub returns-in-Err-from_utf8-clause-replaces : goal.returns-in-Err-from_utf8-clause-replaces
returns-in-Err-from_utf8-clause-replaces c =
    let old = c.args.room.now in
    subst
    (ReplacesIn c.args.text.now c.args.options.now (passed_of c.args.options.now c.args.program.now.handle.searcher) c.args.limit c.args.is_literal c.args.replacement.now old (tree_of c.args.program.now.handle.searcher) old)
    (sym (c.not_utf8.ensures ∙ ap not_utf8 (c.valid_up_to.ensures ∙ c.in-Err-from_utf8.ensures.valid_len)))
    (by_no_text c.in-Ok.ensures.1 c.in-Err-from_utf8.ensures.cases.0)

pub returns-clause-replaces : goal.returns-clause-replaces
returns-clause-replaces c =
    let o = c.args.options.now in
    subst
    (λ (p : Option SearchLimit).
    ReplacesIn c.args.text.now o p c.args.limit c.args.is_literal c.args.replacement.now c.args.room.now (tree_of c.args.program.now.handle.searcher)
    c.replace-outcome.new.room c.replace-outcome.result)
    (sym (ap (passed_of o) c.of.ensures))
    (replaced_by c.args.text.now o _ c.args.limit c.args.is_literal c.args.replacement.now c.args.room.now c.replace-outcome.result
    c.in-Ok.text.now c.in-Ok-from_utf8.replacement.now c.replace-outcome.new.room (tree_of c.args.program.now.handle.searcher)
    (tree_in c.into_searcher-searcher.result.value) (tree_in c.deref_mut.result.now) c.in-Ok.ensures.0 c.in-Ok.ensures.1 c.in-Ok-from_utf8.ensures.cases.0
    c.in-Ok-from_utf8.ensures.cases.1 (ap tree_of (sym c.take.ensures.held ∙ c.into_searcher-searcher.ensures)) (ap tree_in c.deref_mut.ensures.value)
    c.replace-outcome.ensures.replaces)

pub returns-in-Err-clause-easy : goal.returns-in-Err-clause-easy
returns-in-Err-clause-easy c = replace_easy c.args.text.now c.args.options.now (returns-in-Err-clause-replaces c)

pub returns-in-Err-from_utf8-clause-easy : goal.returns-in-Err-from_utf8-clause-easy
returns-in-Err-from_utf8-clause-easy c = replace_easy c.args.text.now c.args.options.now (returns-in-Err-from_utf8-clause-replaces c)

pub returns-clause-easy : goal.returns-clause-easy
returns-clause-easy c = replace_easy c.args.text.now c.args.options.now (returns-clause-replaces c)
