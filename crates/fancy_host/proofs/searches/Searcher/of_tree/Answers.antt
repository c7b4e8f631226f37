use Rattle.std.proofs.Common.{◌≡◌, sym, subst}
use Rattle.std.proofs.lemmas.Result.{err_from_is_err_and}
use Rattle.std.specs.Option.{option_map}
use Rattle.fancy_host.specs.Hosted.{IsFailureFor, IsRead, Source, pattern_in, refused, unanalysed}
use Rattle.fancy_host.proofs.searches.Searcher.of_tree.Goals as goal

pub returns-in_err-check_analysis : goal.returns-in_err-check_analysis
returns-in_err-check_analysis c =
    let p = err_from_is_err_and c.from_residual.result c.from_residual.ensures.1 in
    rw (p.1, p.2) (λ (source : Source) (read : IsRead source c.args.options.now c.args.tree)
    (of_it : pattern_in source ≡ option_map (λ text. text.now) c.args.pattern).
    unanalysed c.args.tree read c.in_err-check_analysis.ensures)

pub returns-in-Err : goal.returns-in-Err
returns-in-Err c =
    λ (source : Source) (read : IsRead source c.args.options.now c.args.tree)
    (of_it : pattern_in source ≡ option_map (λ text. text.now) c.args.pattern).
    refused c.args.tree c.in-Err.error read c.in_ok-check_analysis.ensures c.in-Err.ensures
    (subst (λ p. IsFailureFor c.args.options.now p c.in-Err.error c.failure_of.result) (sym of_it) c.failure_of.ensures)

pub of_tree_within_limit-requires-clause-analysed_within : goal.of_tree_within_limit-requires-clause-analysed_within
of_tree_within_limit-requires-clause-analysed_within c = c.in_ok-check_analysis.ensures
