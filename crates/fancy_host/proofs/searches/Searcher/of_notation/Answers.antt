use Rattle.std.proofs.Common.{refl, sym, subst}
use Rattle.std.specs.Prelude.{None}
use Rattle.fancy_host.specs.Hosted.{FailsToCompile, notation, tree_in, unread}
use Rattle.fancy_host.proofs.Answered.{made_so}
use Rattle.fancy_host.proofs.searches.Searcher.of_notation.Goals as goal

pub returns-in-Err : goal.returns-in-Err
returns-in-Err c =
    subst (FailsToCompile c.args.options.now (notation c.args.text.now)) (sym c.of_error.ensures) (unread c.in-Err.error c.in-Err.ensures.answer)

pub returns-in-Ok : goal.returns-in-Ok
returns-in-Ok c =
    let result = c.of_tree.result in
    made_so (notation c.args.text.now) c.args.options.now c.in-Ok.tree c.in-Ok.ensures.answer None refl (λ b. tree_in b.value) result c.of_tree.ensures
