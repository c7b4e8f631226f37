use Rattle.std.proofs.Common.{refl, sym, subst}
use Rattle.std.specs.Prelude.{Some, chars}
use Rattle.fancy_pattern.specs.Spelling.{IsError}
use Rattle.fancy_host.specs.Hosted.{FailsToCompile, pattern, tree_in, unspelled}
use Rattle.fancy_host.proofs.Answered.{made_so, read_so}
use Rattle.fancy_host.proofs.searches.Searcher.of_pattern.Goals as goal

pub returns-in-Err : goal.returns-in-Err
returns-in-Err c =
    subst (FailsToCompile c.args.options.now (pattern c.args.pattern.now)) (sym c.of_fault.ensures)
    (unspelled c.in-Err.error (subst (λ o. IsError o (chars c.args.pattern.now) c.in-Err.error) c.parsing.ensures c.in-Err.ensures.answer))

pub returns-in-Ok : goal.returns-in-Ok
returns-in-Ok c =
    let bytes = c.args.pattern.now in
    let o = c.args.options.now in
    let result = c.of_tree.result in
    made_so (pattern bytes) o c.in-Ok.tree (read_so bytes o c.in-Ok.tree bytes c.parsing.result refl c.parsing.ensures c.in-Ok.ensures.answer)
    (Some bytes) refl (λ b. tree_in b.value) result c.of_tree.ensures
