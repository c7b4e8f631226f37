use Rattle.std.proofs.Common.{MatchResult, subst}
use Rattle.std.proofs.lemmas.Result.{err_from_is_err_and}
use Rattle.fancy_host.specs.Hosted.{FailsToCompile, IsMadeFrom, pattern, spells_no_text, tree_in}
use Rattle.fancy_host.proofs.Answered.{compiles_so}
use Rattle.fancy_host.proofs.reading.compile_pattern.Goals as goal

pub returns-in_err-text : goal.returns-in_err-text
returns-in_err-text c =
    let p = err_from_is_err_and c.from_residual.result c.from_residual.ensures.1 in
    rw (p.1, p.2) (spells_no_text c.in_err-text.ensures)

pub returns : goal.returns
returns c =
    let o = c.args.options.now in
    let same = c.in_ok-text.ensures.0 in
    let result = c.of_pattern.result in
    compiles_so (pattern c.args.pattern.now) o c.in_ok-text.ensures.1 c.in_ok-text.ensures.2 tt (λ b. tree_in b.value) result
    (subst (λ t. MatchResult result (λ b. IsMadeFrom (pattern t) o (tree_in b.value)) (λ outcome. FailsToCompile o (pattern t) outcome)) same
    c.of_pattern.ensures)
