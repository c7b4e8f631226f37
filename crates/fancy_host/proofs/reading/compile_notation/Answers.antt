use Rattle.std.proofs.Common.{◌<◌, ◌≤◌, MatchResult, None, sym, subst, arith}
use Rattle.std.proofs.lemmas.Result.{err_from_is_err_and}
use Rattle.fancy_notation.specs.Depth.{depth}
use Rattle.fancy_host.specs.Hosted.{Compiles, FailsToCompile, IsMadeFrom, nests_too_deep, notation, spells_no_text, tree_in}
use Rattle.fancy_host.proofs.Answered.{compiles_so}
use Rattle.fancy_host.proofs.reading.compile_notation.Goals as goal

pub returns-in_err-text : goal.returns-in_err-text
returns-in_err-text c =
    let p = err_from_is_err_and c.from_residual.result c.from_residual.ensures.1 in
    rw (p.1, p.2) (spells_no_text c.in_err-text.ensures)

pub returns-then-depth-options : goal.returns-then-depth-options
returns-then-depth-options c =
    let same = c.in_ok-text.ensures.0 in
    let deep : c.args.options.now.max_depth < depth c.args.tree.now =
    subst (λ t. c.args.options.now.max_depth < depth t) same (subst (λ n. c.args.options.now.max_depth < n) c.depth.ensures.value c.if-depth-options.true) in
    subst (Compiles (notation c.args.tree.now) c.args.options.now None) (sym c.coded.ensures)
    (nests_too_deep c.in_ok-text.ensures.1 c.in_ok-text.ensures.2 (λ flat. omega (arith, deep, flat)))

pub returns : goal.returns
returns c =
    let o = c.args.options.now in
    let same = c.in_ok-text.ensures.0 in
    let result = c.of_notation.result in
    compiles_so (notation c.args.tree.now) o c.in_ok-text.ensures.1 c.in_ok-text.ensures.2 (subst (λ t. depth t ≤ c.args.options.now.max_depth) same
    (subst (λ n. n ≤ c.args.options.now.max_depth) c.depth.ensures.value c.if-depth-options.false)) (λ b. tree_in b.value) result
    (subst (λ t. MatchResult result (λ b. IsMadeFrom (notation t) o (tree_in b.value)) (λ outcome. FailsToCompile o (notation t) outcome)) same
    c.of_notation.ensures)
