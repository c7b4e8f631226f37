use Rattle.std.proofs.Common.{◌<◌, MatchOption, sym, ◌∙◌, subst, arith}
use Rattle.fancy_meaning.specs.Numbering.{numbered_within}
use Rattle.fancy_meaning.specs.Tree.{NoLook}
use Rattle.fancy_expr.specs.Views.{tree_of}
use Rattle.fancy_expr.proofs.Numbered.{count-numbered}
use Rattle.fancy_analysis.specs.Rounds.{AreRounds, size_rounds}
use Rattle.fancy_analysis.proofs.LimitRounds.{sizes_at_most, all_agree}
use Rattle.fancy_analysis.proofs.sizes.known_sizes.Goals as goal

pub returns-then-not-has_names : goal.returns-then-not-has_names
returns-then-not-has_names c = all_agree _ _ c.args.tree.now.expr (sym c.has_names.ensures ∙ c.if-not-has_names.true)

pub unreachable-requires : goal.unreachable-requires
unreachable-requires c =
    let t = tree_of c.args.tree.now.expr in
    let whole = numbered_within NoLook c.args.first t in
    let groups = c.args.tree.now.total_groups in
    let over : groups < size_rounds whole =
    subst (λ o. MatchOption o (groups < size_rounds whole) (AreRounds whole groups)) c.in-None.is c.in_ok-rounds.ensures in
    omega (arith, over, sizes_at_most whole, count-numbered NoLook c.args.first t, c.requires.groups)
