use Rattle.std.proofs.Common.{◌≡◌, ◌≤◌, ◌<◌, ◌↔◌, suc, IsTrue, MatchOption, arith, sym, subst}
use Rattle.fancy_meaning.specs.Nodes.{group_count}
use Rattle.fancy_meaning.specs.Numbering.{numbered}
use Rattle.fancy_meaning.specs.Tree.{NoLook}
use Rattle.fancy_expr.specs.Exprs.{exprs}
use Rattle.fancy_expr.specs.Views.{tree_of}
use Rattle.fancy_expr.proofs.Numbered.{count-numbered}
use Rattle.fancy_analysis.specs.AnalysisLimit.{whole_of}
use Rattle.fancy_analysis.specs.Endings.{IsRootOf, ending_rounds, flag_count}
use Rattle.fancy_analysis.proofs.LimitRounds.{told, same_agree}
use Rattle.fancy_analysis.proofs.MadeNodes.{root_visited}
use Rattle.fancy_analysis.proofs.limit.are_few_endings.Goals as goal

pub returns : goal.returns
unfolding numbered
returns c =
    let e = c.args.expr.now in
    let whole = whole_of e in
    let info = c.in_ok-root.root in
    let is : IsRootOf whole info =
    root_visited _ e 1 info (omega arith) c.in_ok-root.ensures (same_agree _ _ (exprs e) c.requires.known) in
    let count : flag_count info ≡ suc (group_count whole) =
    omega (arith, c.in_ok-root.ensures.end_group, count-numbered NoLook 1 (tree_of e)) in
    let rounds = subst (λ n. MatchOption c.in_ok-ends_within.field-0 (c.args.most < ending_rounds whole n) (λ _. ending_rounds whole n ≤ c.args.most)) count
    (c.in_ok-ends_within.ensures.rounds whole is) in
    subst (λ b. IsTrue b ↔ (ending_rounds whole (suc (group_count whole)) ≤ c.args.most)) (sym c.is_some.ensures)
    (told c.in_ok-ends_within.field-0 (c.args.most < ending_rounds whole (suc (group_count whole)))
    (ending_rounds whole (suc (group_count whole)) ≤ c.args.most) rounds (λ over few. omega (arith, over, few)))
