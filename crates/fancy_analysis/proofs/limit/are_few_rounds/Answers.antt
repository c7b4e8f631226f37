use Rattle.std.proofs.Common.{◌≡◌, ◌≤◌, ◌<◌, ◌-◌, ◌↔◌, ℕ, suc, false, true, refl, map, IsTrue, MatchOption, arith, ap, ◌∙◌, sym, subst}
use Rattle.std.specs.List.{list_any}
use Rattle.fancy_meaning.specs.Nodes.{group_count, nodes}
use Rattle.fancy_meaning.specs.Numbering.{numbered}
use Rattle.fancy_meaning.specs.WellFormed.{is_call}
use Rattle.fancy_expr.specs.Views.{tree_of}
use Rattle.fancy_expr.proofs.Listed.{any-nodes}
use Rattle.fancy_info.specs.Sized.{size_of}
use Rattle.fancy_analysis.specs.AnalysisLimit.{analysis_rounds, whole_of}
use Rattle.fancy_analysis.specs.Endings.{ending_rounds}
use Rattle.fancy_analysis.specs.Rounds.{AreRounds, size_rounds}
use Rattle.std.proofs.lemmas.Result.{IfOk-weaker}
use Rattle.fancy_analysis.proofs.LimitRounds.{rounds_by}
use Rattle.fancy_analysis.proofs.limit.are_few_rounds.Goals as goal

pub returns-then-not-has_node : goal.returns-then-not-has_node
unfolding numbered
returns-then-not-has_node c =
    let e = c.args.tree.now.expr in
    let whole = whole_of e in
    let r : AreRounds whole c.args.most c.in-Some.rounds =
    subst (λ o. MatchOption o (c.args.most < size_rounds whole) (AreRounds whole c.args.most)) c.in-Some.is c.in_ok-rounds.ensures in
    let count : c.in-Some.rounds.count ≡ size_rounds whole = r.count in
    let none : list_any is_call (nodes (tree_of e)) ≡ false = sym (any-nodes is_call e) ∙ sym c.has_node.ensures ∙ c.if-not-has_node.true in
    (λ t. omega (arith, rounds_by e true false c.requires.named none, count, r.few), λ few. refl)

pub are_few_endings-requires-clause-known : goal.are_few_endings-requires-clause-known
unfolding numbered
are_few_endings-requires-clause-known c =
    let whole = whole_of c.args.tree.now.expr in
    let r : AreRounds whole c.args.most c.in-Some.rounds =
    subst (λ o. MatchOption o (c.args.most < size_rounds whole) (AreRounds whole c.args.most)) c.in-Some.is c.in_ok-rounds.ensures in
    ap (map size_of) c.deref.ensures.value ∙ r.known

pub returns-else-not-has_node : goal.returns-else-not-has_node
unfolding numbered
returns-else-not-has_node c =
    let e = c.args.tree.now.expr in
    let whole = whole_of e in
    let most = c.args.most in
    let count = c.in-Some.rounds.count in
    let r : AreRounds whole most c.in-Some.rounds =
    subst (λ o. MatchOption o (most < size_rounds whole) (AreRounds whole most)) c.in-Some.is c.in_ok-rounds.ensures in
    let calls : list_any is_call (nodes (tree_of e)) ≡ true = sym (any-nodes is_call e) ∙ sym c.has_node.ensures ∙ c.if-not-has_node.false in
    let endings : ℕ = ending_rounds whole (suc (group_count whole)) in
    let all = rounds_by e true true c.requires.named calls in
    IfOk-weaker c.are_few_endings.result (λ few. IsTrue few ↔ (endings ≤ most - count)) (λ few. IsTrue few ↔ (analysis_rounds e ≤ most))
    (λ few h. (λ t. let le = h.0 t in omega (arith, all, le, r.count, r.few), λ le. h.1 (omega (arith, all, le, r.count, r.few)))) c.are_few_endings.ensures

pub returns-in-None : goal.returns-in-None
unfolding numbered
returns-in-None c =
    let e = c.args.tree.now.expr in
    let whole = whole_of e in
    let over : c.args.most < size_rounds whole =
    subst (λ o. MatchOption o (c.args.most < size_rounds whole) (AreRounds whole c.args.most)) c.in-None.is c.in_ok-rounds.ensures in
    (λ t. absurd (cc), λ le. absurd (omega (arith, over, le, rounds_by e true _ c.requires.named refl)))
