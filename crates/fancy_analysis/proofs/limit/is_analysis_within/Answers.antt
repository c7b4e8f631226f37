use Rattle.std.proofs.Common.{◌≡◌, ◌≤◌, ◌<◌, ◌/◌, ◌↔◌, Bool, false, length, IsTrue, IsFalse, ⊎_elim, arith, ◌∙◌, sym, subst}
use Rattle.fancy_expr.specs.Exprs.{exprs}
use Rattle.fancy_analysis.specs.AnalysisLimit.{analysis_nodes, analysis_rounds}
use Rattle.std.proofs.lemmas.Bool.{both_ways, cases_lt}
use Rattle.std.proofs.lemmas.Result.{IfOk-weaker}
use Rattle.fancy_analysis.proofs.LimitRounds.{most_rounds, no_call, rounds_by, times_none, count_below, times_over, times_within}
use Rattle.fancy_analysis.proofs.limit.is_analysis_within.Goals as goal

pub returns-then-not-has_names : goal.returns-then-not-has_names
returns-then-not-has_names c =
    let e = c.args.tree.now.expr in
    record {
      within = λ t.
          let none = sym c.has_names.ensures ∙ c.if-not-has_names.true in
          times_none (length (exprs e)) (analysis_rounds e) c.args.limit (rounds_by e false false none (no_call e none));
      over = λ f. absurd (cc);
    }

pub returns-then-tree-most : goal.returns-then-tree-most
returns-then-tree-most c =
    let e = c.args.tree.now.expr in
    let some = count_below e in
    record {
      within = λ t. times_within c.args.limit (length (exprs e)) (analysis_rounds e) (omega arith)
          (omega (arith, most_rounds e, c.requires.0.groups, c.if-tree-most.true, c.rounds_within-most.ensures));
      over = λ f. absurd (cc);
    }

pub returns : goal.returns
returns c =
    let e = c.args.tree.now.expr in
    let some = count_below e in
    let n = length (exprs e) in
    let most : c.rounds_within-most.result ≡ c.args.limit / n = c.rounds_within-most.ensures in
    let Few : Bool → Type 0 = λ few. IsTrue few ↔ (analysis_rounds e ≤ c.rounds_within-most.result) in
    record {
      within = IfOk-weaker c.are_few_rounds.result Few (λ few. IsTrue few → analysis_nodes c.args.tree.now ≤ c.args.limit)
          (λ few h t. times_within c.args.limit n (analysis_rounds e) (omega arith) (subst (λ k. analysis_rounds e ≤ k) most (h.0 t)))
          c.are_few_rounds.ensures;
      over = IfOk-weaker c.are_few_rounds.result Few (λ few. IsFalse few → c.args.limit < analysis_nodes c.args.tree.now)
          (λ few h f. ⊎_elim
          (λ lt. times_over c.args.limit n (analysis_rounds e) (omega arith) (subst (λ k. k < analysis_rounds e) most lt))
          (λ le. absurd (both_ways few f (h.1 le)))
          (cases_lt c.rounds_within-most.result (analysis_rounds e)))
          c.are_few_rounds.ensures;
    }
