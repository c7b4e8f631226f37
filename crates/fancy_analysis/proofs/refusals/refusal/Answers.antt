use Rattle.std.proofs.Common.{◌≡◌, ◌&&◌, false, true, sym, ap, ◌∙◌, subst}
use Rattle.fancy_meaning.specs.AnalysisRefusals.{AnalysisRefuses, before_end, named_groups_with_numbers}
use Rattle.fancy_info.specs.Infos.{analysis_options_of}
use Rattle.fancy_expr.specs.Questions.{is_refused}
use Rattle.std.specs.List.{list_any}
use Rattle.fancy_meaning.specs.Nodes.{nodes}
use Rattle.fancy_analysis.specs.Refusals.{first_of, last_of}
use Rattle.fancy_expr.specs.Views.{parsed_of, tree_of}
use Rattle.fancy_expr.proofs.Listed.{any-nodes}
use Rattle.fancy_expr.proofs.SoundNodes.{node_there}
use Rattle.fancy_analysis.proofs.RefusalNodes.{refused_for_a_case, lazy_refused, names_there, named_flags, names_absent}
use Rattle.fancy_analysis.proofs.refusals.refusal.Goals as goal

pub returns-then-has_named_and_numbered : goal.returns-then-has_named_and_numbered
returns-then-has_named_and_numbered c =
    let t = c.args.tree.now in
    let both = t.numbered_groups_ignored && t.numeric_capture_group_references in
    before_end (named_groups_with_numbers (named_flags t.named_groups.entries both (sym c.if-has_named_and_numbered.ensures))
    (λ none. names_there _ t.named_groups.entries both (sym c.if-has_named_and_numbered.ensures) none))

pub returns-then-has_lazy : goal.returns-then-has_lazy
returns-then-has_lazy c =
    lazy_refused (parsed_of c.args.tree.now) (analysis_options_of c.args.context) (sym c.has_lazy.ensures ∙ c.if-has_lazy.true)

pub returns-in-Some : goal.returns-in-Some
returns-in-Some c =
    let t = c.args.tree.now in
    let p = parsed_of t in
    let o = analysis_options_of c.args.context in
    let x = tree_of c.in-Some.expr.now in
    let test : is_refused (first_of c.args.context) (last_of t c.args.context) x ≡ true =
    ap (λ n. is_refused n (last_of t c.args.context) x) (sym c.first_group-first.ensures)
    ∙ ap (λ n. is_refused c.first_group-first.result n x) (sym c.last_group-last.ensures) ∙ c.in-Some.ensures.0 in
    subst (AnalysisRefuses p o) (sym c.node_refusal.ensures)
    (refused_for_a_case p o c.requires.0.groups x (node_there t.expr c.in-Some.expr.now c.in-Some.ensures.1) test)

pub returns-in-None : goal.returns-in-None
returns-in-None c =
    let t = c.args.tree.now in
    let p = parsed_of t in
    let o = analysis_options_of c.args.context in
    let both = t.numbered_groups_ignored && t.numeric_capture_group_references in
    let none : list_any (is_refused (first_of c.args.context) (last_of t c.args.context)) (nodes (tree_of t.expr)) ≡ false =
    ap (λ n. list_any (is_refused n (last_of t c.args.context)) (nodes (tree_of t.expr))) (sym c.first_group-first.ensures)
    ∙ ap (λ n. list_any (is_refused c.first_group-first.result n) (nodes (tree_of t.expr))) (sym c.last_group-last.ensures)
    ∙ sym (any-nodes (is_refused c.first_group-first.result c.last_group-last.result) t.expr)
    ∙ c.in-None.ensures in
    record { lazy = sym c.has_lazy.ensures ∙ c.if-has_lazy.false; nodes = none; names = λ h some. names_absent _ t.named_groups.entries both (sym c.if-has_named_and_numbered.ensures) h some }
