use Rattle.std.proofs.Common.{◌++◌, string_bytes, ap, ◌∙◌, append_assoc, arith}
use Rattle.fancy_meaning.specs.PatternText.{text_of}
use Rattle.fancy_expr.specs.Texts.{before, closing, count_text, opening, own_text}
use Rattle.fancy_expr.specs.Views.{tree_of}
use Rattle.fancy_expr.proofs.Exprs.{child_smaller}
use Rattle.fancy_expr.proofs.Texts.{all_parts, joined_up, on_ok, one_more, spelled_first, spelled_most}
use Rattle.fancy_expr.proofs.text.+push_node.Goals as goal

pub push_node-requires : goal.push_node-requires
push_node-requires t c =
    let e = c.args.expr.now in
    (omega (arith, child_smaller e c.part.result.now c.loop-i.i (omega (arith, spelled_most e)) c.part.ensures), tt)

pub loop-i-preserved : goal.loop-i-preserved
loop-i-preserved t c =
    let old = string_bytes c.push_own.new.text in
    let e = c.args.expr.now in
    let child = c.part.result.now in
    let firsts = spelled_first e c.loop-i.i in
    let between = before (tree_of e) c.loop-i.i in
    let here = text_of (tree_of child) c.inner_precedence.result in
    c.in_ok-push_node.ensures
    ∙ ap (λ s. s ++ here) (c.in_ok-push_separator.ensures ∙ ap (λ s. s ++ between) c.loop-i.invariant)
    ∙ append_assoc (old ++ firsts) between here
    ∙ append_assoc old firsts (between ++ here)
    ∙ ap (λ p. old ++ (firsts ++ (between ++ text_of (tree_of child) p))) c.inner_precedence.ensures
    ∙ ap (λ s. old ++ s) (one_more e child c.loop-i.i (omega arith) c.part.ensures)

pub returns : goal.returns
returns t c =
    let e = c.args.expr.now in
    let start = string_bytes c.args.text.now in
    let a = opening (tree_of e) c.args.precedence in
    let b = own_text (tree_of e) in
    let firsts = spelled_first e c.loop-i.i in
    let d = count_text (tree_of e) in
    let z = closing (tree_of e) c.args.precedence in
    on_ok c.push_closing.result (λ h.
    h
    ∙ ap (λ s. s ++ z) (c.in_ok-push_count.ensures
    ∙ ap (λ s. s ++ d) (c.loop-i.invariant
    ∙ ap (λ s. s ++ firsts) (c.in_ok-push_own.ensures ∙ ap (λ s. s ++ b) c.in_ok-push_opening.ensures)))
    ∙ joined_up start a b firsts d z
    ∙ ap (λ s. start ++ s) (all_parts e c.args.precedence c.loop-i.i (omega arith)))
    c.push_closing.ensures
