use Rattle.std.proofs.Common.{IfOk, true, map, sym, ap, ◌∙◌, subst, refl, arith}
use Rattle.fancy_info.specs.Infos.{info_tree, info_children}
use Rattle.fancy_meaning.specs.Batches.{all_joined, literal_chars}
use Rattle.fancy_code.specs.Batches.{Collects}
use Rattle.fancy_info.proofs.Children.{tree_by}
use Rattle.fancy_code.proofs.Collected.{each_literal_of, chars_of, more_chars, other_found}
use Rattle.fancy_code.proofs.batches.+collect.Goals as goal

pub collect_chars-returns-in-Concat : goal.collect_chars-returns-in-Concat
collect_chars-returns-in-Concat t c =
    let info = c.args.info.now in
    let tree = tree_by info _ _ (sym c.expr.ensures ∙ c.in-Concat.is) refl in
    let same = ap chars_of c.children.ensures ∙ sym (ap all_joined (each_literal_of (map info_tree (info_children info)))) ∙ ap literal_chars (sym tree) in
    subst (λ o. IfOk c.collect_each.result (Collects o c.args.chars.now.items c.collect_each.new.chars.items)) same c.collect_each.ensures

pub collect_each-returns-then-branch : goal.collect_each-returns-then-branch
collect_each-returns-then-branch t c =
    let x = c.info-item.result in
    let s = c.loop-info.chars.items in
    let u = c.collect_chars.new.chars.items in
    c.loop-info.invariant u true
    (other_found c.args.infos.now c.loop-info.info-index x (omega arith) c.info-item.is s u
    (subst (Collects (literal_chars (info_tree x)) s u) c.if-branch.true c.in_ok-collect_chars.ensures))

pub collect_each-loop-info-preserved : goal.collect_each-loop-info-preserved
collect_each-loop-info-preserved t c = λ u is_other rest.
    let x = c.info-item.result in
    let s = c.loop-info.chars.items in
    let v = c.collect_chars.new.chars.items in
    c.loop-info.invariant u is_other
    (more_chars c.args.infos.now c.loop-info.info-index x (omega arith) c.info-item.is s v
    (subst (Collects (literal_chars (info_tree x)) s v) c.if-branch.false c.in_ok-collect_chars.ensures) u is_other rest)
