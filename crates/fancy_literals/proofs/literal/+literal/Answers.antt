use Rattle.std.proofs.Common.{◌+◌, drop, false, map, string_bytes, true, sym, ap, subst, ◌∙◌, arith}
use Rattle.std.proofs.lemmas.Result.{IfOk-weaker}
use Rattle.fancy_meaning.specs.Tree.{AtomicGroup, Concat, Group, trees}
use Rattle.fancy_expr.specs.Views.{tree_of}
use Rattle.fancy_expr.proofs.MadeTrees.{tree-concat}
use Rattle.fancy_literals.specs.Leads.{AddsInOrder, AddsOf}
use Rattle.fancy_literals.proofs.LeadLaws.{atomic_adds, group_adds, last_adds, next_adds, none_adds}
use Rattle.fancy_literals.proofs.OpenLaws.{item_next, no_item_left}
use Rattle.fancy_literals.proofs.literal.+literal.Goals as goal

pub add_literal-returns-in-Concat : goal.add_literal-returns-in-Concat
add_literal-returns-in-Concat t c =
    let old = string_bytes c.args.literal.now in
    let new = string_bytes c.add_literal_of_parts.new.literal in
    IfOk-weaker c.add_literal_of_parts.result (λ whole. AddsInOrder old new whole (trees (map tree_of c.deref.result.now)))
    (λ whole. AddsOf old new whole (tree_of c.args.expr.now))
    (λ whole h. subst (AddsOf old new whole)
    (ap Concat (ap (λ l. trees (map tree_of l)) c.deref.ensures.value) ∙ sym (ap tree_of c.in-Concat.is ∙ tree-concat c.in-Concat.parts)) h)
    c.add_literal_of_parts.ensures

pub add_literal-returns-in-Group : goal.add_literal-returns-in-Group
add_literal-returns-in-Group t c =
    let old = string_bytes c.args.literal.now in
    let new = string_bytes c.add_literal.new.literal in
    let e = tree_of c.deref-in-Group.result.now in
    IfOk-weaker c.add_literal.result (λ whole. AddsOf old new whole e) (λ whole. AddsOf old new whole (tree_of c.args.expr.now))
    (λ whole h. subst (AddsOf old new whole) (ap (λ x. Group 0 (tree_of x)) c.deref-in-Group.ensures ∙ sym (ap tree_of c.in-Group.is))
    (group_adds old new whole e h 0))
    c.add_literal.ensures

pub add_literal-returns-in-AtomicGroup : goal.add_literal-returns-in-AtomicGroup
add_literal-returns-in-AtomicGroup t c =
    let old = string_bytes c.args.literal.now in
    let new = string_bytes c.add_literal-in-AtomicGroup.new.literal in
    let e = tree_of c.deref-in-AtomicGroup.result.now in
    IfOk-weaker c.add_literal-in-AtomicGroup.result (λ whole. AddsOf old new whole e) (λ whole. AddsOf old new whole (tree_of c.args.expr.now))
    (λ whole h. subst (AddsOf old new whole) (ap (λ x. AtomicGroup (tree_of x)) c.deref-in-AtomicGroup.ensures ∙ sym (ap tree_of c.in-AtomicGroup.is))
    (atomic_adds old new whole e h))
    c.add_literal-in-AtomicGroup.ensures

pub add_literal_of_parts-returns-then-not-branch : goal.add_literal_of_parts-returns-then-not-branch
add_literal_of_parts-returns-then-not-branch t c =
    let given = c.args.parts.now in
    let i = c.loop-part.part-index in
    let here = string_bytes c.loop-part.literal in
    let new = string_bytes c.add_literal.new.literal in
    let e = tree_of c.part-item.result in
    c.loop-part.invariant new false
    (subst (λ es. AddsInOrder here new false (trees (map tree_of es))) (sym (item_next given i c.part-item.result (omega arith) c.part-item.is))
    (last_adds here new c.in_ok-add_literal.field-0 e c.in_ok-add_literal.ensures (trees (map tree_of (drop (i + 1) given)))))

pub add_literal_of_parts-loop-part-preserved : goal.add_literal_of_parts-loop-part-preserved
add_literal_of_parts-loop-part-preserved t c = λ new whole rest.
    let given = c.args.parts.now in
    let i = c.loop-part.part-index in
    let here = string_bytes c.loop-part.literal in
    let mid = string_bytes c.add_literal.new.literal in
    let e = tree_of c.part-item.result in
    c.loop-part.invariant new whole
    (subst (λ es. AddsInOrder here new whole (trees (map tree_of es))) (sym (item_next given i c.part-item.result (omega arith) c.part-item.is))
    (next_adds here mid new whole e (trees (map tree_of (drop (i + 1) given)))
    (subst (λ b. AddsOf here mid b e) c.if-not-branch.false c.in_ok-add_literal.ensures) rest))

pub add_literal_of_parts-returns : goal.add_literal_of_parts-returns
add_literal_of_parts-returns t c =
    let here = string_bytes c.loop-part.literal in
    c.loop-part.invariant here true
    (subst (λ es. AddsInOrder here here true (trees (map tree_of es))) (sym (no_item_left c.args.parts.now c.loop-part.part-index (omega arith))) (none_adds here))
