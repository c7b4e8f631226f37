use Rattle.std.proofs.Common.{◌≡◌, ◌<◌, ◌==◌, ◌∷◌, [], length, sym, ap, ◌∙◌, subst, arith, eq-eqb, ne_eqb}
use Rattle.fancy_meaning.specs.Marks.{marked_groups}
use Rattle.fancy_meaning.specs.Sizes.{Size}
use Rattle.fancy_info.specs.Infos.{info_tree, info_facts}
use Rattle.fancy_compile.specs.GroupTables.{MarksAll, is_group, is_concat}
use Rattle.fancy_compile.proofs.Known.{part_known, part_smaller, size_known}
use Rattle.fancy_compile.proofs.GroupTable.{only_body, body_known, body_smaller, marks_then, marks_none, starts_of_group, starts_of_concat, no_starts, left_starts, left_more, left_last, left_done}
use Rattle.fancy_compile.proofs.group_table.+mark.Goals as goal

pub mark-requires : goal.mark-requires
mark-requires t c =
    let i = c.args.info.now in
    let b = c.child.result.now in
    let g = ap is_group (sym c.expr-expr.ensures) ∙ sym c.is_group.ensures ∙ c.if-is_group.true in
    (omega (arith, body_smaller i b g c.child.ensures c.requires.0 c.requires.1), (c.requires.0, body_known i b g c.child.ensures c.requires.0 c.requires.1))

pub returns-then-is_group : goal.returns-then-is_group
returns-then-is_group t c = λ a k.
    let i = c.args.info.now in
    let b = c.child.result.now in
    let g = ap is_group (sym c.expr-expr.ensures) ∙ sym c.is_group.ensures ∙ c.if-is_group.true in
    let gs = marked_groups a.tree (info_tree b) in
    let own = subst (λ n. MarksAll c.args.first (n ∷ []) c.args.marks.now c.mark_group.new.marks) c.start_group.ensures c.mark_group.ensures in
    subst (λ l. MarksAll c.args.first l c.args.marks.now c.mark.new.marks) (sym (starts_of_group a i b g (only_body i b g c.child.ensures a k)))
    (marks_then c.args.first ((info_facts i).start_group ∷ []) gs c.args.marks.now c.mark_group.new.marks c.mark.new.marks own
    (c.mark.ensures a (body_known i b g c.child.ensures a k)))

pub returns-then-not-is_concat : goal.returns-then-not-is_concat
returns-then-not-is_concat t c = λ a k.
    let i = c.args.info.now in
    let g = ap is_group (sym c.expr-expr.ensures) ∙ sym c.is_group.ensures ∙ c.if-is_group.false in
    let n = ap is_concat (sym c.expr-expr.ensures) ∙ sym c.is_concat.ensures ∙ c.if-not-is_concat.true in
    subst (λ l. MarksAll c.args.first l c.args.marks.now c.args.marks.now) (sym (no_starts a i g n)) (marks_none c.args.first c.args.marks.now)

pub mark-requires-in-loop-part : goal.mark-requires-in-loop-part
mark-requires-in-loop-part t c =
    let lt : c.loop-part.part-index < length c.children-children.result.now = omega arith in (
      omega (arith, part_smaller c.args.info.now _ c.children-children.ensures _ _ lt c.part-item.is),
      (c.requires.0, part_known c.args.info.now _ c.children-children.ensures _ _ lt c.part-item.is c.requires.0 c.requires.1),
    )

pub returns-then-max_size-ne0 : goal.returns-then-max_size-ne0
returns-then-max_size-ne0 t c = λ a k.
    let i = c.args.info.now in
    let children = c.children-children.result.now in
    let n = c.loop-part.part-index in
    let x = c.part-item.result in
    let lt : n < length children = omega arith in
    let known = part_known c.args.info.now children c.children-children.ensures n x lt c.part-item.is a k in
    let most = c.max_size.ensures ∙ ap (λ (z : Size). z.most) (size_known x a known) in
    let takes = ap (λ m. m == 0) (sym most) ∙ ne_eqb c.max_size.result 0 c.if-max_size-ne0.true in
    let concat = ap is_concat (sym c.expr-expr.ensures) ∙ sym c.is_concat.ensures ∙ c.if-not-is_concat.false in
    subst (λ l. MarksAll c.args.first l c.args.marks.now c.mark-in-loop-part.new.marks)
    (ap (left_starts a) c.children-children.ensures ∙ sym (starts_of_concat a i concat))
    (c.loop-part.invariant a c.mark-in-loop-part.new.marks k
    (subst (λ l. MarksAll c.args.first l c.loop-part.marks c.mark-in-loop-part.new.marks) (sym (left_last a children n x lt c.part-item.is takes))
    (c.mark-in-loop-part.ensures a known)))

pub loop-part-preserved : goal.loop-part-preserved
loop-part-preserved t c = λ a new k h.
    let children = c.children-children.result.now in
    let n = c.loop-part.part-index in
    let x = c.part-item.result in
    let lt : n < length children = omega arith in
    let known = part_known c.args.info.now children c.children-children.ensures n x lt c.part-item.is a k in
    let most = c.max_size.ensures ∙ ap (λ (z : Size). z.most) (size_known x a known) in
    let zero : c.max_size.result ≡ 0 = omega (arith, c.if-max_size-ne0.false) in
    let empty = ap (λ m. m == 0) (sym most) ∙ eq-eqb c.max_size.result 0 zero in
    c.loop-part.invariant a new k
    (subst (λ l. MarksAll c.args.first l c.loop-part.marks new) (sym (left_more a children n x lt c.part-item.is empty))
    (marks_then c.args.first _ _ c.loop-part.marks c.mark-in-loop-part.new.marks new (c.mark-in-loop-part.ensures a known) h))

pub returns : goal.returns
returns t c = λ a k.
    let i = c.args.info.now in
    let children = c.children-children.result.now in
    let concat = ap is_concat (sym c.expr-expr.ensures) ∙ sym c.is_concat.ensures ∙ c.if-not-is_concat.false in
    subst (λ l. MarksAll c.args.first l c.args.marks.now c.loop-part.marks) (ap (left_starts a) c.children-children.ensures ∙ sym (starts_of_concat a i concat))
    (c.loop-part.invariant a c.loop-part.marks k
    (subst (λ l. MarksAll c.args.first l c.loop-part.marks c.loop-part.marks) (sym (left_done a children c.loop-part.part-index (omega arith)))
    (marks_none c.args.first c.loop-part.marks)))
