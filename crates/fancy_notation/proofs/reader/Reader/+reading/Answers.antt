use Rattle.std.proofs.Common.{◌≡◌, false, [], ◌∷◌, ◌++◌, sym, ap, ◌∙◌, subst, refl, arith}
use Rattle.std.proofs.lemmas.Bool.{and_parts}
use Rattle.std.proofs.lemmas.Result.{err_from_is_err_and}
use Rattle.fancy_expr.specs.declared.expr.Absent.TheViews as view
use Rattle.fancy_expr.specs.Views.{tree_of}
use Rattle.fancy_notation.specs.declared.forms.Form.TheVariants as form
use Rattle.fancy_notation.specs.Grammar.{closing, Spells, SpellsForm, around, repeat, conditional, absent_expression}
use Rattle.fancy_notation.specs.Misfit.{Node, Shut, Parts, Count, Bound}
use Rattle.fancy_notation.specs.NotationViews.{point_of}
use Rattle.fancy_notation.proofs.Failing.{fails_token, fails_first, after_token, after_node}
use Rattle.fancy_notation.proofs.Lengths.{node_shorter, taken_shorter}
use Rattle.fancy_notation.proofs.Loops.{parts_next, parts_splice, parts_done, parts_fail, no_close}
use Rattle.fancy_expr.proofs.OneChars.{concat_chars, alt_chars, no_parts, two_chars, three_chars}
use Rattle.fancy_notation.proofs.OneChars.{one_part, boxed}
use Rattle.fancy_notation.proofs.Ends.{leaf_reads, begins_by, form_reads, cat_spelled, alt_spelled, not_both}
use Rattle.fancy_notation.proofs.reader.Reader.+reading.Goals as goal

-- ---- absent expressions

pub read_absent_expression-read_last-requires : goal.read_absent_expression-read_last-requires
read_absent_expression-read_last-requires t c =
    let h = node_shorter c.args.self.now c.read_boxed.new.self c.in_ok-absent.ensures.0 in (omega (arith, h), tt)

pub read_absent_expression-returns-in_err-exp : goal.read_absent_expression-returns-in_err-exp
read_absent_expression-returns-in_err-exp t c =
    let p = err_from_is_err_and c.from_residual-in_err-exp.result c.from_residual-in_err-exp.ensures.1 in
    rw (p.1, p.2) (after_node (Node ∷ Shut ∷ []) c.args.self.now c.read_boxed.new.self _ c.in_ok-absent.ensures c.in_err-exp.ensures)

pub read_absent_expression-returns : goal.read_absent_expression-returns
read_absent_expression-returns t c = (
  absent_expression c.in_ok-absent.ensures.0 c.in_ok-exp.ensures.0.1 c.in_ok-exp.ensures.0.2,
  c.in_ok-exp.ensures.1 ∙ c.in_ok-absent.ensures.1,
  (tt, two_chars c.in_ok-absent.absent.value c.in_ok-exp.exp.value c.in_ok-absent.ensures.2 c.in_ok-exp.ensures.2),
)

-- ---- alternations

pub read_alt-read_parts-requires : goal.read_alt-read_parts-requires
read_alt-read_parts-requires t c = let h = node_shorter c.args.self.now c.read_node.new.self c.in_ok-first.ensures.0 in (omega (arith, h), tt)

pub read_alt-returns-in_err-branches : goal.read_alt-returns-in_err-branches
read_alt-returns-in_err-branches t c =
    let p = err_from_is_err_and c.from_residual-in_err-branches.result c.from_residual-in_err-branches.ensures.1 in
    rw (p.1, p.2) (after_node (Parts ∷ []) c.args.self.now c.read_node.new.self _ c.in_ok-first.ensures c.in_err-branches.ensures)

pub read_alt-returns : goal.read_alt-returns
read_alt-returns t c = (
  alt_spelled c.in_ok-first.first c.push.new.self.items c.in_ok-branches.branches (point_of c.args.self.now) (point_of c.read_node.new.self)
      (point_of c.read_parts.new.self)
      (c.in_ok-push.ensures.items ∙ ap (λ l. l ++ c.in_ok-first.first ∷ []) c.new_parts-branches.ensures)
      c.in_ok-first.ensures.0 c.in_ok-branches.ensures.0,
  c.in_ok-branches.ensures.1 ∙ c.in_ok-first.ensures.1,
  alt_chars c.in_ok-branches.branches (c.in_ok-branches.ensures.0.3 (one_part c.push.new.self.items c.in_ok-first.first
      (c.in_ok-push.ensures.items ∙ ap (λ l. l ++ c.in_ok-first.first ∷ []) c.new_parts-branches.ensures) c.in_ok-first.ensures.2)),
)

-- ---- boxes

pub read_boxed-returns : goal.read_boxed-returns
read_boxed-returns t c = (
  subst (λ e. Spells (point_of c.args.self.now) (point_of c.read_node.new.self) (tree_of e)) (sym c.in_ok-new.ensures.ok) c.in_ok-node.ensures.0,
  c.in_ok-node.ensures.1,
  boxed _ _ c.in_ok-new.ensures.ok c.in_ok-node.ensures.2,
)

pub read_last-returns-in_err-read_close : goal.read_last-returns-in_err-read_close
read_last-returns-in_err-read_close t c =
    let p = err_from_is_err_and c.from_residual-in_err-read_close.result c.from_residual-in_err-read_close.ensures.1 in
    rw (p.1, p.2) (after_node (Shut ∷ []) c.args.self.now c.read_boxed.new.self _ c.in_ok-node.ensures
    (fails_token closing Shut (λ u. []) (λ g t. refl) [] c.read_boxed.new.self _ c.in_err-read_close.ensures))

pub read_last-returns : goal.read_last-returns
read_last-returns t c = (
  (_, c.in_ok-node.ensures.0, c.in_ok-read_close.ensures.0),
  c.in_ok-read_close.ensures.1 ∙ c.in_ok-node.ensures.1,
  c.in_ok-node.ensures.2,
)

-- ---- conditionals

pub read_conditional-read_boxed-requires-2 : goal.read_conditional-read_boxed-requires-2
read_conditional-read_boxed-requires-2 t c =
    let h = node_shorter c.args.self.now c.read_boxed.new.self c.in_ok-condition.ensures.0 in (omega (arith, h), tt)

pub read_conditional-returns-in_err-true_branch : goal.read_conditional-returns-in_err-true_branch
read_conditional-returns-in_err-true_branch t c =
    let p = err_from_is_err_and c.from_residual-in_err-true_branch.result c.from_residual-in_err-true_branch.ensures.1 in
    rw (p.1, p.2) (after_node (Node ∷ Node ∷ Shut ∷ []) c.args.self.now c.read_boxed.new.self _ c.in_ok-condition.ensures
    (fails_first Node (Node ∷ Shut ∷ []) c.read_boxed.new.self _ c.in_err-true_branch.ensures))

pub read_conditional-read_last-requires : goal.read_conditional-read_last-requires
read_conditional-read_last-requires t c =
    let h = node_shorter c.args.self.now c.read_boxed.new.self c.in_ok-condition.ensures.0 in
    let k = node_shorter c.read_boxed.new.self c.read_boxed-2.new.self c.in_ok-true_branch.ensures.0 in
    (omega (arith, h, k), tt)

pub read_conditional-returns-in_err-false_branch : goal.read_conditional-returns-in_err-false_branch
read_conditional-returns-in_err-false_branch t c =
    let p = err_from_is_err_and c.from_residual-in_err-false_branch.result c.from_residual-in_err-false_branch.ensures.1 in
    rw (p.1, p.2) (after_node (Node ∷ Node ∷ Shut ∷ []) c.args.self.now c.read_boxed.new.self _ c.in_ok-condition.ensures
    (after_node (Node ∷ Shut ∷ []) c.read_boxed.new.self c.read_boxed-2.new.self _ c.in_ok-true_branch.ensures c.in_err-false_branch.ensures))

pub read_conditional-returns : goal.read_conditional-returns
read_conditional-returns t c = (
  conditional c.in_ok-condition.ensures.0 c.in_ok-true_branch.ensures.0 c.in_ok-false_branch.ensures.0.1 c.in_ok-false_branch.ensures.0.2,
  c.in_ok-false_branch.ensures.1 ∙ c.in_ok-true_branch.ensures.1 ∙ c.in_ok-condition.ensures.1,
  (
    tt,
    three_chars c.in_ok-condition.condition.value c.in_ok-true_branch.true_branch.value c.in_ok-false_branch.false_branch.value c.in_ok-condition.ensures.2
        c.in_ok-true_branch.ensures.2 c.in_ok-false_branch.ensures.2,
  ),
)

-- ---- what stands around one expression

pub read_enclosed-returns : goal.read_enclosed-returns
read_enclosed-returns t c = (
  subst (SpellsForm (form.Enclosing c.args.enclosing) (point_of c.args.self.now) (point_of c.read_last.new.self)) (sym c.enclosed.ensures.0)
      (around c.in_ok-body.ensures.0.1 c.in_ok-body.ensures.0.2),
  c.in_ok-body.ensures.1,
  c.enclosed.ensures.1 c.in_ok-body.ensures.2,
)

-- ---- forms and nodes

pub read_form-returns : goal.read_form-returns
read_form-returns t c =
    form_reads c.args.self.now c.read_head.new.self c.read_form_rest.new.self c.in_ok-form.form c.read_form_rest.result
    (begins_by c.args.self.now c.skip.new.self c.read_head.new.self c.in_ok-form.form c.requires c.skip.ensures c.in_ok-form.ensures)
    (c.in_ok-form.ensures.3 ∙ c.skip.ensures.end)
    c.read_form_rest.ensures

pub read_form_rest-returns-in_ok-parts-in-Cat : goal.read_form_rest-returns-in_ok-parts-in-Cat
read_form_rest-returns-in_ok-parts-in-Cat t c = (
  subst (λ f. SpellsForm f (point_of c.args.self.now) (point_of c.read_parts.new.self) (tree_of (view.Concat c.in_ok-parts-in-Cat.parts))) (sym c.in-Cat.is)
      (cat_spelled _ c.in_ok-parts-in-Cat.parts (point_of c.args.self.now) (point_of c.read_parts.new.self) c.new_parts.ensures c.in_ok-parts-in-Cat.ensures.0),
  c.in_ok-parts-in-Cat.ensures.1,
  concat_chars c.in_ok-parts-in-Cat.parts (c.in_ok-parts-in-Cat.ensures.0.3 (no_parts _ c.new_parts.ensures)),
)

pub read_node-returns : goal.read_node-returns
read_node-returns t c =
    leaf_reads c.args.self.now c.read_leaf.new.self c.read_leaf.result
    (sym c.is_at_text.ensures ∙ c.if-is_at_text.false) (no_close _ _ c.is_at_open.ensures c.if-is_at_open.false) c.read_leaf.ensures

-- ---- parts

pub read_parts-loop-self-preserved-in_ok-splice_text : goal.read_parts-loop-self-preserved-in_ok-splice_text
read_parts-loop-self-preserved-in_ok-splice_text t c =
    let s = c.in_ok-splice_text.ensures in
    parts_splice c.args.splices c.args.self.now c.loop-self.self c.splice_text.new.self c.args.given.items c.loop-self.parts.items
    c.splice_text.new.parts.items s.0
    (and_parts _ _ (sym c.is_spliced.ensures ∙ c.if-is_spliced.true)).0 c.loop-self.invariant s.1 s.2 s.3 s.4
    (taken_shorter c.loop-self.self c.splice_text.new.self s.1)

pub read_parts-returns-in_err-read_node : goal.read_parts-returns-in_err-read_node
read_parts-returns-in_err-read_node t c =
    let p = err_from_is_err_and c.from_residual-in_err-read_node.result c.from_residual-in_err-read_node.ensures.1 in
    let f : c.is_at_close.result ≡ false = cc in
    rw (p.1, p.2) (parts_fail c.args.splices c.args.self.now c.loop-self.self c.args.given.items c.loop-self.parts.items _ c.loop-self.invariant
    (no_close _ _ c.is_at_close.ensures f) c.in_err-read_node.ensures)

pub read_parts-loop-self-smaller : goal.read_parts-loop-self-smaller
read_parts-loop-self-smaller t c = let h = node_shorter c.loop-self.self c.read_node.new.self c.in_ok-read_node.ensures.0 in omega (arith, h)

pub read_parts-loop-self-preserved : goal.read_parts-loop-self-preserved
read_parts-loop-self-preserved t c =
    parts_next c.args.splices c.args.self.now c.loop-self.self c.read_node.new.self c.args.given.items c.loop-self.parts.items c.push.new.self.items
    c.in_ok-read_node.field-0 c.loop-self.invariant
    (not_both _ _ (sym c.is_spliced.ensures ∙ c.if-is_spliced.false)) c.in_ok-read_node.ensures c.in_ok-push.ensures.items
    (node_shorter c.loop-self.self c.read_node.new.self c.in_ok-read_node.ensures.0)

pub read_parts-returns : goal.read_parts-returns
read_parts-returns t c =
    parts_done c.args.splices c.args.self.now c.loop-self.self c.read_close.new.self c.args.given.items c.loop-self.parts.items c.loop-self.invariant
    c.in_ok-read_close.ensures

-- ---- loops

pub read_repeat-returns-in_err-child : goal.read_repeat-returns-in_err-child
read_repeat-returns-in_err-child t c =
    let p = err_from_is_err_and c.from_residual-in_err-child.result c.from_residual-in_err-child.ensures.1 in
    rw (p.1, p.2) (after_token Count (λ n. Bound n ∷ []) (λ g t. refl) (Node ∷ Shut ∷ []) c.args.self.now c.read_count.new.self _ c.in_ok-lo.ensures
    (after_token (Bound c.in_ok-lo.lo) (λ n. []) (λ g t. refl) (Node ∷ Shut ∷ []) c.read_count.new.self c.read_bound.new.self _ c.in_ok-hi.ensures
    c.in_err-child.ensures))

pub read_repeat-returns : goal.read_repeat-returns
read_repeat-returns t c = (
  repeat c.in_ok-lo.ensures.0 c.in_ok-hi.ensures.0 c.in_ok-child.ensures.0.1 c.in_ok-child.ensures.0.2,
  c.in_ok-child.ensures.1 ∙ c.in_ok-hi.ensures.1 ∙ c.in_ok-lo.ensures.1,
  (tt, c.in_ok-child.ensures.2),
)
