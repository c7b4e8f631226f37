use Rattle.std.proofs.Common.{◌≡◌, [], ◌∷◌, map, None, sym, ap, ◌∙◌, subst}
use Rattle.fancy_characters.specs.Classes.{IsClassRefusal}
use Rattle.fancy_info.specs.Infos.{info_tree}
use Rattle.fancy_meaning.specs.Code.{one}
use Rattle.fancy_meaning.specs.Batches.{batch_code, delegate_code}
use Rattle.fancy_meaning.specs.Tree.{Delegate}
use Rattle.fancy_code.specs.Batches.{IsInsnOf}
use Rattle.fancy_code.proofs.BatchCodes.{fault_made, some_nodes, node_alone, other_node, class_alone, class_of_alone, any_alone, class_refused}
use Rattle.fancy_code.proofs.batches.other_insn.Goals as goal
use Rattle.fancy_code.proofs.batches.other_insn.Goals.{then-infos-eq1+in_default, else-infos-eq1}

pub returns-in_err-class-in-Delegate : goal.returns-in_err-class-in-Delegate
returns-in_err-class-in-Delegate c =
    let is = c.args.infos.now in
    let alone = node_alone c.args.unicode is c.index-infos-0.result c.if-infos-eq1.true c.index-infos-0.is _ (sym c.expr.ensures ∙ c.in-Delegate.is) in
    fault_made c.args.unicode is _ c.from_residual.result _ c.from_residual.ensures
    (class_refused c.args.unicode _ c.in-Delegate.casei is alone _
    (subst (λ l. IsClassRefusal c.args.unicode l c.in-Delegate.casei c.in_err-class-in-Delegate.field-0.0) c.deref.ensures
    c.in_err-class-in-Delegate.ensures.refused))

pub returns-in-Delegate : goal.returns-in-Delegate
returns-in-Delegate c =
    let is = c.args.infos.now in
    let casei = c.in-Delegate.casei in
    let alone = node_alone c.args.unicode is c.index-infos-0.result c.if-infos-eq1.true c.index-infos-0.is _ (sym c.expr.ensures ∙ c.in-Delegate.is)
    ∙ ap (λ l. Delegate l casei ∷ []) (sym c.deref.ensures) in record {
      value = class_alone c.args.unicode c.deref.result.now casei (map info_tree is) alone c.in_ok-class-in-Delegate.ensures.is_class _
          c.in_ok-class-in-Delegate.ensures.class;
      classes = class_of_alone c.args.unicode c.deref.result.now casei is alone c.in_ok-class-in-Delegate.ensures.is_class;
      refused = tt;
    }

pub returns-in-Any : goal.returns-in-Any
returns-in-Any c =
    let is = c.args.infos.now in
    let alone = node_alone c.args.unicode is c.index-infos-0.result c.if-infos-eq1.true c.index-infos-0.is _ (sym c.expr.ensures ∙ c.in-Any.is) in record {
      value = ap one c.any_insn.ensures ∙ sym (ap (batch_code c.args.unicode None) alone);
      classes = any_alone c.args.unicode c.in-Any.newline c.in-Any.crlf is alone;
      refused = tt;
    }

pub returns : goal.returns
returns c =
    let is = c.args.infos.now in
    let same : delegate_code c.args.unicode (map info_tree is) ≡ batch_code c.args.unicode None (map info_tree is) = elim c.if-infos-eq1.branch [
      | then-infos-eq1+in_default w ↦ other_node c.args.unicode is w.index-infos-0.result w.if-infos-eq1.true w.index-infos-0.is
          (λ inner casei e. w.in_default.not-Delegate inner casei (w.expr.ensures ∙ e))
          (λ newline crlf e. w.in_default.not-Any newline crlf (w.expr.ensures ∙ e))
      | else-infos-eq1 w ↦ some_nodes c.args.unicode is w.if-infos-eq1.false
    ] in
    subst (λ k. IsInsnOf c.args.unicode is k c.delegate_insn.result) same c.delegate_insn.ensures
