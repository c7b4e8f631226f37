use Rattle.std.proofs.Common.{◌+◌, ◌-◌, drop, length, take, false, map, true, IfSome, Option, Result, sym, ap, subst, ◌∙◌, arith}
use Rattle.std.specs.Result.{IfOk}
use Rattle.std.proofs.lemmas.List.{take_all}
use Rattle.std.proofs.lemmas.Option.{IfSome_then}
use Rattle.std.proofs.lemmas.Result.{IfOk-weaker}
use Rattle.fancy_meaning.specs.Tree.{Alt, AtomicGroup, Concat, Group, LookAround, LookBehind, LookBehindNeg, NoLook, trees}
use Rattle.fancy_expr.specs.Views.{look_of, tree_of}
use Rattle.fancy_expr.proofs.MadeTrees.{tree-alt, tree-concat}
use Rattle.fancy_literals.specs.Befores.{IsBefore, IsBeforeEach, IsBeforeInOrder}
use Rattle.fancy_literals.specs.declared.before.Before.{Before}
use Rattle.fancy_literals.proofs.BeforeLaws.{admits_on, atomic_before, behind_before, each_more, first_before, group_before, last_before, next_before, none_of_each}
use Rattle.fancy_literals.proofs.ByteLaws.{with_next}
use Rattle.fancy_literals.proofs.OpenLaws.{item_next, no_item_left}
use Rattle.fancy_literals.proofs.before.+before.Goals as goal

-- what follows from what is found
found_on : {E : Type 0} {P Q : Before → Type 0} (r : Result (Option Before) E) → ((b : Before) → P b → Q b) → IfOk r (λ found. IfSome found P) →
    IfOk r (λ found. IfSome found Q)
found_on {P = P} {Q = Q} r k h = IfOk-weaker r (λ found. IfSome found P) (λ found. IfSome found Q) (λ found so. IfSome_then found so k) h

pub before_of-returns-then-at_end : goal.before_of-returns-then-at_end
before_of-returns-then-at_end t c =
    let unicode = c.args.unicode in
    found_on {P = λ b. IsBeforeInOrder unicode true b (trees (map tree_of c.deref.result.now))} {Q = λ b. IsBefore unicode c.args.at_end b (tree_of c.args.expr.now)}
    c.before_end.result
    (λ b h. subst (λ v. IsBefore unicode v b (tree_of c.args.expr.now)) (sym c.if-at_end.true)
    (subst (IsBefore unicode true b)
    (ap Concat (ap (λ l. trees (map tree_of l)) c.deref.ensures.value) ∙ sym (ap tree_of c.in-Concat.is ∙ tree-concat c.in-Concat.parts)) h))
    c.before_end.ensures

pub before_of-returns-else-at_end : goal.before_of-returns-else-at_end
before_of-returns-else-at_end t c =
    let unicode = c.args.unicode in
    found_on {P = λ b. IsBeforeInOrder unicode false b (trees (map tree_of c.deref-else-at_end.result.now))}
    {Q = λ b. IsBefore unicode c.args.at_end b (tree_of c.args.expr.now)} c.before_parts.result
    (λ b h. subst (λ v. IsBefore unicode v b (tree_of c.args.expr.now)) (sym c.if-at_end.false)
    (subst (IsBefore unicode false b)
    (ap Concat (ap (λ l. trees (map tree_of l)) c.deref-else-at_end.ensures.value) ∙ sym (ap tree_of c.in-Concat.is ∙ tree-concat c.in-Concat.parts)) h))
    c.before_parts.ensures

pub before_of-returns-in-Alt : goal.before_of-returns-in-Alt
before_of-returns-in-Alt t c =
    let unicode = c.args.unicode in
    let at_end = c.args.at_end in
    found_on {P = λ b. IsBeforeEach unicode at_end b (trees (map tree_of c.deref-in-Alt.result.now))} {Q = λ b. IsBefore unicode at_end b (tree_of c.args.expr.now)}
    c.before_branches.result
    (λ b h. subst (IsBefore unicode at_end b)
    (ap Alt (ap (λ l. trees (map tree_of l)) c.deref-in-Alt.ensures.value) ∙ sym (ap tree_of c.in-Alt.is ∙ tree-alt c.in-Alt.branches)) h)
    c.before_branches.ensures

pub before_of-returns-in-Group : goal.before_of-returns-in-Group
before_of-returns-in-Group t c =
    let unicode = c.args.unicode in
    let at_end = c.args.at_end in
    let e = tree_of c.deref-in-Group.result.now in
    found_on {P = λ b. IsBefore unicode at_end b e} {Q = λ b. IsBefore unicode at_end b (tree_of c.args.expr.now)} c.before_of.result
    (λ b h. subst (IsBefore unicode at_end b) (ap (λ x. Group 0 (tree_of x)) c.deref-in-Group.ensures ∙ sym (ap tree_of c.in-Group.is))
    (group_before unicode at_end b 0 e h))
    c.before_of.ensures

pub before_of-returns-in-AtomicGroup : goal.before_of-returns-in-AtomicGroup
before_of-returns-in-AtomicGroup t c =
    let unicode = c.args.unicode in
    let at_end = c.args.at_end in
    let e = tree_of c.deref-in-AtomicGroup.result.now in
    found_on {P = λ b. IsBefore unicode at_end b e} {Q = λ b. IsBefore unicode at_end b (tree_of c.args.expr.now)} c.before_of-in-AtomicGroup.result
    (λ b h. subst (IsBefore unicode at_end b) (ap (λ x. AtomicGroup (tree_of x)) c.deref-in-AtomicGroup.ensures ∙ sym (ap tree_of c.in-AtomicGroup.is))
    (atomic_before unicode at_end b e h))
    c.before_of-in-AtomicGroup.ensures

pub before_of-returns-in-LookBehind : goal.before_of-returns-in-LookBehind
before_of-returns-in-LookBehind t c =
    let unicode = c.args.unicode in
    let at_end = c.args.at_end in
    let e = tree_of c.deref-in-LookBehind.result.now in
    found_on {P = λ b. IsBefore unicode true b e} {Q = λ b. IsBefore unicode at_end b (tree_of c.args.expr.now)} c.before_of-in-LookBehind.result
    (λ b h. subst (IsBefore unicode at_end b)
    (ap (λ x. LookAround LookBehind (tree_of x)) c.deref-in-LookBehind.ensures
    ∙ sym (ap tree_of c.in-LookAround.is ∙ ap (λ k. LookAround (look_of k) (tree_of c.in-LookAround.body.value)) c.in-LookBehind.is))
    (behind_before unicode at_end b e h))
    c.before_of-in-LookBehind.ensures

pub before_of-returns-in-LookBehindNeg : goal.before_of-returns-in-LookBehindNeg
before_of-returns-in-LookBehindNeg t c =
    let unicode = c.args.unicode in
    let at_end = c.args.at_end in
    let e = tree_of c.deref-in-LookBehindNeg.result.now in
    found_on {P = λ b. IsBefore unicode at_end b (LookAround LookBehindNeg e)} {Q = λ b. IsBefore unicode at_end b (tree_of c.args.expr.now)} c.before_not.result
    (λ b h. subst (IsBefore unicode at_end b)
    (ap (λ x. LookAround LookBehindNeg (tree_of x)) c.deref-in-LookBehindNeg.ensures
    ∙ sym (ap tree_of c.in-LookAround.is ∙ ap (λ k. LookAround (look_of k) (tree_of c.in-LookAround.body.value)) c.in-LookBehindNeg.is))
    h)
    (c.before_not.ensures at_end)

pub before_of-returns-in-Assertion : goal.before_of-returns-in-Assertion
before_of-returns-in-Assertion t c =
    let unicode = c.args.unicode in
    let at_end = c.args.at_end in
    subst (λ e. IfSome c.before_assertion.result (λ b. IsBefore unicode at_end b e)) (sym (ap tree_of c.in-Assertion.is)) (c.before_assertion.ensures unicode at_end NoLook)

pub before_of-returns-then-at_end-2 : goal.before_of-returns-then-at_end-2
before_of-returns-then-at_end-2 t c =
    let unicode = c.args.unicode in
    let e = tree_of c.args.expr.now in
    found_on {P = λ b. IsBefore unicode true b e} {Q = λ b. IsBefore unicode c.args.at_end b e} c.after_character.result
    (λ b h. subst (λ v. IsBefore unicode v b e) (sym c.if-at_end-2.true) h) c.after_character.ensures

pub before_end-returns-in-len1-up : goal.before_end-returns-in-len1-up
before_end-returns-in-len1-up t c =
    let unicode = c.args.unicode in
    let given = c.args.parts.now in
    let some = c.in-len1-up.len_at_least in
    let i = length given - 1 in
    let e = tree_of c.last-item.result in
    found_on {P = λ b. IsBefore unicode true b e} {Q = λ b. IsBeforeInOrder unicode true b (trees (map tree_of given))} c.before_of.result
    (λ b h. subst (λ l. IsBeforeInOrder unicode true b (trees (map tree_of l))) (take_all (i + 1) given (omega (arith, some)))
    (with_next (λ es. IsBeforeInOrder unicode true b (trees es)) given i c.last-item.result (omega (arith, some)) c.last-item.is
    (last_before unicode b (map tree_of (take i given)) e h)))
    c.before_of.ensures

pub before_parts-returns-in-Some : goal.before_parts-returns-in-Some
before_parts-returns-in-Some t c =
    let unicode = c.args.unicode in
    let given = c.args.parts.now in
    let i = c.loop-part.part-index in
    let b = c.in-Some.before in
    let e = tree_of c.part-item.result in
    c.loop-part.invariant b
    (subst (λ es. IsBeforeInOrder unicode false b (trees (map tree_of es))) (sym (item_next given i c.part-item.result (omega arith) c.part-item.is))
    (first_before unicode b e (trees (map tree_of (drop (i + 1) given)))
    (subst (λ o. IfSome o (λ v. IsBefore unicode false v e)) c.in-Some.is c.in_ok-before.ensures)))

pub before_parts-loop-part-preserved : goal.before_parts-loop-part-preserved
before_parts-loop-part-preserved t c = λ b rest.
    let unicode = c.args.unicode in
    let given = c.args.parts.now in
    let i = c.loop-part.part-index in
    let e = tree_of c.part-item.result in
    c.loop-part.invariant b
    (subst (λ es. IsBeforeInOrder unicode false b (trees (map tree_of es))) (sym (item_next given i c.part-item.result (omega arith) c.part-item.is))
    (next_before unicode b e (trees (map tree_of (drop (i + 1) given))) (c.stays_here.ensures c.if-not-stays_here.false) rest))

pub before_branches-loop-branch-preserved : goal.before_branches-loop-branch-preserved
before_branches-loop-branch-preserved t c = λ larger admits rest.
    let unicode = c.args.unicode in
    let at_end = c.args.at_end in
    let given = c.args.branches.now in
    let i = c.loop-branch.branch-index in
    let e = tree_of c.branch-item.result in
    let one = c.in-Some.before in
    c.loop-branch.invariant larger (admits_on c.loop-branch.all c.or-all.result larger c.or-all.ensures.first admits)
    (subst (λ es. IsBeforeEach unicode at_end larger (trees (map tree_of es))) (sym (item_next given i c.branch-item.result (omega arith) c.branch-item.is))
    (each_more unicode at_end larger one (admits_on one c.or-all.result larger c.or-all.ensures.second admits) e (trees (map tree_of (drop (i + 1) given)))
    (subst (λ o. IfSome o (λ v. IsBefore unicode at_end v e)) c.in-Some.is c.in_ok-before.ensures) rest))

pub before_branches-returns : goal.before_branches-returns
before_branches-returns t c =
    let unicode = c.args.unicode in
    let at_end = c.args.at_end in
    let all = c.loop-branch.all in
    c.loop-branch.invariant all (record { bytes = λ byte is. is; at_start = λ is. is })
    (subst (λ es. IsBeforeEach unicode at_end all (trees (map tree_of es)))
    (sym (no_item_left c.args.branches.now c.loop-branch.branch-index (omega arith))) (none_of_each unicode at_end all))
