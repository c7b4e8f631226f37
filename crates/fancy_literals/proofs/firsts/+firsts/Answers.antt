use Rattle.std.proofs.Common.{◌≡◌, ◌+◌, Bool, drop, false, map, true, sym, ap, subst, ◌∙◌, arith}
use Rattle.std.proofs.lemmas.Bool.{false≢true}
use Rattle.std.proofs.lemmas.Result.{IfOk-weaker}
use Rattle.fancy_meaning.specs.Tree.{Alt, AtomicGroup, Concat, Group, LookAhead, Repeat, trees}
use Rattle.fancy_expr.specs.Views.{bound_of, look_of, tree_of}
use Rattle.fancy_expr.proofs.MadeTrees.{tree-alt, tree-concat}
use Rattle.fancy_literals.specs.Opens.{Opens, OpensBy, OpensEach, OpensEachBy, OpensInOrder, OpensInOrderBy}
use Rattle.fancy_literals.specs.declared.firsts.Opening.TheVariants as opening
use Rattle.fancy_literals.proofs.OpenLaws.{ahead_begins, alt_by, atomic_by, concat_by, each_by, each_more, first_decides, group_by, grows_on, item_next, look_stays, may_stay, next_decides, no_item_left, none_in_order, none_of_each, some_by}
use Rattle.fancy_literals.proofs.firsts.+firsts.Goals.{add_first_of_branches-in-Begins, add_first_of_branches-in-Stays}
use Rattle.fancy_literals.proofs.firsts.+firsts.Goals as goal

pub add_first-returns-in-Concat-clause-opens : goal.add_first-returns-in-Concat-clause-opens
add_first-returns-in-Concat-clause-opens t c =
    let unicode = c.args.unicode in
    let bytes = c.add_first_of_parts.new.bytes in
    let es = trees (map tree_of c.deref.result.now) in
    IfOk-weaker c.add_first_of_parts.result (λ o. OpensInOrderBy unicode o bytes es) (λ o. OpensBy unicode o bytes (tree_of c.args.expr.now))
    (λ o h. subst (OpensBy unicode o bytes)
    (ap Concat (ap (λ l. trees (map tree_of l)) c.deref.ensures.value) ∙ sym (ap tree_of c.in-Concat.is ∙ tree-concat c.in-Concat.parts))
    (concat_by unicode o bytes es h))
    c.add_first_of_parts.ensures.opens

pub add_first-returns-in-Alt-clause-opens : goal.add_first-returns-in-Alt-clause-opens
add_first-returns-in-Alt-clause-opens t c =
    let unicode = c.args.unicode in
    let bytes = c.add_first_of_branches.new.bytes in
    let es = trees (map tree_of c.deref-in-Alt.result.now) in
    IfOk-weaker c.add_first_of_branches.result (λ o. OpensEachBy unicode o bytes es) (λ o. OpensBy unicode o bytes (tree_of c.args.expr.now))
    (λ o h. subst (OpensBy unicode o bytes)
    (ap Alt (ap (λ l. trees (map tree_of l)) c.deref-in-Alt.ensures.value) ∙ sym (ap tree_of c.in-Alt.is ∙ tree-alt c.in-Alt.branches))
    (alt_by unicode o bytes es h))
    c.add_first_of_branches.ensures.opens

pub add_first-returns-in-Group-clause-opens : goal.add_first-returns-in-Group-clause-opens
add_first-returns-in-Group-clause-opens t c =
    let unicode = c.args.unicode in
    let bytes = c.add_first.new.bytes in
    let e = tree_of c.deref-in-Group.result.now in
    IfOk-weaker c.add_first.result (λ o. OpensBy unicode o bytes e) (λ o. OpensBy unicode o bytes (tree_of c.args.expr.now))
    (λ o h. subst (OpensBy unicode o bytes) (ap (λ x. Group 0 (tree_of x)) c.deref-in-Group.ensures ∙ sym (ap tree_of c.in-Group.is))
    (group_by unicode o bytes 0 e h))
    c.add_first.ensures.opens

pub add_first-returns-in-AtomicGroup-clause-opens : goal.add_first-returns-in-AtomicGroup-clause-opens
add_first-returns-in-AtomicGroup-clause-opens t c =
    let unicode = c.args.unicode in
    let bytes = c.add_first-in-AtomicGroup.new.bytes in
    let e = tree_of c.deref-in-AtomicGroup.result.now in
    IfOk-weaker c.add_first-in-AtomicGroup.result (λ o. OpensBy unicode o bytes e) (λ o. OpensBy unicode o bytes (tree_of c.args.expr.now))
    (λ o h. subst (OpensBy unicode o bytes) (ap (λ x. AtomicGroup (tree_of x)) c.deref-in-AtomicGroup.ensures ∙ sym (ap tree_of c.in-AtomicGroup.is))
    (atomic_by unicode o bytes e h))
    c.add_first-in-AtomicGroup.ensures.opens

pub add_first-returns-else-lo-eq0-clause-opens : goal.add_first-returns-else-lo-eq0-clause-opens
add_first-returns-else-lo-eq0-clause-opens t c =
    let unicode = c.args.unicode in
    let o = c.in_ok-opening-in-Repeat.opening in
    let bytes = c.add_first-in-Repeat.new.bytes in
    let e = tree_of c.deref-in-Repeat.result.now in
    let other = c.if-lo-eq0.false in
    subst (OpensBy unicode o bytes)
    (ap (λ x. Repeat c.in-Repeat.lo (bound_of c.in-Repeat.hi) c.in-Repeat.greedy (tree_of x)) c.deref-in-Repeat.ensures ∙ sym (ap tree_of c.in-Repeat.is))
    (some_by unicode o bytes c.in-Repeat.lo (bound_of c.in-Repeat.hi) c.in-Repeat.greedy e (omega (arith, other)) c.in_ok-opening-in-Repeat.ensures.opens)

pub add_first-returns-in_default-look : goal.add_first-returns-in_default-look
add_first-returns-in_default-look t c = record {
  grows = λ b is. is;
  opens =
      subst (Opens c.args.unicode true c.args.bytes.now) (sym (ap tree_of c.in-LookAround.is))
      (look_stays c.args.unicode c.args.bytes.now (look_of c.in-LookAround.look) (tree_of c.in-LookAround.body.value));
}

pub add_first_ahead-returns-in-Begins-clause-opens : goal.add_first_ahead-returns-in-Begins-clause-opens
add_first_ahead-returns-in-Begins-clause-opens t c =
    let bytes = c.add_first.new.bytes in
    let e = tree_of c.args.body.now in
    ahead_begins c.args.unicode bytes e (subst (λ o. OpensBy c.args.unicode o bytes e) c.in-Begins.is c.in_ok-add_first.ensures.opens)

pub add_first_ahead-returns-in_default : goal.add_first_ahead-returns-in_default
add_first_ahead-returns-in_default t c = record {
  grows = c.in_ok-add_first.ensures.grows;
  opens = look_stays c.args.unicode c.add_first.new.bytes LookAhead (tree_of c.args.body.now);
}

pub add_first_of_parts-loop-part-preserved : goal.add_first_of_parts-loop-part-preserved
add_first_of_parts-loop-part-preserved t c = (
  λ b is. c.add_first.ensures.grows b (c.loop-part.invariant.0 b is),
  λ o larger grows rest.
      let unicode = c.args.unicode in
      let given = c.args.parts.now in
      let i = c.loop-part.part-index in
      let bytes = c.add_first.new.bytes in
      let e = tree_of c.part-item.result in
      c.loop-part.invariant.1 o larger (grows_on c.loop-part.bytes bytes larger c.add_first.ensures.grows grows)
      (subst (λ es. OpensInOrderBy unicode o larger (trees (map tree_of es))) (sym (item_next given i c.part-item.result (omega arith) c.part-item.is))
      (next_decides unicode o bytes larger grows e (trees (map tree_of (drop (i + 1) given)))
      (subst (λ k. OpensBy unicode k bytes e) c.in-Stays.is c.in_ok-opening.ensures.opens) rest)),
)

pub add_first_of_parts-returns-in_default : goal.add_first_of_parts-returns-in_default
add_first_of_parts-returns-in_default t c =
    let unicode = c.args.unicode in
    let given = c.args.parts.now in
    let i = c.loop-part.part-index in
    let o = c.in_ok-opening.opening in
    let bytes = c.add_first.new.bytes in
    let e = tree_of c.part-item.result in
    record {
      grows = λ b is. c.add_first.ensures.grows b (c.loop-part.invariant.0 b is);
      opens =
          c.loop-part.invariant.1 o bytes c.add_first.ensures.grows
          (subst (λ es. OpensInOrderBy unicode o bytes (trees (map tree_of es))) (sym (item_next given i c.part-item.result (omega arith) c.part-item.is))
          (first_decides unicode o bytes e (trees (map tree_of (drop (i + 1) given))) c.in_default.not-Stays c.in_ok-opening.ensures.opens));
    }

pub add_first_of_parts-returns-clause-opens : goal.add_first_of_parts-returns-clause-opens
add_first_of_parts-returns-clause-opens t c =
    let unicode = c.args.unicode in
    let bytes = c.loop-part.bytes in
    c.loop-part.invariant.1 opening.Stays bytes (λ b is. is)
    (subst (λ es. OpensInOrder unicode true bytes (trees (map tree_of es))) (sym (no_item_left c.args.parts.now c.loop-part.part-index (omega arith)))
    (none_in_order unicode bytes))

pub add_first_of_branches-loop-branch-preserved : goal.add_first_of_branches-loop-branch-preserved
add_first_of_branches-loop-branch-preserved t c = (
  λ b is. c.add_first.ensures.grows b (c.loop-branch.invariant.0 b is),
  λ stays larger grows may rest.
      let unicode = c.args.unicode in
      let given = c.args.branches.now in
      let i = c.loop-branch.branch-index in
      let bytes = c.add_first.new.bytes in
      let e = tree_of c.branch-item.result in
      let on : (one : Bool) → (may_stay c.loop-branch.all ≡ true → stays ≡ true) → (one ≡ true → stays ≡ true) → Opens unicode one bytes e →
      OpensEach unicode stays larger (trees (map tree_of given)) =
      λ one before here h. c.loop-branch.invariant.1 stays larger (grows_on c.loop-branch.bytes bytes larger c.add_first.ensures.grows grows) before
      (subst (λ es. OpensEach unicode stays larger (trees (map tree_of es))) (sym (item_next given i c.branch-item.result (omega arith) c.branch-item.is))
      (each_more unicode one stays bytes larger grows here e (trees (map tree_of (drop (i + 1) given))) h rest)) in
      elim c.match-branch-2.branch [
        | add_first_of_branches-in-Begins w ↦
            on false (λ is. may (ap may_stay w.all-is ∙ is)) (λ never. absurd (false≢true never))
            (subst (λ k. OpensBy unicode k bytes e) w.in-Begins.is c.in_ok-add_first.ensures.opens)
        | add_first_of_branches-in-Stays w ↦
            let yes = may (ap may_stay w.all-is) in
            on true (λ is. yes) (λ is. yes) (subst (λ k. OpensBy unicode k bytes e) w.in-Stays.is c.in_ok-add_first.ensures.opens)
      ],
)

pub add_first_of_branches-returns-clause-opens : goal.add_first_of_branches-returns-clause-opens
add_first_of_branches-returns-clause-opens t c =
    let unicode = c.args.unicode in
    let all = c.loop-branch.all in
    let bytes = c.loop-branch.bytes in
    each_by unicode all bytes (trees (map tree_of c.args.branches.now))
    (c.loop-branch.invariant.1 (may_stay all) bytes (λ b is. is) (λ is. is)
    (subst (λ es. OpensEach unicode (may_stay all) bytes (trees (map tree_of es)))
    (sym (no_item_left c.args.branches.now c.loop-branch.branch-index (omega arith))) (none_of_each unicode (may_stay all) bytes)))
