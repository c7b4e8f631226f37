use Rattle.std.proofs.Common.{Box, Global, Some, ap, refl, subst, sym, ◌∙◌}
use Rattle.fancy_fragments.specs.Fragments.{IsMemoFor}
use Rattle.fancy_backtrack.specs.declared.memo.Memo.{Memo}
use Rattle.fancy_steps.specs.MemoRuns.{IsKeptAt}
use Rattle.fancy_steps.proofs.MemosLaws.{memos_left, take_adds}
use Rattle.fancy_steps.proofs.memos.Memos.note_for.Goals as goal
use Rattle.fancy_steps.proofs.memos.Memos.note_for.Goals.{then-run-self, else-run-self}

pub returns-in_err-grow-clause-memos : goal.returns-in_err-grow-clause-memos
returns-in_err-grow-clause-memos c = record {
  each = λ i note stands same. c.requires.memos.each i note (c.in_err-grow.ensures.same i note stands) same;
}

pub invariant_of-self-2 : goal.invariant_of-self-2
invariant_of-self-2 c = record {
  of_runs = λ i note stands.
      c.args.self.now.of_runs i note
      (c.in_ok-grow.ensures.same i note (take_adds _ c.args.pc i note (subst (λ l. IsKeptAt l i note) c.take_out.ensures.rest stands)));
}

pub returns-in_err-new-in-None-clause-memos : goal.returns-in_err-new-in-None-clause-memos
returns-in_err-new-in-None-clause-memos c =
    memos_left _ _ _ _ c.args.pc c.requires.memos c.in_ok-grow.ensures.same c.take_out.ensures.rest refl

pub returns-in_ok-new-in-None-clause-note : goal.returns-in_ok-new-in-None-clause-note
returns-in_ok-new-in-None-clause-note c =
    let text = c.args.task.now.text.now in
    subst (IsMemoFor text c.args.fragment.now) (sym c.in_ok-new-in-None.ensures.ok) (c.memo.ensures.memo text)

pub returns-in_ok-new-in-None-clause-memos : goal.returns-in_ok-new-in-None-clause-memos
returns-in_ok-new-in-None-clause-memos c =
    memos_left _ _ _ _ c.args.pc c.requires.memos c.in_ok-grow.ensures.same c.take_out.ensures.rest refl

pub returns-after-run-self-clause-note : goal.returns-after-run-self-clause-note
returns-after-run-self-clause-note c =
    let text = c.args.task.now.text.now in
    let f = c.args.fragment.now in
    let is_memo : Box Memo Global → Type 0 = λ m. IsMemoFor text f m.value in
    let pc = c.args.pc in
    let found = c.in-Some.field-0 in
    elim c.if-run-self.branch [
      | then-run-self w ↦ subst is_memo (sym w.memo-is) (w.clear.ensures.memo text)
      | else-run-self w ↦
          subst is_memo (sym w.memo-is)
          (c.requires.memos.each pc found (c.in_ok-grow.ensures.same pc found (c.take_out.ensures.found ∙ ap Some c.in-Some.is)) w.if-run-self.false f
          c.requires.here)
    ]

pub returns-after-run-self-clause-memos : goal.returns-after-run-self-clause-memos
returns-after-run-self-clause-memos c =
    memos_left _ _ _ _ c.args.pc c.requires.memos c.in_ok-grow.ensures.same c.take_out.ensures.rest refl
