use Rattle.std.proofs.Common.{refl, sym, ap, ◌∙◌, subst, ◌+◌, ◌∷◌, Some, true}
use Rattle.fancy_nfa_laws.specs.NfaSearch as plain
use Rattle.fancy_nfa_laws.specs.NfaStates as states
use Rattle.fancy_nfa_laws.specs.NfaSearch.{Next, Search, TakesBack, TakesUp, pair_of}
use Rattle.fancy_backtrack.specs.Memos.{Simulates}
use Rattle.fancy_backtrack.specs.declared.memo.Memo.{Memo}
use Rattle.fancy_backtrack.proofs.MemoLaws.{here_by, one_visit, renumbered, tries_anew, tries_in_vain}
use Rattle.fancy_backtrack.proofs.memo.Memo.loop_split.Goals as goal

-- src/search.rt:289:13
pub returns-then-branch-clause-leads : goal.returns-then-branch-clause-leads
returns-then-branch-clause-leads c = λ continuation s second f h here e. (
  f,
  (
    tries_in_vain continuation s _ _ f e (Some (states.LoopSplit c.args.first second))
        (sym (c.in_ok-has_failed.ensures.ok s f.failed here h.failed) ∙ c.if-branch.true),
    renumbered continuation c.args.self.now f h c.has_failed.new.self c.has_failed.ensures.rest,
  ),
)

-- src/search.rt:281:5
pub returns-clause-leads : goal.returns-clause-leads
returns-clause-leads c = λ continuation s second f h here e.
    let same = c.has_failed.ensures.rest in
    let frames = plain.Other (plain.goes_to second s) ∷ plain.Fails s ∷ f.frames in
    let counted = record f { visits = f.visits + 1 } in
    subst (λ n. Simulates continuation s f.failed n c.choose.result c.choose.new.self)
    (sym (tries_anew continuation s _ _ f e (Some (states.LoopSplit c.args.first second))
    (sym (c.in_ok-has_failed.ensures.ok s f.failed here h.failed) ∙ c.if-branch.false)))
    (c.choose.ensures.leads continuation s counted frames
    (one_visit continuation c.has_failed.new.self f (renumbered continuation c.args.self.now f h c.has_failed.new.self same)
    c.count.new.self c.count.ensures)
    (here_by c.args.self.now c.count.new.self c.args.config s (ap (λ (m : Memo). m.trail) c.count.ensures ∙ ap (λ (m : Memo). m.trail) same) here)
    (true, (plain.goes_to c.args.first s, (plain.goes_to second s, (e, refl)))))
