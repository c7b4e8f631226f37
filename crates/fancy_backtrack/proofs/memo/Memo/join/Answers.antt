use Rattle.std.proofs.Common.{refl, sym, ap, ◌∙◌, subst, ◌+◌, ◌∷◌, Some}
use Rattle.fancy_nfa_laws.specs.NfaSearch as plain
use Rattle.fancy_nfa_laws.specs.NfaStates as states
use Rattle.fancy_nfa_laws.specs.NfaSearch.{Next, Search, TakesBack, TakesUp, pair_of}
use Rattle.fancy_backtrack.specs.Memos.{IsHere}
use Rattle.fancy_backtrack.specs.declared.memo.Memo.{Memo}
use Rattle.fancy_backtrack.specs.declared.trail.NfaConfig.{NfaConfig}
use Rattle.fancy_backtrack.proofs.MemoLaws.{here_at, here_by, renumbered, tries_anew, tries_in_vain}
use Rattle.fancy_backtrack.proofs.memo.Memo.join.Goals as goal

-- src/search.rt:305:13
pub returns-then-branch-clause-leads : goal.returns-then-branch-clause-leads
returns-then-branch-clause-leads c = λ continuation s f h here e. (
  f,
  (
    tries_in_vain continuation s _ _ f e (Some states.Join)
        (sym (c.in_ok-has_failed.ensures.ok s f.failed here h.failed) ∙ c.if-branch.true),
    renumbered continuation c.args.self.now f h c.has_failed.new.self c.has_failed.ensures.rest,
  ),
)

-- src/search.rt:296:5
pub returns-clause-leads : goal.returns-clause-leads
returns-clause-leads c = λ continuation s f h here e.
    let same = c.has_failed.ensures.rest in
    let trail = ap (λ (m : Memo). m.trail) c.keep.ensures.rest ∙ ap (λ (m : Memo). m.trail) same in (
      record f { frames = plain.Fails s ∷ f.frames },
      (
        plain.forward s,
        (
          tries_anew continuation s _ _ f e (Some states.Join)
              (sym (c.in_ok-has_failed.ensures.ok s f.failed here h.failed) ∙ c.if-branch.false),
          c.in_ok-keep.ensures.ok continuation f s (plain.Fails s ∷ f.frames)
              (renumbered continuation c.args.self.now f h c.has_failed.new.self same)
              (here_by c.args.self.now c.has_failed.new.self c.args.config s (ap (λ (m : Memo). m.trail) same) here) refl,
          subst (λ (x : NfaConfig). IsHere c.keep.new.self x (plain.forward s)) (sym c.forward.ensures)
              (here_at c.keep.new.self c.args.config s (c.args.config.at + 1) (s.at + 1) (ap (λ n. n + 1) here.at)
              (here_by c.args.self.now c.keep.new.self c.args.config s trail here)),
        ),
      ),
    )
