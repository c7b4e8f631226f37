use Rattle.std.proofs.Common.{refl, sym, ap, ap₂, ◌∙◌, subst, ◌∷◌, [], Some}
use Rattle.fancy_nfa_laws.specs.NfaSearch as plain
use Rattle.fancy_nfa_laws.specs.NfaSearch.{Next, Search, TakesBack, TakesUp, pair_of}
use Rattle.fancy_backtrack.specs.Loops.{loop_of}
use Rattle.fancy_backtrack.specs.Memos.{IsHere, fails_before, Simulates}
use Rattle.fancy_nfa.specs.Searches.{continuation_of}
use Rattle.fancy_nfa.specs.declared.nfa_state.NfaState.TheVariants as nfa_state
use Rattle.fancy_backtrack.specs.declared.memo.Memo.{Memo}
use Rattle.fancy_backtrack.specs.declared.trail.NfaConfig.{NfaConfig}
use Rattle.std.proofs.lemmas.Result.{err_from_is_err_and}
use Rattle.fancy_backtrack.proofs.MemoLaws.{failed_by, counter_loop_fees, here_at, here_by, same_tries}
use Rattle.fancy_nfa.proofs.SearchLaws.{steps_by, tries_another}
use Rattle.fancy_nfa.proofs.search.Searcher.other_from.Goals as goal

-- src/search.rt:543:5
pub returns-in_ok-keep-in-LoopSplit-clause-leads : goal.returns-in_ok-keep-in-LoopSplit-clause-leads
returns-in_ok-keep-in-LoopSplit-clause-leads c = λ s first other is_memoized f rest h here e.
    let searcher = c.args.self.now in
    let by = steps_by searcher (nfa_state.LoopSplit c.in-LoopSplit.field-0 c.in-LoopSplit.second) c.args.config s here.at
    (c.requires ∙ ap Some c.in-LoopSplit.is) in
    let same = same_tries _ _ _ _ _ _ (sym e ∙ by) in
    let there = plain.goes_to c.in-LoopSplit.second s in (
      record f { frames = plain.Fails s ∷ rest },
      (
        there,
        (
          ap₂ (λ n o. TakesUp o (record f { frames = fails_before n s rest })) same.0 same.1,
          c.in_ok-keep-in-LoopSplit.ensures.ok (continuation_of searcher) (record f { frames = rest }) s (plain.Fails s ∷ rest) h here refl,
          subst (λ (x : NfaConfig). IsHere c.keep.new.self x there) (sym c.goes_to-in-LoopSplit.ensures)
              (here_at c.keep.new.self c.args.config s c.in-LoopSplit.second c.in-LoopSplit.second refl
              (here_by c.args.m.now c.keep.new.self c.args.config s (ap (λ (m : Memo). m.trail) c.keep.ensures.rest) here)),
        ),
      ),
    )

-- src/search.rt:543:5
pub returns-in_ok-keep-in-CounterLoop-clause-leads : goal.returns-in_ok-keep-in-CounterLoop-clause-leads
returns-in_ok-keep-in-CounterLoop-clause-leads c = λ s first other is_memoized f rest h here e.
    let searcher = c.args.self.now in
    let by = steps_by searcher (nfa_state.CounterLoop c.in-CounterLoop.bounds c.in-CounterLoop.after) c.args.config s here.at
    (c.requires ∙ ap Some c.in-CounterLoop.is) in
    let memoized = counter_loop_fees (loop_of c.in-CounterLoop.bounds) c.in-CounterLoop.after s first other s.counters is_memoized (sym by ∙ e) in
    subst (λ n. Simulates (continuation_of searcher) s f.failed (TakesUp other (record f { frames = fails_before n s rest }))
    c.other_counter.result c.other_counter.new.self) (sym memoized)
    (c.other_counter.ensures.leads (continuation_of searcher) s first other (record f { frames = plain.Fails s ∷ rest })
    (c.in_ok-keep-in-CounterLoop.ensures.ok (continuation_of searcher) (record f { frames = rest }) s (plain.Fails s ∷ rest) h here refl)
    (here_by c.args.m.now c.keep-in-CounterLoop.new.self c.args.config s (ap (λ (m : Memo). m.trail) c.keep-in-CounterLoop.ensures.rest) here)
    (sym by ∙ e ∙ ap (λ n. plain.Tries n first (other ∷ [])) memoized))

-- src/search.rt:543:5
pub returns-in_default-clause-leads : goal.returns-in_default-clause-leads
returns-in_default-clause-leads c = λ s first other is_memoized f rest h here e.
    let searcher = c.args.self.now in
    absurd (tries_another searcher.text.now searcher.unicode s first other is_memoized c.args.nfa_state.now
    c.in_default.not-Split c.in_default.not-BranchSplit c.in_default.not-LoopSplit c.in_default.not-CounterLoop
    (sym (steps_by searcher c.args.nfa_state.now c.args.config s here.at c.requires) ∙ e))

pub returns-in_err-keep-in-LoopSplit-clause-leads : goal.returns-in_err-keep-in-LoopSplit-clause-leads
returns-in_err-keep-in-LoopSplit-clause-leads c = λ s first other is_memoized f rest h here e.
    let p = err_from_is_err_and c.from_residual.result c.from_residual.ensures.1 in
    rw p.1
    (failed_by c.args.m.now c.keep.new.self f.failed (ap (λ (m : Memo). m.failed) c.keep.ensures.rest) h.failed)

pub returns-in_err-keep-in-CounterLoop-clause-leads : goal.returns-in_err-keep-in-CounterLoop-clause-leads
returns-in_err-keep-in-CounterLoop-clause-leads c = λ s first other is_memoized f rest h here e.
    let p = err_from_is_err_and c.from_residual-in_err-keep-in-CounterLoop.result c.from_residual-in_err-keep-in-CounterLoop.ensures.1 in
    rw p.1
    (failed_by c.args.m.now c.keep-in-CounterLoop.new.self f.failed (ap (λ (m : Memo). m.failed) c.keep-in-CounterLoop.ensures.rest) h.failed)

pub returns-in-Split-clause-leads : goal.returns-in-Split-clause-leads
returns-in-Split-clause-leads c = λ s first other is_memoized f rest h here e.
    let searcher = c.args.self.now in
    let by = steps_by searcher (nfa_state.Split c.in-Split.field-0 c.in-Split.second) c.args.config s here.at (c.requires ∙ ap Some c.in-Split.is) in
    let same = same_tries _ _ _ _ _ _ (sym e ∙ by) in
    let there = plain.goes_to c.in-Split.second s in (
      record f { frames = rest },
      (
        there,
        (
          ap₂ (λ n o. TakesUp o (record f { frames = fails_before n s rest })) same.0 same.1,
          h,
          subst (λ (x : NfaConfig). IsHere c.args.m.now x there) (sym c.goes_to.ensures)
              (here_at c.args.m.now c.args.config s c.in-Split.second c.in-Split.second refl here),
        ),
      ),
    )

pub returns-in-BranchSplit-clause-leads : goal.returns-in-BranchSplit-clause-leads
returns-in-BranchSplit-clause-leads c = λ s first other is_memoized f rest h here e.
    let searcher = c.args.self.now in
    let by = steps_by searcher (nfa_state.BranchSplit c.in-BranchSplit.field-0 c.in-BranchSplit.second) c.args.config s here.at
    (c.requires ∙ ap Some c.in-BranchSplit.is) in
    let same = same_tries _ _ _ _ _ _ (sym e ∙ by) in
    let there = plain.goes_to c.in-BranchSplit.second s in (
      record f { frames = rest },
      (
        there,
        (
          ap₂ (λ n o. TakesUp o (record f { frames = fails_before n s rest })) same.0 same.1,
          h,
          subst (λ (x : NfaConfig). IsHere c.args.m.now x there) (sym c.goes_to-in-BranchSplit.ensures)
              (here_at c.args.m.now c.args.config s c.in-BranchSplit.second c.in-BranchSplit.second refl here),
        ),
      ),
    )
