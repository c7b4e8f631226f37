use Rattle.std.proofs.Common.{refl, sym, ap, ◌∙◌, subst, ◌≤◌, ◌+◌, ◌∷◌, Some, None, false, length}
use Rattle.fancy_nfa_laws.specs.NfaSearch as plain
use Rattle.fancy_backtrack.specs.Paths.{HasCounters}
use Rattle.fancy_nfa.specs.Views.{state_of}
use Rattle.fancy_backtrack.specs.Memos.{IsHere}
use Rattle.fancy_nfa.specs.Searches.{continuation_of}
use Rattle.std.proofs.lemmas.Bool.{cond-true, cond-false}
use Rattle.fancy_meaning.specs.Assertions.{holds}
use Rattle.fancy_expr.specs.Views.{assertion_of}
use Rattle.fancy_nfa.specs.declared.nfa_state.NfaState.TheVariants as nfa_state
use Rattle.fancy_backtrack.specs.declared.trail.Trail.{Trail}
use Rattle.fancy_backtrack.specs.declared.trail.NfaConfig.{NfaConfig}
use Rattle.fancy_backtrack.specs.declared.memo.Memo.{Memo}
use Rattle.std.proofs.lemmas.Result.{err_from_is_err_and}
use Rattle.fancy_nfa.proofs.BackLaws.{comes_by}
use Rattle.fancy_nfa.proofs.SearchLaws.{at_step, at_state, steps_by, next_there}
use Rattle.fancy_backtrack.proofs.MemoLaws.{failed_by, here_at, here_by, one_visit}
use Rattle.fancy_nfa.proofs.search.Searcher.take_up_state.Goals as goal

-- src/search.rt:443:5
pub returns-in-Jump-clause-leads : goal.returns-in-Jump-clause-leads
returns-in-Jump-clause-leads c = λ s f h here.
    let searcher = c.args.self.now in
    let p = nfa_state.Jump c.in-Jump.to in
    let there = c.requires.at ∙ ap Some c.in-Jump.is in (
      1,
      (
        f,
        (
          plain.goes_to c.in-Jump.to s,
          (
            next_there searcher p c.args.config s here.at there f,
            h,
            subst (λ (x : NfaConfig). IsHere c.args.m.now x (plain.goes_to c.in-Jump.to s)) (sym c.goes_to.ensures)
                (here_at c.args.m.now c.args.config s c.in-Jump.to c.in-Jump.to refl here),
          ),
        ),
      ),
    )

-- src/search.rt:443:5
pub returns-in-BranchSplit-clause-leads : goal.returns-in-BranchSplit-clause-leads
returns-in-BranchSplit-clause-leads c = λ s f h here.
    let searcher = c.args.self.now in
    let p = nfa_state.BranchSplit c.in-BranchSplit.first c.in-BranchSplit.field-1 in
    let there = c.requires.at ∙ ap Some c.in-BranchSplit.is in
    let other = plain.goes_to c.in-BranchSplit.field-1 s in
    comes_by c.args.self.now s f c.choose.result c.choose.new.self (at_state searcher p c.args.config s f here.at there c.choose.result c.choose.new.self
    (c.choose.ensures.leads (continuation_of searcher) s f (plain.Other other ∷ f.frames) h here
    (false, (plain.goes_to c.in-BranchSplit.first s, (other, (steps_by searcher p c.args.config s here.at there, refl))))))

-- src/search.rt:443:5
pub returns-in-Close-clause-leads : goal.returns-in-Close-clause-leads
returns-in-Close-clause-leads c = λ s f h here.
    let searcher = c.args.self.now in
    let p = nfa_state.Close c.in-Close.group in
    comes_by c.args.self.now s f c.close.result c.close.new.self (at_state searcher p c.args.config s f here.at
    (c.requires.at ∙ ap Some c.in-Close.is) c.close.result c.close.new.self
    (c.close.ensures.leads (continuation_of searcher) s f h here))

-- src/search.rt:443:5
pub returns-in-Join-clause-leads : goal.returns-in-Join-clause-leads
returns-in-Join-clause-leads c = λ s f h here.
    let searcher = c.args.self.now in
    let there = c.requires.at ∙ ap Some c.in-Join.is in
    comes_by c.args.self.now s f c.join.result c.join.new.self (at_step searcher nfa_state.Join c.args.config s f here.at there c.join.result c.join.new.self
    (c.join.ensures.leads (continuation_of searcher) s f h here (steps_by searcher nfa_state.Join c.args.config s here.at there)))

pub returns-in-CounterLoop-clause-leads : goal.returns-in-CounterLoop-clause-leads
returns-in-CounterLoop-clause-leads c = λ s f h here.
    let searcher = c.args.self.now in
    let p = nfa_state.CounterLoop c.in-CounterLoop.bounds c.in-CounterLoop.after in
    let there = c.requires.at ∙ ap Some c.in-CounterLoop.is in
    comes_by searcher s f c.counter_loop.result c.counter_loop.new.self
    (at_step searcher p c.args.config s f here.at there c.counter_loop.result c.counter_loop.new.self
    (c.counter_loop.ensures.leads (continuation_of searcher) s f h here (steps_by searcher p c.args.config s here.at there)))

-- src/search.rt:443:5
pub returns-in-Split-clause-leads : goal.returns-in-Split-clause-leads
returns-in-Split-clause-leads c = λ s f h here.
    let searcher = c.args.self.now in
    let p = nfa_state.Split c.in-Split.first c.in-Split.field-1 in
    let there = c.requires.at ∙ ap Some c.in-Split.is in
    let other = plain.goes_to c.in-Split.field-1 s in
    comes_by c.args.self.now s f c.choose-in-Split.result c.choose-in-Split.new.self
    (at_state searcher p c.args.config s f here.at there c.choose-in-Split.result c.choose-in-Split.new.self
    (c.choose-in-Split.ensures.leads (continuation_of searcher) s (record f { visits = f.visits + 1 }) (plain.Other other ∷ f.frames)
    (one_visit (continuation_of searcher) c.args.m.now f h c.count.new.self c.count.ensures)
    (here_by c.args.m.now c.count.new.self c.args.config s (ap (λ (m : Memo). m.trail) c.count.ensures) here)
    (false, (plain.goes_to c.in-Split.first s, (other, (steps_by searcher p c.args.config s here.at there, refl))))))

-- src/search.rt:443:5
pub returns-in-Open-clause-leads : goal.returns-in-Open-clause-leads
returns-in-Open-clause-leads c = λ s f h here.
    let searcher = c.args.self.now in
    comes_by c.args.self.now s f c.open.result c.open.new.self (at_state searcher nfa_state.Open c.args.config s f here.at
    (c.requires.at ∙ ap Some c.in-Open.is) c.open.result c.open.new.self
    (c.open.ensures.leads (continuation_of searcher) s (record f { visits = f.visits + 1 })
    (one_visit (continuation_of searcher) c.args.m.now f h c.count-in-Open.new.self c.count-in-Open.ensures)
    (here_by c.args.m.now c.count-in-Open.new.self c.args.config s (ap (λ (m : Memo). m.trail) c.count-in-Open.ensures) here)))

-- src/search.rt:443:5
pub returns-in_ok-next-in-CounterBegin-clause-leads : goal.returns-in_ok-next-in-CounterBegin-clause-leads
returns-in_ok-next-in-CounterBegin-clause-leads c = λ s f h here.
    let searcher = c.args.self.now in
    let m = c.count-in-CounterBegin.new.self in
    let trail = ap (λ (m : Memo). m.trail) c.count-in-CounterBegin.ensures in
    let first : plain.LoopCounter = record { count = 0; since = None } in (
      1,
      (
        record f { visits = f.visits + 1 },
        (
          record (plain.forward s) { counters = first ∷ s.counters },
          (
            next_there searcher nfa_state.CounterBegin c.args.config s here.at (c.requires.at ∙ ap Some c.in-CounterBegin.is) f,
            c.in_ok-next-in-CounterBegin.ensures.search (continuation_of searcher) (record f { visits = f.visits + 1 })
                (one_visit (continuation_of searcher) c.args.m.now f h m c.count-in-CounterBegin.ensures),
            c.in_ok-next-in-CounterBegin.ensures.here s s.counters (here_by c.args.m.now m c.args.config s trail here)
                (subst (λ (l : Trail). c.args.config.counters ≤ length l.entries.items) (sym trail) here.counters_link)
                (subst (λ (l : Trail). HasCounters l.entries.items c.args.config.counters s.counters) (sym trail) here.counters),
          ),
        ),
      ),
    )

-- src/search.rt:443:5
pub returns-then-holds-clause-leads : goal.returns-then-holds-clause-leads
returns-then-holds-clause-leads c = λ s f h here.
    let searcher = c.args.self.now in
    let p = nfa_state.Holds c.in-Holds.assertion in
    let text = searcher.text.now in
    let yes_here = ap (λ i. holds text i searcher.unicode (assertion_of c.in-Holds.assertion)) (sym here.place) ∙ sym c.holds.ensures ∙ c.if-holds.true in
    let m = c.count-in-Holds.new.self in (
      1,
      (
        record f { visits = f.visits + 1 },
        (
          plain.forward s,
          (
            next_there searcher p c.args.config s here.at (c.requires.at ∙ ap Some c.in-Holds.is) f
                ∙ ap (λ l. plain.next_by l (Some (state_of p)) s f) (cond-true _ _ _ yes_here),
            one_visit (continuation_of searcher) c.args.m.now f h m c.count-in-Holds.ensures,
            subst (λ (x : NfaConfig). IsHere m x (plain.forward s)) (sym c.forward.ensures)
                (here_at m c.args.config s (c.args.config.at + 1) (s.at + 1) (ap (λ n. n + 1) here.at)
                (here_by c.args.m.now m c.args.config s (ap (λ (n : Memo). n.trail) c.count-in-Holds.ensures) here)),
          ),
        ),
      ),
    )

-- src/search.rt:443:5
pub returns-else-holds-clause-leads : goal.returns-else-holds-clause-leads
returns-else-holds-clause-leads c = λ s f h here.
    let searcher = c.args.self.now in
    let p = nfa_state.Holds c.in-Holds.assertion in
    let text = searcher.text.now in
    let not_here = ap (λ i. holds text i searcher.unicode (assertion_of c.in-Holds.assertion)) (sym here.place) ∙ sym c.holds.ensures ∙ c.if-holds.false in (
      1,
      (
        record f { visits = f.visits + 1 },
        (
          next_there searcher p c.args.config s here.at (c.requires.at ∙ ap Some c.in-Holds.is) f
              ∙ ap (λ l. plain.next_by l (Some (state_of p)) s f) (cond-false _ _ _ not_here),
          one_visit (continuation_of searcher) c.args.m.now f h c.count-in-Holds.new.self c.count-in-Holds.ensures,
        ),
      ),
    )

-- src/search.rt:443:5
pub returns-in-Match-clause-leads : goal.returns-in-Match-clause-leads
returns-in-Match-clause-leads c = λ s f h here.
    let searcher = c.args.self.now in (
      1,
      (
        record f { visits = f.visits + 1 },
        (
          s,
          ((
            next_there searcher nfa_state.Match c.args.config s here.at (c.requires.at ∙ ap Some c.in-Match.is) f,
            one_visit (continuation_of searcher) c.args.m.now f h c.count-in-Match.new.self c.count-in-Match.ensures,
            here_by c.args.m.now c.count-in-Match.new.self c.args.config s (ap (λ (m : Memo). m.trail) c.count-in-Match.ensures) here,
          )
              ),
        ),
      ),
    )

pub returns-in-Character-clause-leads : goal.returns-in-Character-clause-leads
returns-in-Character-clause-leads c = λ s f h here.
    comes_by c.args.self.now s f c.take.result c.take.new.m (at_state c.args.self.now (nfa_state.Character c.in-Character.test) c.args.config s f here.at
    (c.requires.at ∙ ap Some c.in-Character.is) c.take.result c.take.new.m
    (c.take.ensures.leads s f h here))

pub returns-in_err-next-in-CounterBegin-clause-leads : goal.returns-in_err-next-in-CounterBegin-clause-leads
returns-in_err-next-in-CounterBegin-clause-leads c = λ s f h here.
    let p = err_from_is_err_and c.from_residual.result c.from_residual.ensures.1 in
    rw p.1 (
      0,
      failed_by c.args.m.now c.begin_iteration.new.self f.failed
          (ap (λ (m : Memo). m.failed) c.begin_iteration.ensures.rest ∙ ap (λ (m : Memo). m.failed) c.count-in-CounterBegin.ensures) h.failed,
    )
