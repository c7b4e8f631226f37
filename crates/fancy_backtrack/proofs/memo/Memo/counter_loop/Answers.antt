use Rattle.std.proofs.Common.{refl, sym, ap, ◌∙◌, subst, arith, ◌+◌, ◌∷◌, Some, true}
use Rattle.fancy_nfa_laws.specs.NfaSearch as plain
use Rattle.fancy_nfa_laws.specs.NfaStates as states
use Rattle.fancy_nfa_laws.specs.NfaSearch.{Next, Search, TakesBack, TakesUp, pair_of}
use Rattle.fancy_backtrack.specs.Paths.{counter_of}
use Rattle.fancy_backtrack.specs.Loops.{loop_of}
use Rattle.fancy_backtrack.specs.Memos.{IsHere, Simulates}
use Rattle.fancy_backtrack.specs.declared.trail.NfaConfig.{NfaConfig}
use Rattle.fancy_backtrack.specs.declared.loops.LoopChoice.TheVariants as loop_choice
use Rattle.fancy_backtrack.proofs.MemoLaws.{counter_loop_by, counter_loop_in_vain, here_out, off, on, one_visit, pair_kept, renumbered, tries_anew, counters_none, counters_open}
use Rattle.fancy_backtrack.proofs.memo.Memo.counter_loop.Goals as goal

-- src/search.rt
pub returns-in_default-clause-leads : goal.returns-in_default-clause-leads
returns-in_default-clause-leads c = λ continuation s f h here e. (
  record f { visits = f.visits + 1 },
  (
    ap (λ k. plain.next_by k (Some (states.CounterLoop (loop_of c.args.bounds) c.args.after)) s f)
        (e ∙ ap (plain.counter_loop_step (loop_of c.args.bounds) c.args.after s)
        (counters_none c.args.self.now.trail.entries.items c.args.config.counters s.counters (c.in_default.ensures.counters s.counters here.counters))),
    one_visit continuation c.args.self.now f h c.count.new.self c.count.ensures,
  ),
)

pub returns-then-branch-clause-leads : goal.returns-then-branch-clause-leads
returns-then-branch-clause-leads c = λ continuation s f h here e.
    let ends = counters_open c.args.self.now.trail.entries.items c.args.config.counters s.counters (c.in-Some.counter, c.in-Some.outer)
    (c.in-Some.ensures.counters s.counters here.counters) in
    let p = Some (states.CounterLoop (loop_of c.args.bounds) c.args.after) in (
      f,
      (
        ap (λ k. plain.next_by k p s f) (e ∙ ap (plain.counter_loop_step (loop_of c.args.bounds) c.args.after s) ends.1.0)
            ∙ counter_loop_in_vain (loop_of c.args.bounds) c.args.after s (counter_of c.in-Some.counter) ends.0 f p
            (sym (c.in_ok-has_failed.ensures.ok s f.failed here h.failed) ∙ c.if-branch.true),
        renumbered continuation c.args.self.now f h c.has_failed.new.self c.has_failed.ensures.rest,
      ),
    )

pub returns-in_ok-keep-in-Out-clause-leads : goal.returns-in_ok-keep-in-Out-clause-leads
returns-in_ok-keep-in-Out-clause-leads c = λ continuation s f h here e.
    let t = counter_of c.in-Some.counter in
    let ends = counters_open c.args.self.now.trail.entries.items c.args.config.counters s.counters (c.in-Some.counter, c.in-Some.outer)
    (c.in-Some.ensures.counters s.counters here.counters) in
    let around = ends.0 in
    let l = loop_of c.args.bounds in
    let led = e ∙ counter_loop_by l c.args.after s t around c.args.config.place s.counters loop_choice.Out here.place ends.1.0 c.in-Out.ensures in
    let anew = tries_anew continuation s _ _ f led (Some (states.CounterLoop l c.args.after))
    (sym (c.in_ok-has_failed.ensures.ok s f.failed here h.failed) ∙ c.if-branch.false) in
    let pair = pair_kept c.args.self.now c.has_failed.new.self c.count-2.new.self c.keep.new.self c.has_failed.ensures.rest c.count-2.ensures
    c.keep.ensures.rest continuation c.args.config s f h here in
    let counted = record f { visits = f.visits + 1 } in
    let frames = plain.Fails s ∷ f.frames in
    let there = off l c.args.after s t around in (
      record counted { frames = frames },
      (
        there,
        (
          anew,
          c.in_ok-keep-in-Out.ensures.ok continuation counted s frames pair.search pair.before refl,
          subst (λ (x : NfaConfig). IsHere c.keep.new.self x there) (sym c.goes_out.ensures)
              (here_out c.keep.new.self c.args.config s c.args.after c.in-Some.outer around ends.1.1
              (pair.counters c.in-Some.outer around ends.1.2) pair.here),
        ),
      ),
    )

pub returns-in_ok-keep-in-In-clause-leads : goal.returns-in_ok-keep-in-In-clause-leads
returns-in_ok-keep-in-In-clause-leads c = λ continuation s f h here e.
    let t = counter_of c.in-Some.counter in
    let ends = counters_open c.args.self.now.trail.entries.items c.args.config.counters s.counters (c.in-Some.counter, c.in-Some.outer)
    (c.in-Some.ensures.counters s.counters here.counters) in
    let around = ends.0 in
    let l = loop_of c.args.bounds in
    let led = e ∙ counter_loop_by l c.args.after s t around c.args.config.place s.counters loop_choice.In here.place ends.1.0 c.in-In.ensures in
    let anew = tries_anew continuation s _ _ f led (Some (states.CounterLoop l c.args.after))
    (sym (c.in_ok-has_failed.ensures.ok s f.failed here h.failed) ∙ c.if-branch.false) in
    let pair = pair_kept c.args.self.now c.has_failed.new.self c.count-2.new.self c.keep-in-In.new.self c.has_failed.ensures.rest c.count-2.ensures
    c.keep-in-In.ensures.rest continuation c.args.config s f h here in
    let counted = record f { visits = f.visits + 1 } in
    let frames = plain.Fails s ∷ f.frames in
    let kept = c.in_ok-keep-in-In.ensures.ok continuation counted s frames pair.search pair.before refl in
    let inside = pair.link c.in-Some.outer (omega (arith, ends.1.1, here.counters_link)) in
    subst (λ n. Simulates continuation s f.failed n c.counter_in.result c.counter_in.new.self) (sym anew)
    (c.counter_in.ensures.leads continuation s (record counted { frames = frames }) around kept pair.here inside (pair.counters c.in-Some.outer around ends.1.2))

pub returns-in_ok-keep-in-InOrOut-clause-leads : goal.returns-in_ok-keep-in-InOrOut-clause-leads
returns-in_ok-keep-in-InOrOut-clause-leads c = λ continuation s f h here e.
    let t = counter_of c.in-Some.counter in
    let ends = counters_open c.args.self.now.trail.entries.items c.args.config.counters s.counters (c.in-Some.counter, c.in-Some.outer)
    (c.in-Some.ensures.counters s.counters here.counters) in
    let around = ends.0 in
    let l = loop_of c.args.bounds in
    let led = e ∙ counter_loop_by l c.args.after s t around c.args.config.place s.counters loop_choice.InOrOut here.place ends.1.0 c.in-InOrOut.ensures in
    let anew = tries_anew continuation s _ _ f led (Some (states.CounterLoop l c.args.after))
    (sym (c.in_ok-has_failed.ensures.ok s f.failed here h.failed) ∙ c.if-branch.false) in
    let pair = pair_kept c.args.self.now c.has_failed.new.self c.count-2.new.self c.keep-in-InOrOut.new.self c.has_failed.ensures.rest c.count-2.ensures
    c.keep-in-InOrOut.ensures.rest continuation c.args.config s f h here in
    let counted = record f { visits = f.visits + 1 } in
    let frames = plain.Other (off (loop_of c.args.bounds) c.args.after s t around) ∷ plain.Fails s ∷ f.frames in
    let kept = c.in_ok-keep-in-InOrOut.ensures.ok continuation counted s frames pair.search pair.before (true, (_, (_, (led, refl)))) in
    let inside = pair.link c.in-Some.outer (omega (arith, ends.1.1, here.counters_link)) in
    subst (λ n. Simulates continuation s f.failed n c.counter_in-in-InOrOut.result c.counter_in-in-InOrOut.new.self) (sym anew)
    (c.counter_in-in-InOrOut.ensures.leads continuation s (record counted { frames = frames }) around kept pair.here inside
    (pair.counters c.in-Some.outer around ends.1.2))

pub returns-in_ok-keep-in-OutOrIn-clause-leads : goal.returns-in_ok-keep-in-OutOrIn-clause-leads
returns-in_ok-keep-in-OutOrIn-clause-leads c = λ continuation s f h here e.
    let t = counter_of c.in-Some.counter in
    let ends = counters_open c.args.self.now.trail.entries.items c.args.config.counters s.counters (c.in-Some.counter, c.in-Some.outer)
    (c.in-Some.ensures.counters s.counters here.counters) in
    let around = ends.0 in
    let l = loop_of c.args.bounds in
    let led = e ∙ counter_loop_by l c.args.after s t around c.args.config.place s.counters loop_choice.OutOrIn here.place ends.1.0 c.in-OutOrIn.ensures in
    let anew = tries_anew continuation s _ _ f led (Some (states.CounterLoop l c.args.after))
    (sym (c.in_ok-has_failed.ensures.ok s f.failed here h.failed) ∙ c.if-branch.false) in
    let pair = pair_kept c.args.self.now c.has_failed.new.self c.count-2.new.self c.keep-in-OutOrIn.new.self c.has_failed.ensures.rest c.count-2.ensures
    c.keep-in-OutOrIn.ensures.rest continuation c.args.config s f h here in
    let counted = record f { visits = f.visits + 1 } in
    let frames = plain.Other (on (loop_of c.args.bounds) c.args.after s t around) ∷ plain.Fails s ∷ f.frames in
    let there = off l c.args.after s t around in (
      record counted { frames = frames },
      (
        there,
        (
          anew,
          c.in_ok-keep-in-OutOrIn.ensures.ok continuation counted s frames pair.search pair.before (true, (_, (_, (led, refl)))),
          subst (λ (x : NfaConfig). IsHere c.keep-in-OutOrIn.new.self x there) (sym c.goes_out-in-OutOrIn.ensures)
              (here_out c.keep-in-OutOrIn.new.self c.args.config s c.args.after c.in-Some.outer around ends.1.1
              (pair.counters c.in-Some.outer around ends.1.2) pair.here),
        ),
      ),
    )
