use Rattle.std.proofs.Common.{sym, ap, subst, arith}
use Rattle.fancy_nfa_laws.specs.NfaSearch.{TakesUp}
use Rattle.fancy_backtrack.specs.Paths.{counter_of}
use Rattle.fancy_backtrack.specs.Loops.{loop_of}
use Rattle.fancy_backtrack.specs.Memos.{IsHere, Simulates}
use Rattle.fancy_backtrack.specs.declared.trail.NfaConfig.{NfaConfig}
use Rattle.fancy_backtrack.specs.declared.loops.LoopChoice.TheVariants as loop_choice
use Rattle.fancy_backtrack.proofs.MemoLaws.{counter_loop_by, here_out, lone_way, no_other, off, on, one_other, counters_none, counters_open}
use Rattle.fancy_backtrack.proofs.memo.Memo.other_counter.Goals as goal

pub returns-in_default-clause-leads : goal.returns-in_default-clause-leads
returns-in_default-clause-leads c = λ continuation s first other f h here e.
    absurd (no_other (loop_of c.args.bounds) c.args.after s first other s.counters
    (counters_none c.args.self.now.trail.entries.items c.args.config.counters s.counters (c.in_default.ensures.counters s.counters here.counters)) e)

pub returns-in-InOrOut-clause-leads : goal.returns-in-InOrOut-clause-leads
returns-in-InOrOut-clause-leads c = λ continuation s first other f h here e.
    let t = counter_of c.in-Some.counter in
    let ends = counters_open c.args.self.now.trail.entries.items c.args.config.counters s.counters (c.in-Some.counter, c.in-Some.outer)
    (c.in-Some.ensures.counters s.counters here.counters) in
    let around = ends.0 in
    let l = loop_of c.args.bounds in
    let there = off l c.args.after s t around in
    let led = counter_loop_by l c.args.after s t around c.args.config.place s.counters loop_choice.InOrOut here.place ends.1.0 c.in-InOrOut.ensures in (
      f,
      (
        there,
        (
          ap (λ o. TakesUp o f) (one_other _ first other _ there e led),
          h,
          subst (λ (x : NfaConfig). IsHere c.args.self.now x there) (sym c.goes_out.ensures)
              (here_out c.args.self.now c.args.config s c.args.after c.in-Some.outer around ends.1.1 ends.1.2 here),
        ),
      ),
    )

pub returns-in-OutOrIn-clause-leads : goal.returns-in-OutOrIn-clause-leads
returns-in-OutOrIn-clause-leads c = λ continuation s first other f h here e.
    let t = counter_of c.in-Some.counter in
    let ends = counters_open c.args.self.now.trail.entries.items c.args.config.counters s.counters (c.in-Some.counter, c.in-Some.outer)
    (c.in-Some.ensures.counters s.counters here.counters) in
    let around = ends.0 in
    let l = loop_of c.args.bounds in
    let led = counter_loop_by l c.args.after s t around c.args.config.place s.counters loop_choice.OutOrIn here.place ends.1.0 c.in-OutOrIn.ensures in
    subst (λ o. Simulates continuation s f.failed (TakesUp o f) c.counter_in.result c.counter_in.new.self)
    (sym (one_other _ first other _ (on l c.args.after s t around) e led))
    (c.counter_in.ensures.leads continuation s f around h here (omega (arith, ends.1.1, here.counters_link)) ends.1.2)

pub returns-in_default-loop_choice-clause-leads : goal.returns-in_default-loop_choice-clause-leads
returns-in_default-loop_choice-clause-leads c = λ continuation s first other f h here e.
    let ends = counters_open c.args.self.now.trail.entries.items c.args.config.counters s.counters (c.in-Some.counter, c.in-Some.outer)
    (c.in-Some.ensures.counters s.counters here.counters) in
    absurd (lone_way (loop_of c.args.bounds) c.args.after c.args.config.place s first other (counter_of c.in-Some.counter) ends.0 s.counters
    c.loop_choice.result here.place ends.1.0 c.loop_choice.ensures c.in_default-loop_choice.not-InOrOut c.in_default-loop_choice.not-OutOrIn e)
