use Rattle.std.proofs.Common.{◌+◌, [], ℕ, sym, ap, ◌∙◌, subst, arith}
use Rattle.std.specs.Global.{Vec}
use Rattle.std.proofs.lemmas.List.{take_all}
use Rattle.fancy_nfa_laws.specs.FirstWays.{spans_of}
use Rattle.fancy_backtrack.specs.Paths.{closed_after}
use Rattle.fancy_nfa.specs.Ways.{listed}
use Rattle.fancy_nfa.proofs.WayLaws.{AreBelow, Rise, ascends_by, below_more, closed_put, rise_more, spans_stay}
use Rattle.fancy_nfa.proofs.first_way.spans.Goals as goal
use Rattle.fancy_nfa.proofs.first_way.spans.Goals.{in-Closed+else-group-behind+else-group+in_ok-push, in_default}

abbrev Spans : Type 0
Spans = Vec (ℕ × ℕ × ℕ)

pub loop-entry-init : goal.loop-entry-init
loop-entry-init c =
    let none = sym c.new-spans.ensures.items in
    (subst (AreBelow 0) none tt, subst Rise none tt, λ g. ap (λ l. listed l g) c.new-spans.ensures.items)

pub loop-entry-preserved : goal.loop-entry-preserved
loop-entry-preserved c =
    let had = c.loop-entry.invariant in
    elim c.match-entry.branch [
      | in-Closed+else-group-behind+else-group+in_ok-push w ↦
          let group = w.in-Closed.group in
          let items = ap (λ (v : Spans). v.items) w.spans-is ∙ w.in_ok-push.ensures.items in
          let le = w.if-group-behind.false in (
            subst (λ n. AreBelow n c.match-entry.spans.items) (sym w.behind-is)
                (subst (AreBelow (group + 1)) (sym items) (below_more c.loop-entry.behind group w.in-Closed.from w.in-Closed.to le _ had.0)),
            subst Rise (sym items) (rise_more c.loop-entry.behind group w.in-Closed.from w.in-Closed.to le _ had.0 had.1),
            λ g.
                ap (λ l. listed l g) items
                ∙ closed_put c.args.entries.now c.loop-entry.entry-index g c.loop-entry.behind group w.in-Closed.from w.in-Closed.to
                c.loop-entry.spans.items _ c.loop-entry-test.true le had.0 (had.2 g) w.in-Closed.is,
          )
      | in_default w ↦
          let items = ap (λ (v : Spans). v.items) w.spans-is in (
            subst (λ n. AreBelow n c.match-entry.spans.items) (sym w.behind-is) (subst (AreBelow c.loop-entry.behind) (sym items) had.0),
            subst Rise (sym items) had.1,
            λ g.
                ap (λ l. listed l g) items
                ∙ spans_stay c.args.entries.now c.loop-entry.entry-index g (listed c.loop-entry.spans.items g)
                (listed c.loop-entry.spans.items g) c.loop-entry-test.true (had.2 g) _ w.in_default.not-Closed,
          )
    ]

pub returns-clause-ascends : goal.returns-clause-ascends
returns-clause-ascends c = ascends_by c.loop-entry.spans.items c.loop-entry.invariant.1

pub returns-clause-listed : goal.returns-clause-listed
returns-clause-listed c = λ g.
    c.loop-entry.invariant.2 g
    ∙ ap (λ es. spans_of (closed_after [] es) g)
    (take_all c.loop-entry.entry-index c.args.entries.now (omega (arith, c.loop-entry-test.false)))
