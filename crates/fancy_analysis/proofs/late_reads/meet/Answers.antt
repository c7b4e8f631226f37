use Rattle.std.proofs.Common.{sym, ap, ◌∙◌, refl}
use Rattle.fancy_analysis.specs.LateReads.{meet}
use Rattle.fancy_info.specs.Infos.{node_over}
use Rattle.fancy_analysis.proofs.InfoNodes.{absent_alike}
use Rattle.fancy_analysis.proofs.late_reads.meet.Goals as goal

pub returns-in-Absent : goal.returns-in-Absent
returns-in-Absent c = λ n w es.
    let past = meet c.args.group c.args.own in
    sym (ap (λ x. past (node_over x n w es) c.args.met) c.in-Absent.is
    ∙ absent_alike (λ t. past t c.args.met) c.args.met (λ y. refl) (λ y z. refl) (λ y. refl) refl c.in-Absent.field-0 es)

pub returns-then-met : goal.returns-then-met
returns-then-met c = λ n w es. rw (c.in-SubroutineCall.is, c.if-met.true)

pub returns-then-own : goal.returns-then-own
returns-then-own c = λ n w es. rw (c.in-SubroutineCall.is, c.if-met.false, c.if-own.true)

pub returns-else-own : goal.returns-else-own
returns-else-own c = λ n w es. rw (c.in-SubroutineCall.is, c.if-met.false, c.if-own.false)

pub returns-then-met-2 : goal.returns-then-met-2
returns-then-met-2 c = λ n w es. rw (c.in-Backref.is, c.if-met-2.true)

pub returns-then-met-3 : goal.returns-then-met-3
returns-then-met-3 c = λ n w es. rw (c.in-Backref.is, c.if-met-2.false, c.if-met-3.true)

pub returns-else-met-3 : goal.returns-else-met-3
returns-else-met-3 c = λ n w es. rw (c.in-Backref.is, c.if-met-2.false, c.if-met-3.false)
