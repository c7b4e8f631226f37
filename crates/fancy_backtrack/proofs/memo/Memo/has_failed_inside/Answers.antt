use Rattle.std.proofs.Common.{ap, ◌∙◌}
use Rattle.fancy_nfa_laws.specs.NfaSearch.{pair_of}
use Rattle.fancy_backtrack.specs.FailedPairs.{has_pair}
use Rattle.fancy_backtrack.proofs.MemoLaws.{inside}
use Rattle.fancy_backtrack.proofs.memo.Memo.has_failed_inside.Goals as goal

pub returns-in-Some-default-eq0-clause-ok : goal.returns-in-Some-default-eq0-clause-ok
returns-in-Some-default-eq0-clause-ok c = λ s failed h have.
    let m = c.args.self.now in
    let counter = c.in-Some-default-eq0.counter in
    let ends = c.in-Some-default-eq0.ensures.counters s.counters h.counters in
    c.has.ensures
    ∙ ap (has_pair m.failed) (c.numbers_inside.ensures s h.at h.place
    (inside m c.args.config counter c.in-Some-default-eq0.field-0-1 s c.in-Some-default-eq0.field-0-1-test h ends))
    ∙ have (pair_of s)
