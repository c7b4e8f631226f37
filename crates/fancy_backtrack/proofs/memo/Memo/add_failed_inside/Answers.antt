use Rattle.std.proofs.Common.{◌∙◌}
use Rattle.fancy_nfa_laws.specs.NfaSearch.{pair_of}
use Rattle.fancy_backtrack.proofs.MemoLaws.{inside, memoized, when_added}
use Rattle.fancy_backtrack.proofs.memo.Memo.add_failed_inside.Goals as goal

pub returns-in-Some-default-eq0-clause-ok : goal.returns-in-Some-default-eq0-clause-ok
returns-in-Some-default-eq0-clause-ok c =
    let m = c.args.self.now in
    let found = c.in-Some-default-eq0 in
    when_added c.add.result
    (λ added s f h have.
    memoized m.failed c.add.new.self f c.numbers_inside.result (pair_of s)
    (c.numbers_inside.ensures s h.at h.place
    (inside m c.args.config found.counter found.field-0-1 s found.field-0-1-test h (found.ensures.counters s.counters h.counters))) added have)
    c.add.ensures.ok

pub returns-clause-ok : goal.returns-clause-ok
returns-clause-ok c =
    when_added c.add-2.result
    (λ added s f h have.
    memoized c.args.self.now.failed c.add-2.new.self f c.deref.result.now (pair_of s)
    (c.deref.ensures.value ∙ c.in_ok-write_numbers.ensures.ok s h.at h.place h.counters) added have) c.add-2.ensures.ok
