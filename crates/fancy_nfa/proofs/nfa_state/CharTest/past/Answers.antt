use Rattle.std.proofs.Common.{arith, length, sym, ap, ◌∙◌, slice_get}
use Rattle.fancy_nfa_laws.specs.NfaSearch as plain
use Rattle.fancy_nfa.specs.Views.{test_of}
use Rattle.fancy_nfa.proofs.FirstSetLaws.{skip_ascii, past_end, passes_alike, some_below}
use Rattle.fancy_nfa.proofs.nfa_state.CharTest.past.Goals as goal

pub overflow_add-result : goal.overflow_add-result
overflow_add-result c =
    let below = some_below c.as_bytes.result.now c.args.ix c.in-Some.byte (sym c.in-Some.ensures) in
    omega (arith, below)

pub returns-in_default-clause-ok : goal.returns-in_default-clause-ok
returns-in_default-clause-ok c =
    sym
    (past_end c.args.text.now (plain.passes c.args.text.now c.args.unicode (test_of c.args.self.now)) c.args.ix
    (ap (λ text. slice_get text c.args.ix) (sym c.as_bytes.ensures.value) ∙ sym c.in_default.ensures))

pub returns-then-takes_ascii-clause-ok : goal.returns-then-takes_ascii-clause-ok
returns-then-takes_ascii-clause-ok c =
    sym
    (skip_ascii c.args.text.now (plain.passes c.args.text.now c.args.unicode (test_of c.args.self.now)) c.args.ix c.in-Some.byte
    (ap (λ text. slice_get text c.args.ix) (sym c.as_bytes.ensures.value) ∙ sym c.in-Some.ensures)
    c.if-byte-ge128.false _
    (sym (passes_alike c.args.text.now c.args.unicode (test_of c.args.self.now) c.in-Some.byte) ∙ sym c.takes_ascii.ensures
    ∙ c.if-takes_ascii.true))

pub returns-else-takes_ascii-clause-ok : goal.returns-else-takes_ascii-clause-ok
returns-else-takes_ascii-clause-ok c =
    sym
    (skip_ascii c.args.text.now (plain.passes c.args.text.now c.args.unicode (test_of c.args.self.now)) c.args.ix c.in-Some.byte
    (ap (λ text. slice_get text c.args.ix) (sym c.as_bytes.ensures.value) ∙ sym c.in-Some.ensures)
    c.if-byte-ge128.false _
    (sym (passes_alike c.args.text.now c.args.unicode (test_of c.args.self.now) c.in-Some.byte) ∙ sym c.takes_ascii.ensures
    ∙ c.if-takes_ascii.false))

pub returns-then-takes_ascii-clause-small : goal.returns-then-takes_ascii-clause-small
returns-then-takes_ascii-clause-small c =
    let below = some_below c.as_bytes.result.now c.args.ix c.in-Some.byte (sym c.in-Some.ensures) in
    let same = ap length c.as_bytes.ensures.value in
    omega (arith, below, same)
