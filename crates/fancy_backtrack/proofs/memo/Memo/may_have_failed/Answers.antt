use Rattle.std.proofs.Common.{sym, ◌∙◌}
use Rattle.fancy_backtrack.proofs.KeptRunLaws.{free_inside, free_outside}
use Rattle.fancy_backtrack.proofs.memo.Memo.may_have_failed.Goals as goal

pub returns-then-config-eq0 : goal.returns-then-config-eq0
returns-then-config-eq0 c = λ is s failed stands have.
    free_outside c.args.self.now c.args.config c.if-config-eq0.true (sym c.has.ensures ∙ is) s failed stands have

pub returns-in-Some-default-eq0 : goal.returns-in-Some-default-eq0
returns-in-Some-default-eq0 c = λ is.
    let found = c.in-Some-default-eq0 in
    free_inside c.args.self.now c.args.config found.counter found.field-0-1 c.numbers_inside.result found.field-0-1-test
    c.numbers_inside.ensures found.ensures.counters (sym c.has-in-Some-default-eq0.ensures ∙ is)
