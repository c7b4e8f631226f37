use Rattle.std.proofs.Common.{sym, ◌∙◌, arith}
use Rattle.fancy_highlight.proofs.Order.{after_place, at_place, before_place}
use Rattle.fancy_highlight.proofs.frames.tried_at.Goals as goal
use Rattle.fancy_highlight.proofs.frames.tried_at.Goals.{in_default-via-in-Some-2+else-index-min-2, in_default-via-in_default}

pub returns-in-Some : goal.returns-in-Some
returns-in-Some c =
    rw c.in-Some.is (sym (at_place c.args.place c.in-Some.end c.args.rules.now c.args.index (omega arith)))

pub returns-in-Some-2 : goal.returns-in-Some-2
returns-in-Some-2 c =
    rw c.in-Some-2.is
    (c.rule_at.ensures ∙ sym (after_place c.args.place c.in-Some-2.field-0 c.args.rules.now c.args.index (omega arith)))

pub returns-in_default : goal.returns-in_default
returns-in_default c =
    elim c.in_default.branch [
      | in_default-via-in-Some-2+else-index-min-2 w ↦
          rw w.in-Some-2.is
          (c.rule_at-in_default.ensures
          ∙ sym (before_place c.args.place w.in-Some-2.field-0 c.args.rules.now c.args.index (omega arith)))
      | in_default-via-in_default w ↦ rw w.in_default.is c.rule_at-in_default.ensures
    ]
