use Rattle.std.proofs.Common.{sym, subst, ap, refl, ◌∙◌}
use Rattle.fancy_pattern.specs.Grammar.{quantifier, gives_some, suffixed}
use Rattle.fancy_pattern.specs.Reading.{point_of, Adds, Quantifies}
use Rattle.fancy_pattern.proofs.Points.{takes_next, by_quantifier, pushed}
use Rattle.fancy_pattern.proofs.WhereStuck.{not_repeatable}
use Rattle.fancy_pattern.proofs.reader.Reader.quantify.Goals as goal

pub returns-clause-pushes : goal.returns-clause-pushes
returns-clause-pushes c = λ below e h.
    let now = subst (Adds e below) (sym c.deref.ensures.value) h in
    pushed (Quantifies e) c.args.self.now c.take_suffix-suffix.new.self below c.repeat_last.new.nodes.items
    (suffixed c.args.quantifier c.args.greedy c.take_suffix-suffix.result e)
    (by_quantifier e _ (point_of c.args.self.now) (point_of c.skip.new.self) (point_of c.take_suffix-suffix.new.self)
    c.args.quantifier c.args.greedy c.take_suffix-suffix.result
    (sym (c.is_last_repeatable.ensures below e now) ∙ c.if-not-is_last_repeatable.false)
    (takes_next quantifier (c.args.quantifier, c.args.greedy) c.args.self.now c.skip.new.self c.requires.there c.skip.ensures.skips)
    c.take_suffix-suffix.ensures.spells refl)
    (c.in_ok-repeat_last.ensures below e h)

pub returns-then-not-is_last_repeatable-clause-fails : goal.returns-then-not-is_last_repeatable-clause-fails
returns-then-not-is_last_repeatable-clause-fails c = λ names below e h.
    let now = subst (Adds e below) (sym c.deref.ensures.value) h in
    not_repeatable names (point_of c.args.self.now) e c.misfit.result (ap gives_some c.requires.there)
    (sym (c.is_last_repeatable.ensures below e now) ∙ c.if-not-is_last_repeatable.true) c.misfit.ensures
