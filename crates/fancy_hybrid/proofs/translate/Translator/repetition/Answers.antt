use Rattle.fancy_expr.specs.Views.{bound_of}
use Rattle.fancy_hybrid.proofs.Nodes.{loop_translated}
use Rattle.fancy_hybrid.proofs.translate.Translator.repetition.Goals as goal

pub returns : goal.returns
returns c = λ first e t.
    loop_translated c.args.self.unicode first c.args.lo (bound_of c.args.hi) c.args.greedy e c.args.sub c.in-Some.min c.in-Some.max
    c.in_ok-new.field-0 c.in_ok-new.ensures.ok c.in-Some.ensures.0 c.in-Some.ensures.1 (c.ends.ensures c.if-not-ends.false) t
