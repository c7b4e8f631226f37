use Rattle.std.proofs.Common.{sym, subst}
use Rattle.fancy_code.specs.Arounds.{Ends}
use Rattle.fancy_code.specs.Drafts.{draft_of}
use Rattle.fancy_code.specs.declared.around.Construct.TheVariants as around
use Rattle.fancy_code.proofs.writer.CodeWriter.end_loop.Goals as goal

pub returns-in-AtMostOnce : goal.returns-in-AtMostOnce
returns-in-AtMostOnce c = subst (λ k. Ends (around.Loop k c.args.greedy) c.args.start (draft_of c.args.self.now) (draft_of c.end_at_most_once.new.self))
    (sym c.in-AtMostOnce.is) c.end_at_most_once.ensures

pub returns-in-Epsilon : goal.returns-in-Epsilon
returns-in-Epsilon c = subst (λ k. Ends (around.Loop k c.args.greedy) c.args.start (draft_of c.args.self.now) (draft_of c.end_epsilon.new.self))
    (sym c.in-Epsilon.is) c.end_epsilon.ensures

pub returns-in-Star : goal.returns-in-Star
returns-in-Star c = subst (λ k. Ends (around.Loop k c.args.greedy) c.args.start (draft_of c.args.self.now) (draft_of c.end_star.new.self))
    (sym c.in-Star.is) c.end_star.ensures

pub returns-in-Plus : goal.returns-in-Plus
returns-in-Plus c = subst (λ k. Ends (around.Loop k c.args.greedy) c.args.start (draft_of c.args.self.now) (draft_of c.end_plus.new.self))
    (sym c.in-Plus.is) c.end_plus.ensures

pub returns-in-Counted : goal.returns-in-Counted
returns-in-Counted c = subst (λ k. Ends (around.Loop k c.args.greedy) c.args.start (draft_of c.args.self.now) (draft_of c.end_counted.new.self))
    (sym c.in-Counted.is) c.end_counted.ensures
