use Rattle.std.proofs.Common.{sym, subst}
use Rattle.fancy_code.specs.Arounds.{Ends}
use Rattle.fancy_code.specs.Drafts.{draft_of}
use Rattle.fancy_code.specs.declared.around.Construct.TheVariants as around
use Rattle.fancy_code.proofs.Closings.{ended_ahead, ended_behind}
use Rattle.fancy_code.proofs.writer.CodeWriter.end_look.Goals as goal

pub returns-in-Ahead : goal.returns-in-Ahead
returns-in-Ahead c =
    subst (λ k. Ends (around.Look k) c.args.start (draft_of c.args.self.now) (draft_of c.push.new.self)) (sym c.in-Ahead.is)
    (λ p body es s t start h b. ended_ahead p body es s t (draft_of c.args.self.now) c.args.start start _ h b (c.push.ensures.writes p))

pub returns-in-NotAhead : goal.returns-in-NotAhead
returns-in-NotAhead c =
    subst (λ k. Ends (around.Look k) c.args.start (draft_of c.args.self.now) (draft_of c.end_negative.new.self)) (sym c.in-NotAhead.is)
    c.end_negative.ensures.ahead

pub returns-in-Behind : goal.returns-in-Behind
returns-in-Behind c =
    subst (λ k. Ends (around.Look k) c.args.start (draft_of c.args.self.now) (draft_of c.push-in-Behind.new.self)) (sym c.in-Behind.is)
    (λ p body es s t start h b.
    ended_behind p body es s t (draft_of c.args.self.now) c.args.start start _ _ h b (c.push-in-Behind.ensures.writes p))

pub returns-in-NotBehind : goal.returns-in-NotBehind
returns-in-NotBehind c =
    subst (λ k. Ends (around.Look k) c.args.start (draft_of c.args.self.now) (draft_of c.end_negative-in-NotBehind.new.self)) (sym c.in-NotBehind.is)
    (c.end_negative-in-NotBehind.ensures.behind _)
