use Rattle.std.proofs.Common.{sym, subst}
use Rattle.fancy_code.specs.Arounds.{Ends}
use Rattle.fancy_code.specs.Drafts.{draft_of}
use Rattle.fancy_code.proofs.Closings.{ended_atomic}
use Rattle.fancy_code.proofs.writer.CodeWriter.end.Goals as goal

pub returns-in-Group : goal.returns-in-Group
returns-in-Group c =
    subst (λ k. Ends k c.args.start (draft_of c.args.self.now) (draft_of c.end_group.new.self)) (sym c.in-Group.is)
    c.end_group.ensures

pub returns-in-Atomic : goal.returns-in-Atomic
returns-in-Atomic c =
    subst (λ k. Ends k c.args.start (draft_of c.args.self.now) (draft_of c.push.new.self)) (sym c.in-Atomic.is)
    (λ p body es s t start h b. ended_atomic p body es s t (draft_of c.args.self.now) c.args.start start _ h b (c.push.ensures.writes p))

pub returns-in-Look : goal.returns-in-Look
returns-in-Look c =
    subst (λ k. Ends k c.args.start (draft_of c.args.self.now) (draft_of c.end_look.new.self)) (sym c.in-Look.is)
    c.end_look.ensures

pub returns-in-Loop : goal.returns-in-Loop
returns-in-Loop c =
    subst (λ k. Ends k c.args.start (draft_of c.args.self.now) (draft_of c.end_loop.new.self)) (sym c.in-Loop.is)
    c.end_loop.ensures
