use Rattle.std.proofs.Common.{[], sym, subst}
use Rattle.fancy_code.specs.Drafts.{draft_of, Writes}
use Rattle.fancy_code.specs.Arounds.{opening}
use Rattle.fancy_code.proofs.writer.CodeWriter.begin.Goals as goal

pub returns-in-Group : goal.returns-in-Group
returns-in-Group c = λ p.
    subst (λ k. Writes p (opening k) [] (draft_of c.args.self.now) (draft_of c.begin_group.new.self)) (sym c.in-Group.is)
    (c.begin_group.ensures p)

pub returns-in-Atomic : goal.returns-in-Atomic
returns-in-Atomic c = λ p.
    subst (λ k. Writes p (opening k) [] (draft_of c.args.self.now) (draft_of c.push.new.self)) (sym c.in-Atomic.is)
    (c.push.ensures.writes p)

pub returns-in-Look : goal.returns-in-Look
returns-in-Look c = λ p.
    subst (λ k. Writes p (opening k) [] (draft_of c.args.self.now) (draft_of c.begin_look.new.self)) (sym c.in-Look.is)
    (c.begin_look.ensures p)

pub returns-in-Loop : goal.returns-in-Loop
returns-in-Loop c = λ p.
    subst (λ k. Writes p (opening k) [] (draft_of c.args.self.now) (draft_of c.begin_loop.new.self)) (sym c.in-Loop.is)
    (c.begin_loop.ensures p)
