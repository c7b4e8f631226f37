use Rattle.std.proofs.Common.{[], sym, subst}
use Rattle.fancy_meaning.specs.Instr.{Instr}
use Rattle.fancy_meaning.specs.Code.{one}
use Rattle.fancy_code.specs.Drafts.{draft_of, Writes}
use Rattle.fancy_code.specs.Arounds.{look_opening, over_slot, open_split}
use Rattle.fancy_code.proofs.Writing.{wrote_then}
use Rattle.fancy_code.proofs.writer.CodeWriter.begin_look.Goals as goal

pub returns-in-Ahead : goal.returns-in-Ahead
returns-in-Ahead c = λ p.
    subst (λ k. Writes p (look_opening k) [] (draft_of c.args.self.now) (draft_of c.push_over_slot.new.self)) (sym c.in-Ahead.is)
    (c.push_over_slot.ensures p)

pub returns-in-NotAhead : goal.returns-in-NotAhead
returns-in-NotAhead c = λ p.
    subst (λ k. Writes p (look_opening k) [] (draft_of c.args.self.now) (draft_of c.push.new.self)) (sym c.in-NotAhead.is)
    (c.push.ensures.writes p)

pub returns-in-Behind : goal.returns-in-Behind
returns-in-Behind c = λ p.
    subst (λ k. Writes p (look_opening k) [] (draft_of c.args.self.now) (draft_of c.push-in-Behind.new.self)) (sym c.in-Behind.is)
    (wrote_then p (over_slot Instr.Save) (one (Instr.GoBack c.in-Behind.chars)) [] [] _ _ _
    (c.push_over_slot-in-Behind.ensures p) (c.push-in-Behind.ensures.writes p))

pub returns-in-NotBehind : goal.returns-in-NotBehind
returns-in-NotBehind c = λ p.
    subst (λ k. Writes p (look_opening k) [] (draft_of c.args.self.now) (draft_of c.push-in-NotBehind-2.new.self)) (sym c.in-NotBehind.is)
    (wrote_then p (one open_split) (one (Instr.GoBack c.in-NotBehind.chars)) [] [] _ _ _
    (c.push-in-NotBehind.ensures.writes p) (c.push-in-NotBehind-2.ensures.writes p))
