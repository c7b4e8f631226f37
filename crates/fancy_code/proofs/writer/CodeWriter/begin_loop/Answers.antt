use Rattle.std.proofs.Common.{[], sym, subst}
use Rattle.fancy_meaning.specs.Instr.{Instr}
use Rattle.fancy_meaning.specs.Code.{one}
use Rattle.fancy_code.specs.Drafts.{draft_of, Writes, one_over_slot}
use Rattle.fancy_code.specs.Arounds.{loop_opening, over_slot, open_split}
use Rattle.fancy_code.proofs.Writing.{wrote_then}
use Rattle.fancy_code.proofs.writer.CodeWriter.begin_loop.Goals as goal

pub returns-in-AtMostOnce : goal.returns-in-AtMostOnce
returns-in-AtMostOnce c = λ p. subst (λ k. Writes p (loop_opening k) [] (draft_of c.args.self.now) (draft_of c.push.new.self)) (sym c.in-AtMostOnce.is)
    (c.push.ensures.writes p)

pub returns-in-Epsilon : goal.returns-in-Epsilon
returns-in-Epsilon c = λ p. subst (λ k. Writes p (loop_opening k) [] (draft_of c.args.self.now) (draft_of c.push_over_slot-in-Epsilon.new.self))
    (sym c.in-Epsilon.is)
    (wrote_then p (over_slot Instr.Save0) (one_over_slot open_split) [] [] _ _ _ (c.push_over_slot.ensures p) (c.push_over_slot-in-Epsilon.ensures p))

pub returns-in-Star : goal.returns-in-Star
returns-in-Star c = λ p. subst (λ k. Writes p (loop_opening k) [] (draft_of c.args.self.now) (draft_of c.push-in-Star.new.self)) (sym c.in-Star.is)
    (c.push-in-Star.ensures.writes p)

pub returns-in-Counted : goal.returns-in-Counted
returns-in-Counted c = λ p. subst (λ k. Writes p (loop_opening k) [] (draft_of c.args.self.now) (draft_of c.push-in-Counted.new.self)) (sym c.in-Counted.is)
    (wrote_then p (over_slot Instr.Save0) (one open_split) [] [] _ _ _ (c.push_over_slot-in-Counted.ensures p) (c.push-in-Counted.ensures.writes p))
