use Rattle.std.proofs.Common.{[], sym, ◌∙◌, ◌*◌, subst}
use Rattle.fancy_meaning.specs.Code.{one}
use Rattle.fancy_meaning.specs.Instr.{Instr}
use Rattle.fancy_meaning.specs.Tree as plain
use Rattle.fancy_code.specs.Sites.{within_node}
use Rattle.fancy_code.specs.Drafts.{draft_of, Writes}
use Rattle.fancy_code.proofs.Written.{no_slot}
use Rattle.fancy_code.proofs.Alone.{wrote_backref}
use Rattle.fancy_code.proofs.writer.CodeWriter.emit_backref.Goals as goal

pub returns-then-is_out_of_range : goal.returns-then-is_out_of_range
returns-then-is_out_of_range c = λ p call at_start in_hard room u. c.refuse.ensures p _ _
    (no_slot p (plain.Backref c.args.group c.args.casei) (sym c.is_out_of_range.ensures ∙ c.if-is_out_of_range.true))

pub returns : goal.returns
returns c = λ p call at_start in_hard room u. wrote_backref p call at_start in_hard _ _ room c.args.group c.args.casei
    (sym c.is_out_of_range.ensures ∙ c.if-is_out_of_range.false)
    (subst (λ b. Writes (within_node p) (one (Instr.Backref (2 * c.args.group) c.args.casei b)) [] (draft_of c.args.self.now) (draft_of c.push.new.self))
    (sym u)
    (c.push.ensures.writes (within_node p)))
