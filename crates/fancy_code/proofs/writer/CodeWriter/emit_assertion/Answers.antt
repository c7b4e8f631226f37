use Rattle.std.proofs.Common.{[], subst}
use Rattle.fancy_meaning.specs.Code.{one}
use Rattle.fancy_meaning.specs.Instr.{Instr}
use Rattle.fancy_code.specs.Drafts.{draft_of, Writes}
use Rattle.fancy_code.proofs.writer.CodeWriter.emit_assertion.Goals as goal

pub returns : goal.returns
returns c = λ p. subst (λ a. Writes p (one (Instr.Assert a)) [] (draft_of c.args.self.now) (draft_of c.push.new.self)) c.assertion_inside.ensures
    (c.push.ensures.writes p)
