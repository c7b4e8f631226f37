use Rattle.std.proofs.Common.{[], if◌then◌else◌, sym, ◌∙◌, subst}
use Rattle.fancy_meaning.specs.Instr.{Instr}
use Rattle.fancy_meaning.specs.Code.{nothing, one}
use Rattle.fancy_code.specs.Drafts.{Writes, draft_of}
use Rattle.fancy_compile.proofs.compile.emit_end_text.Goals as goal

pub returns-then-end_text : goal.returns-then-end_text
returns-then-end_text c = λ p same.
    subst (λ b. Writes p (if b then one Instr.RejectEmptyMatchAtEOFFollowingNewline else nothing) [] (draft_of c.args.writer.now) (draft_of c.push.new.self))
    (sym (same ∙ c.if-end_text.true))
    (c.push.ensures.writes p)
