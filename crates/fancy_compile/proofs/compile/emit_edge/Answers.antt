use Rattle.std.proofs.Common.{[], if◌then◌else◌, sym, ◌∙◌, subst}
use Rattle.fancy_meaning.specs.Instr.{Instr}
use Rattle.fancy_meaning.specs.Code.{nothing, one}
use Rattle.fancy_code.specs.Drafts.{Writes, draft_of}
use Rattle.fancy_compile.proofs.compile.emit_edge.Goals as goal

pub returns-then-not-explicit_group_0 : goal.returns-then-not-explicit_group_0
returns-then-not-explicit_group_0 c = λ p same.
    subst (λ b. Writes p (if b then nothing else one (Instr.Save c.args.slot)) [] (draft_of c.args.writer.now) (draft_of c.push.new.self))
    (sym (same ∙ c.if-not-explicit_group_0.true))
    (c.push.ensures.writes p)
