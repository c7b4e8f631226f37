use Rattle.std.proofs.Common.{[], if◌then◌else◌, sym, ◌∙◌, subst}
use Rattle.fancy_meaning.specs.Instr.{Instr}
use Rattle.fancy_meaning.specs.Code.{Code, nothing, one, ◌>>◌}
use Rattle.fancy_code.specs.Drafts.{Writes, draft_of}
use Rattle.fancy_code.proofs.Writing.{wrote_then}
use Rattle.fancy_compile.proofs.compile.emit_search.Goals as goal

pub returns : goal.returns
returns c = λ p same.
    let rest : Code = one Instr.Any >> one (Instr.Jmp 0) in
    subst (λ b. Writes p (if b then nothing else (one (Instr.SplitUnanchored 3 1) >> rest)) [] (draft_of c.args.writer.now) (draft_of c.push-3.new.self))
    (sym (same ∙ c.if-anchored.false))
    (wrote_then p (one (Instr.SplitUnanchored 3 1)) rest [] [] _ _ _ (c.push.ensures.writes p)
    (wrote_then p (one Instr.Any) (one (Instr.Jmp 0)) [] [] _ _ _ (c.push-2.ensures.writes p) (c.push-3.ensures.writes p)))
