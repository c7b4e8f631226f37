use Rattle.std.proofs.Common.{◌∷◌, [], sym, ap, ◌∙◌, subst}
use lib.Utf8.{encode}
use Rattle.fancy_meaning.specs.Code.{Code, one, ◌>>◌, branch}
use Rattle.fancy_meaning.specs.Instr.{Instr, Newline}
use Rattle.fancy_code.specs.Sites.{within_node}
use Rattle.fancy_code.specs.Drafts.{draft_of, with_patch, Writes}
use Rattle.fancy_code.proofs.Writing.{wrote_then}
use Rattle.fancy_code.proofs.Patches.{wrote_both}
use Rattle.fancy_code.proofs.Closings.{laid_length}
use Rattle.fancy_code.proofs.Alone.{wrote_newline}
use Rattle.fancy_code.proofs.writer.CodeWriter.emit_newline.Goals as goal

pub returns-in-Err : goal.returns-in-Err
returns-in-Err c = λ p call at_start in_hard room. c.fail.ensures p _ _ tt

pub returns-in-Err-newline_insn : goal.returns-in-Err-newline_insn
returns-in-Err-newline_insn c = λ p call at_start in_hard room. c.fail-in-Err-newline_insn.ensures p _ _ tt

pub returns : goal.returns
unfolding encode
returns c = λ p call at_start in_hard room.
    let q = within_node p in
    let a : Code = one (Instr.Lit (13 ∷ 10 ∷ [])) in
    let b : Code = one (Instr.Class (Newline c.args.unicode)) in
    let z = draft_of c.push-5.new.self in
    let first = subst (λ l. Writes q (one (Instr.Lit l)) [] (draft_of c.push-2.new.self) (draft_of c.push-3.new.self)) c.in-Ok.ensures
    (c.push-3.ensures.writes q) in
    let second = subst (λ i. Writes q (one i) [] (draft_of c.push-4.new.self) z) c.in-Ok-newline_insn.ensures (c.push-5.ensures.writes q) in
    let jump = subst (λ d. Writes q (one (Instr.Jmp 0)) [] d (draft_of c.push-4.new.self)) c.patch.ensures (c.push-4.ensures.writes q) in
    let both = wrote_both q [] [] a b (draft_of c.push.new.self) (draft_of c.push-2.new.self) (draft_of c.push-3.new.self)
    (draft_of c.push-4.new.self) z c.len-split.result c.len-jump.result _ _
    (sym (laid_length c.push.new.self _ (c.len-split.ensures ∙ c.push.new.self.code.ok.0)))
    (sym (laid_length c.push-3.new.self _ (c.len-jump.ensures ∙ c.push-3.new.self.code.ok.0)))
    (c.push-2.ensures.writes q) first jump second in
    let last = laid_length c.push-5.new.self _ (c.len-end.ensures ∙ c.push-5.new.self.code.ok.0) in
    let done = ap (λ n. with_patch z c.len-jump.result (Instr.Jmp n)) last ∙ sym c.patch-2.ensures in
    wrote_newline p call at_start in_hard _ _ room c.args.unicode
    (wrote_then q (one Instr.BeginAtomic) (branch a b >> one Instr.EndAtomic) [] [] _ _ _ (c.push.ensures.writes q)
    (wrote_then q (branch a b) (one Instr.EndAtomic) [] [] _ _ _ (subst (λ d. Writes q (branch a b) [] (draft_of c.push.new.self) d) done both)
    (c.push-6.ensures.writes q)))
