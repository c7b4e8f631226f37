use Rattle.std.proofs.Common.{[], ◌∷◌, sym, ap, ◌∙◌, subst}
use Rattle.fancy_meaning.specs.Batches.{literal_instr}
use Rattle.fancy_meaning.specs.Code.{one}
use Rattle.fancy_meaning.specs.Tree as plain
use Rattle.fancy_code.specs.Sites.{within_node}
use Rattle.fancy_code.specs.Drafts.{draft_of, Writes, written_code}
use Rattle.fancy_code.proofs.Alone.{wrote_literal}
use Rattle.fancy_code.proofs.writer.CodeWriter.emit_literal.Goals as goal

pub returns-in-Ok : goal.returns-in-Ok
returns-in-Ok c = λ p call at_start in_hard room u.
    let casei = c.args.casei in
    let insn = c.in-Ok.ensures ∙ ap (λ b. literal_instr b ((c.first_char.result, casei) ∷ [])) (sym u) in
    subst (λ x. Writes p (written_code p call (plain.Literal x casei) at_start in_hard) (plain.Literal x casei ∷ []) (draft_of c.args.self.now)
    (draft_of c.push.new.self)) c.first_char.ensures
    (wrote_literal p call at_start in_hard _ _ room c.first_char.result casei
    (subst (λ i. Writes (within_node p) (one i) [] (draft_of c.args.self.now) (draft_of c.push.new.self)) insn (c.push.ensures.writes (within_node p))))

pub returns-in-Err : goal.returns-in-Err
returns-in-Err c = λ p call at_start in_hard room u. c.fail.ensures p _ _ tt
