use Rattle.std.proofs.Common.{[], ◌∷◌, length, sym, ap, ◌∙◌, subst}
use Rattle.fancy_meaning.specs.Chars.{is_class}
use Rattle.fancy_meaning.specs.Code.{one}
use Rattle.fancy_meaning.specs.Instr.{Instr, Codepoint}
use Rattle.fancy_meaning.specs.Tree as plain
use Rattle.fancy_characters.specs.Classes.{IsClassRefusal}
use Rattle.fancy_code.specs.Sites.{within_node}
use Rattle.fancy_code.specs.Drafts.{draft_of, Writes, written_code}
use Rattle.fancy_code.proofs.Alone.{wrote_class, class_refused}
use Rattle.fancy_code.proofs.writer.CodeWriter.emit_class.Goals as goal

pub returns-in-Ok : goal.returns-in-Ok
returns-in-Ok c = λ p call at_start in_hard room u.
    let inner = c.args.inner.now in
    let casei = c.args.casei in
    let insn = ap Instr.Class c.in-Ok.ensures.class ∙ ap (λ b. Instr.Class (Codepoint inner casei b)) (sym u) in
    wrote_class p call at_start in_hard _ _ room inner casei (ap (λ b. is_class b inner casei) u ∙ c.in-Ok.ensures.is_class)
    (subst (λ i. Writes (within_node p) (one i) [] (draft_of c.args.self.now) (draft_of c.push.new.self)) insn (c.push.ensures.writes (within_node p)))

pub returns-in-Err : goal.returns-in-Err
returns-in-Err c = λ p call at_start in_hard room u.
    let s = draft_of c.args.self.now in
    let inner = c.args.inner.now in
    let casei = c.args.casei in
    let k = written_code p call (plain.Delegate inner casei) at_start in_hard (length s.instrs) s.fresh in
    c.fail.ensures p k (plain.Delegate inner casei ∷ [])
    (class_refused p s inner casei c.in-Err.error (subst (λ b. IsClassRefusal b inner casei c.in-Err.error) (sym u) c.in-Err.ensures.refused) k)
