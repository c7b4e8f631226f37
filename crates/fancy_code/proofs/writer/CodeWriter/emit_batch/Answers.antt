use Rattle.std.proofs.Common.{length, map, sym, ap, ◌∙◌, subst}
use Rattle.fancy_info.specs.Infos.{info_tree}
use Rattle.fancy_meaning.specs.Batches.{batch}
use Rattle.fancy_meaning.specs.Code.{nothing, one}
use Rattle.fancy_nfa.specs.Nfas.{HaveClasses, IsRefusedFor}
use Rattle.fancy_program.specs.Insns.{insn_of}
use Rattle.fancy_code.specs.Batches.{code_of}
use Rattle.fancy_code.specs.Drafts.{draft_of, Writes}
use Rattle.fancy_code.proofs.EasyClasses.{wrote_easy, refused_easy}
use Rattle.fancy_code.proofs.Writing.{wrote_nothing}
use Rattle.fancy_code.proofs.writer.CodeWriter.emit_batch.Goals as goal

pub returns-in-Ok-Some : goal.returns-in-Ok-Some
returns-in-Ok-Some c = λ p u each room.
    let is = c.args.infos.now in
    let s = draft_of c.args.self.now in
    let t = draft_of c.push.new.self in
    let code = ap code_of (sym c.in-Ok-Some.field-0-is) ∙ c.in-Ok-Some.ensures.value ∙ ap (λ b. batch b (map info_tree is)) (sym u) in
    subst (λ k. Writes p k (map info_tree is) s t) code
    (wrote_easy p is each (subst (λ b. HaveClasses b is) (sym u) c.in-Ok-Some.ensures.classes) room
    (one (insn_of c.in-Ok-Some.insn)) s t (c.push.ensures.writes p))

pub returns-in-Ok-None : goal.returns-in-Ok-None
returns-in-Ok-None c = λ p u each room.
    let is = c.args.infos.now in
    let s = draft_of c.args.self.now in
    let code = ap code_of (sym c.in-Ok-None.field-0-is) ∙ c.in-Ok-None.ensures.value ∙ ap (λ b. batch b (map info_tree is)) (sym u) in
    subst (λ k. Writes p k (map info_tree is) s s) code
    (wrote_easy p is each (subst (λ b. HaveClasses b is) (sym u) c.in-Ok-None.ensures.classes) room nothing s s (wrote_nothing p s))

pub returns-in-Err : goal.returns-in-Err
returns-in-Err c = λ p u each room.
    let is = c.args.infos.now in
    let s = draft_of c.args.self.now in
    let a = batch p.unicode (map info_tree is) (length s.instrs) s.fresh in
    c.fail.ensures p a (map info_tree is)
    (refused_easy p is a s c.in-Err.error (subst (λ b. IsRefusedFor b is c.in-Err.error) (sym u) c.in-Err.ensures.refused))
