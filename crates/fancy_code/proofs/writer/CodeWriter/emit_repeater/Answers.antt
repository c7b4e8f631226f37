use Rattle.std.proofs.Common.{[], ◌∷◌, length, sym, ap, ◌∙◌, subst}
use Rattle.fancy_info.specs.Infos.{info_tree}
use Rattle.fancy_meaning.specs.Code.{one}
use Rattle.fancy_nfa.specs.Nfas.{HaveClasses, IsRefusedFor}
use Rattle.fancy_program.specs.Insns.{insn_of}
use Rattle.fancy_code.specs.Batches.{easy_repeater}
use Rattle.fancy_code.specs.Drafts.{draft_of, Writes}
use Rattle.fancy_code.proofs.EasyClasses.{wrote_easy, refused_easy}
use Rattle.fancy_code.proofs.writer.CodeWriter.emit_repeater.Goals as goal

pub returns-in-Ok : goal.returns-in-Ok
returns-in-Ok c = λ p u easy room.
    let is = c.args.body.now ∷ [] in
    let es = info_tree c.args.body.now ∷ [] in
    let s = draft_of c.args.self.now in
    let t = draft_of c.push.new.self in
    let code = c.in-Ok.ensures.value ∙ ap (λ b. easy_repeater b (info_tree c.args.body.now)) (sym u) in
    subst (λ i. Writes p (one i) es s t) code
    (wrote_easy p is (easy, tt) (subst (λ b. HaveClasses b is) (sym u) c.in-Ok.ensures.classes) room (one (insn_of c.in-Ok.insn)) s t (c.push.ensures.writes p))

pub returns-in-Err : goal.returns-in-Err
returns-in-Err c = λ p u easy room.
    let is = c.args.body.now ∷ [] in
    let es = info_tree c.args.body.now ∷ [] in
    let s = draft_of c.args.self.now in
    let a = one (easy_repeater p.unicode (info_tree c.args.body.now)) (length s.instrs) s.fresh in
    c.fail.ensures p a es
    (refused_easy p is a s c.in-Err.error (subst (λ b. IsRefusedFor b is c.in-Err.error) (sym u) c.in-Err.ensures.refused))
