use Rattle.std.proofs.Common.{[], arith, refl}
use Rattle.std.proofs.lemmas.List.{length-map}
use Rattle.fancy_program.specs.Insns.{insn_of}
use Rattle.fancy_code.specs.Drafts.{draft_of}
use Rattle.fancy_code.proofs.Writing.{adds_to, extended_length}
use Rattle.fancy_code.proofs.writer.CodeWriter.push_over_slot.Goals as goal

pub returns : goal.returns
returns c = λ p. adds_to p p _ _ [] [] (draft_of c.args.self.now) (draft_of c.push.new.self) _ (omega arith)
    (λ e. record {
      instrs = e.instrs;
      fresh = omega (
        arith,
        c.len-before.ensures,
        c.len.ensures,
        c.push.ensures.fresh,
        extended_length _ _ _ e,
        length-map c.args.self.now.code.items insn_of,
        length-map c.push.new.self.code.items insn_of,
      );
    })
    (λ x. x) (λ x y. y) (c.push.ensures.writes p) refl refl
