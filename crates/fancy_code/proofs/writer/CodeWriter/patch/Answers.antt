use Rattle.std.proofs.Common.{List, ap}
use Rattle.std.proofs.lemmas.List.{map-set}
use Rattle.fancy_program.specs.Insns.{insn_of}
use Rattle.fancy_meaning.specs.Instr.{Instr}
use Rattle.fancy_code.specs.Drafts.{Draft, draft_of}
use Rattle.fancy_code.proofs.writer.CodeWriter.patch.Goals as goal

pub returns-then-at-len : goal.returns-then-at-len
returns-then-at-len c =
    let old = draft_of c.args.self.now in
    let with_instrs : List Instr → Draft = λ l. record old { instrs = l } in
    ap with_instrs (map-set insn_of c.args.self.now.code.items c.args.at c.args.insn)
