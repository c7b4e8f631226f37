use Rattle.std.proofs.Common.{arith, refl}
use Rattle.fancy_program.specs.Programs.{prog_of}
use Rattle.fancy_program.proofs.FitsLaws.{fits_explicit, fits_implicit}
use Rattle.fancy_program.proofs.insn.Prog.flag_slot.Goals as goal
use Rattle.fancy_program.proofs.insn.Prog.flag_slot.Goals.{then-parts, else-parts}

pub overflow_add-result : goal.overflow_add-result
overflow_add-result c = omega (arith, fits_implicit (prog_of c.args.self.now) c.args.self.now.fits c.if-parts.false)

pub overflow_mul-result : goal.overflow_mul-result
overflow_mul-result c =
    elim c.if-parts.branch [
      | then-parts w ↦ omega (arith, w.result-is, fits_explicit (prog_of c.args.self.now) c.args.self.now.fits w.if-parts.true)
      | else-parts w ↦ omega (arith, w.result-is, fits_implicit (prog_of c.args.self.now) c.args.self.now.fits w.if-parts.false)
    ]

pub returns : goal.returns
returns c =
    elim c.if-parts.branch [
      | then-parts w ↦ rw (w.result-is, w.if-parts.true) refl
      | else-parts w ↦ rw (w.result-is, w.if-parts.false) refl
    ]
