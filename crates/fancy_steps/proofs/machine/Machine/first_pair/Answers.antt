use Rattle.std.proofs.Common.{arith, ap₂, ◌∙◌, sym}
use Rattle.fancy_meaning.specs.Numbers.{usize_max}
use Rattle.fancy_meaning.specs.Machine.{flag_slot}
use Rattle.fancy_program.specs.Programs.{prog_of}
use Rattle.fancy_program.proofs.FitsLaws.{fits_two, flag_two}
use Rattle.fancy_steps.proofs.NumbersLaws.{first_two}
use Rattle.fancy_steps.proofs.machine.Machine.first_pair.Goals as goal

pub slot-requires : goal.slot-requires
slot-requires c =
    let prog = c.args.self.now.task.prog.now in
    omega (arith, c.args.self.now.sound.slots, fits_two (prog_of prog) prog.fits)

pub returns : goal.returns
returns c =
    let prog = prog_of c.args.self.now.task.prog.now in
    let two = first_two _ (flag_slot prog) usize_max (flag_two prog c.args.self.now.sound.implicit) in
    ap₂ (λ a b. (a, b)) (two.0 ∙ sym c.match_start.ensures) (two.1 ∙ sym c.slot.ensures)
