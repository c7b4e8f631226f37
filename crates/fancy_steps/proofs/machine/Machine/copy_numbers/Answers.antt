use Rattle.std.proofs.Common.{arith, ap, length, length-take}
use Rattle.fancy_program.specs.Programs.{prog_of}
use Rattle.fancy_program.proofs.FitsLaws.{fits_flag}
use Rattle.fancy_steps.proofs.NumbersLaws.{numbers_are}
use Rattle.fancy_steps.proofs.machine.Machine.copy_numbers.Goals as goal

pub copy_slots-requires : goal.copy_slots-requires
copy_slots-requires c =
    let prog = c.args.self.now.task.prog.now in
    omega (arith, c.flag_slot-count.ensures, c.args.self.now.sound.slots, fits_flag (prog_of prog) prog.fits)

pub index_mut-requires : goal.index_mut-requires
index_mut-requires c =
    let prog = c.args.self.now.task.prog.now in
    let slots = c.args.self.now.state.held.slots in
    omega (
      arith,
      c.copy_slots.new.numbers.ok.0,
      ap length c.in_ok-copy_slots.ensures,
      length-take c.flag_slot-count.result slots,
      c.flag_slot-count.ensures,
      c.args.self.now.sound.slots,
      fits_flag (prog_of prog) prog.fits,
    )

pub returns-then-count-gt0 : goal.returns-then-count-gt0
returns-then-count-gt0 c =
    let prog = c.args.self.now.task.prog.now in
    let slots = c.args.self.now.state.held.slots in
    rw (c.in_ok-copy_slots.ensures, c.match_start.ensures, ← c.flag_slot-count.ensures)
    (numbers_are slots _ c.flag_slot-count.result (omega (arith, c.flag_slot-count.ensures, c.args.self.now.sound.slots, fits_flag (prog_of prog) prog.fits)))
