use Rattle.std.proofs.Common.{sym, ◌∙◌}
use Rattle.fancy_program.proofs.FitsLaws.{no_answer, no_end, all_else}
use Rattle.fancy_program.proofs.insn.ProgParts.fits.Goals as goal

pub returns-then-not-answer_fits : goal.returns-then-not-answer_fits
returns-then-not-answer_fits c = no_answer c.args.self.now c.args.body.now (sym (c.if-not-answer_fits.ensures c.args.body.now))

pub returns-then-not-ends : goal.returns-then-not-ends
returns-then-not-ends c = no_end c.args.self.now c.args.body.now (sym (c.if-not-answer_fits.ensures c.args.body.now)) (sym c.if-not-ends.ensures)

pub returns : goal.returns
returns c =
    c.all_fit.ensures ∙ all_else c.args.self.now c.args.body.now (sym (c.if-not-answer_fits.ensures c.args.body.now))
    (sym c.if-not-ends.ensures) c.flag_fits.result (c.flag_fits.ensures c.args.body.now)
