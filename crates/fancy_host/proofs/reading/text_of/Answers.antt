use Rattle.std.proofs.Common.{◌∙◌, sym}
use Rattle.fancy_host.proofs.Answered.{another_size, no_text}
use Rattle.fancy_host.proofs.reading.text_of.Goals as goal

pub returns-then-not-has_size : goal.returns-then-not-has_size
returns-then-not-has_size c =
    another_size c.args.bytes.now c.args.options.now c.coded.result (sym c.has_size.ensures ∙ c.if-not-has_size.true) c.coded.ensures

pub returns-in-Ok : goal.returns-in-Ok
returns-in-Ok c = (c.in-Ok.ensures.cases.0, sym c.has_size.ensures ∙ c.if-not-has_size.false, c.in-Ok.ensures.cases.1)

pub returns-in-Err : goal.returns-in-Err
returns-in-Err c =
    no_text c.args.bytes.now c.args.options.now c.not_utf8.result (sym c.has_size.ensures ∙ c.if-not-has_size.false) c.valid_up_to.result
    c.in-Err.ensures.cases.0 c.not_utf8.ensures (c.valid_up_to.ensures ∙ c.in-Err.ensures.valid_len)
