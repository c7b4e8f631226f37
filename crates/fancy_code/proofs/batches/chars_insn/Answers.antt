use Rattle.std.proofs.Common.{◌++◌, false, encode_utf8, get_or, sym, ap, ◌∙◌, refl}
use Rattle.fancy_code.proofs.Collected.{text_more}
use Rattle.fancy_code.proofs.batches.chars_insn.Goals as goal

pub loop-c-preserved : goal.loop-c-preserved
loop-c-preserved c =
    let l = c.deref-c-items.result.now in
    let i = c.loop-c.c-index in
    c.in_ok-push.ensures.bytes ∙ ap (λ t. t ++ encode_utf8 (get_or l i (0, false)).0) c.loop-c.invariant
    ∙ sym (text_more l i (get_or l i (0, false)) (0, false) c.loop-c-test.true refl)
