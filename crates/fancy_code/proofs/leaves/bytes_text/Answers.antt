use Rattle.std.proofs.Common.{◌++◌, encode_utf8, sym, ap, ◌∙◌, arith}
use Rattle.fancy_code.proofs.Alone.{bytes_more}
use Rattle.fancy_code.proofs.leaves.bytes_text.Goals as goal

pub loop-byte-preserved : goal.loop-byte-preserved
loop-byte-preserved c =
    c.in_ok-push.ensures.bytes ∙ ap (λ l. l ++ encode_utf8 c.from.result) c.loop-byte.invariant
    ∙ sym (bytes_more c.args.bytes.now c.loop-byte.byte-index c.from.result 0 (omega arith) c.from.ensures)
