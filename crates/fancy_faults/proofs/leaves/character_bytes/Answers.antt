use Rattle.std.proofs.Common.{◌+◌, ◌++◌, ◌∷◌, [], map, length, ap, ◌∙◌, arith}
use Rattle.fancy_meaning.specs.Places.{range_from}
use Rattle.fancy_faults.specs.Leaves.{byte_of}
use Rattle.fancy_faults.proofs.Spans.{one_byte_more, next_byte, byte_fits}
use Rattle.fancy_faults.proofs.leaves.character_bytes.Goals as goal

pub loop-c-preserved : goal.loop-c-preserved
loop-c-preserved c =
    let text = c.args.text.now in
    let n = c.loop-c.c-index in
    let so_far = map (byte_of text) (range_from 0 n) in
    let are = c.deref-c-items.ensures.value ∙ c.in_ok-chars.ensures in
    let next = next_byte text c.deref-c-items.result.now n c.c-item.result are c.loop-c-test.true c.c-item.is in
    record {
      bytes = c.in_ok-push.ensures.items ∙ ap (λ l. l ++ c.loop-c.at ∷ []) c.loop-c.invariant.bytes
          ∙ ap (λ x. so_far ++ x ∷ []) c.loop-c.invariant.at ∙ one_byte_more text n;
      at = omega (arith, c.saturating_add-at.ensures, c.loop-c.invariant.at, c.len_utf8.ensures.len, next, byte_fits text (n + 1) c.utf8.text);
    }

pub returns : goal.returns
returns c =
    let are = c.deref-c-items.ensures.value ∙ c.in_ok-chars.ensures in
    c.loop-c.invariant.bytes
    ∙ ap (λ n. map (byte_of c.args.text.now) (range_from 0 n)) (omega (arith, c.loop-c-test.false, c.loop-c.auto.c-index-end, ap length are))
