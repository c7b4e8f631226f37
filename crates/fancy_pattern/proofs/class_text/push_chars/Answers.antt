use Rattle.std.proofs.Common.{string_bytes}
use Rattle.fancy_pattern.proofs.MadeNodes.{char_added}
use Rattle.fancy_pattern.proofs.class_text.push_chars.Goals as goal

pub loop-c-preserved : goal.loop-c-preserved
loop-c-preserved c =
    char_added (string_bytes c.args.out.now) c.args.chars.now c.loop-c.c-index c.c-item.result (string_bytes c.loop-c.out) (string_bytes c.push.new.self)
    c.loop-c-test.true c.c-item.is c.loop-c.invariant c.in_ok-push.ensures.bytes
