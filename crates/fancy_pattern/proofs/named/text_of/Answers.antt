use Rattle.std.proofs.Common.{string_bytes}
use Rattle.fancy_pattern.proofs.NamedGroups.{one_char_more}
use Rattle.fancy_pattern.proofs.named.text_of.Goals as goal

pub loop-c-preserved : goal.loop-c-preserved
loop-c-preserved c =
    one_char_more c.args.chars.now c.loop-c.c-index c.c-item.result (string_bytes c.loop-c.text) (string_bytes c.push.new.self) c.loop-c-test.true
    c.c-item.is c.loop-c.invariant c.in_ok-push.ensures.bytes
