use Rattle.std.proofs.Common.{sym, ◌∙◌, drop}
use Rattle.fancy_pattern.proofs.Words.{no_text_common}
use Rattle.fancy_pattern.proofs.groups.skip_common.Goals as goal

pub returns-in_default : goal.returns-in_default
returns-in_default c =
    sym (no_text_common (drop c.loop-byte.byte-index c.args.word.now) c.loop-byte.rest.now (sym c.in_default.ensures.value)) ∙ c.loop-byte.invariant
