use Rattle.std.proofs.Common.{◌<◌, length, drop, arith, sym, ◌∙◌, length-drop}
use Rattle.fancy_pattern.proofs.Words.{no_text_left}
use Rattle.fancy_pattern.proofs.characters.skip_word.Goals as goal

pub returns-in_err-c-clause-value : goal.returns-in_err-c-clause-value
returns-in_err-c-clause-value c =
    let left : 0 < length (drop c.loop-byte.byte-index c.args.word.now) = omega (arith, length-drop c.loop-byte.byte-index c.args.word.now) in
    let none = no_text_left (drop c.loop-byte.byte-index c.args.word.now) c.loop-byte.rest.now (sym c.in_err-c.ensures.value) left in
    rw c.from_residual.ensures (sym none ∙ c.loop-byte.invariant.0)
