use Rattle.std.proofs.Common.{ap, ◌++◌, ◌∙◌, encode_utf8}
use Rattle.fancy_meaning.specs.Tree.{Literal}
use Rattle.fancy_expr.proofs.MadeTrees.{literal-made, one-char}
use Rattle.fancy_notation.proofs.reader.literal.Goals as goal

pub returns : goal.returns
returns c =
    let bytes = c.in_ok-push.ensures.bytes ∙ ap (λ l. l ++ encode_utf8 c.args.c) c.new-val.ensures.bytes in (
      ap (λ d. Literal d c.args.casei) (literal-made c.args.c _ c.ranges.c.0 bytes),
      (one-char c.args.c _ c.ranges.c.0 bytes, tt),
    )
