use Rattle.std.proofs.Common.{ap, ◌++◌, ◌∙◌, encode_utf8}
use Rattle.fancy_meaning.specs.Tree.{Literal}
use Rattle.fancy_pattern.proofs.MadeNodes.{literal-made}
use Rattle.fancy_pattern.proofs.OneChars.{one-char}
use Rattle.fancy_pattern.proofs.nodes.literal.Goals as goal

pub returns-clause-made : goal.returns-clause-made
returns-clause-made c =
    ap (λ k. Literal k c.args.casei)
    (literal-made c.args.c _ c.ranges.c.0 (c.in_ok-push.ensures.bytes ∙ ap (λ l. l ++ encode_utf8 c.args.c) c.in_ok-val.ensures.bytes))

pub returns-clause-one_char : goal.returns-clause-one_char
returns-clause-one_char c =
    (one-char c.args.c _ c.ranges.c.0 (c.in_ok-push.ensures.bytes ∙ ap (λ l. l ++ encode_utf8 c.args.c) c.in_ok-val.ensures.bytes), tt)
