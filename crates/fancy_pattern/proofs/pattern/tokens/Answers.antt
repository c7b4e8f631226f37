use Rattle.std.proofs.Common.{map, ap}
use Rattle.fancy_tokens.specs.PatternViews.{placed_of}
use Rattle.fancy_pattern.proofs.Spelled.{every_token, named_tokens}
use Rattle.fancy_pattern.proofs.pattern.tokens.Goals as goal

pub returns-then-ignores : goal.returns-then-ignores
returns-then-ignores c =
    named_tokens c.args.options c.args.chars.now c.flags.result c.flags-then-ignores.result c.ignores.result (map placed_of c.in_ok-tokens.tokens.items)
    (map placed_of c.deref.result.now) (map placed_of c.in_ok-tokens-2.field-0.items) c.flags.ensures c.in_ok-tokens.ensures c.ignores.ensures
    (ap (map placed_of) c.deref.ensures.value) c.if-ignores.true c.flags-then-ignores.ensures c.in_ok-tokens-2.ensures

pub returns : goal.returns
returns c =
    every_token c.args.options c.args.chars.now c.flags.result c.ignores.result (map placed_of c.in_ok-tokens.tokens.items)
    (map placed_of c.deref.result.now) c.flags.ensures c.in_ok-tokens.ensures c.ignores.ensures (ap (map placed_of) c.deref.ensures.value) c.if-ignores.false
