use Rattle.std.proofs.Common.{map, ap, sym, subst}
use Rattle.fancy_tokens.specs.PatternViews.{placed_of}
use Rattle.fancy_pattern.specs.Spelling.{HasTokens}
use Rattle.fancy_pattern.proofs.pattern.tree_of_chars.Goals as goal

pub returns-clause-made : goal.returns-clause-made
returns-clause-made c =
    c.tree_of_tokens.ensures.made c.args.options c.args.chars.now
    (subst (HasTokens c.args.options c.args.chars.now c.in_ok-placed.ignored) (ap (map placed_of) (sym c.deref.ensures.value)) c.in_ok-placed.ensures)

pub returns-clause-fails : goal.returns-clause-fails
returns-clause-fails c =
    c.tree_of_tokens.ensures.fails c.args.options c.args.chars.now
    (subst (HasTokens c.args.options c.args.chars.now c.in_ok-placed.ignored) (ap (map placed_of) (sym c.deref.ensures.value)) c.in_ok-placed.ensures)
