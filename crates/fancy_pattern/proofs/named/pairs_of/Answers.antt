use Rattle.std.proofs.Common.{ℕ, List, ◌++◌, String, Global, string_bytes, map, ap, sym, ◌∙◌}
use Rattle.fancy_pattern.specs.Naming.{pairs_in, named_of}
use Rattle.fancy_tokens.specs.PatternViews.{placed_of}
use Rattle.fancy_pattern.proofs.NamedGroups.{one_token_more, unnamed}
use Rattle.fancy_pattern.proofs.named.pairs_of.Goals as goal

pub loop-placed-preserved : goal.loop-placed-preserved
loop-placed-preserved c =
    one_token_more c.args.tokens.now c.loop-placed.placed-index c.placed-item.result (pairs_in c.loop-placed.pairs) (pairs_in c.push_named.new.pairs)
    c.loop-placed-test.true c.loop-placed.invariant
    (c.in_ok-push_named.ensures ∙ ap (λ x. pairs_in c.loop-placed.pairs ++ named_of (placed_of x).token) c.placed-item.is)

pub returns-then-not-has_names : goal.returns-then-not-has_names
returns-then-not-has_names c =
    ap (λ (l : List (String Global × ℕ)). map (λ p. (string_bytes p.0, p.1)) l) c.new-pairs.ensures.items
    ∙ sym (unnamed (map placed_of c.args.tokens.now) (sym c.requires ∙ c.if-not-has_names.true))
