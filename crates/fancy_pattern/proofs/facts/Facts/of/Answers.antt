use Rattle.std.proofs.Common.{sym, ap, cond, arith}
use Rattle.fancy_pattern.specs.Described.{opens_group, names_number}
use Rattle.fancy_pattern.specs.Surveyed.{names_group}
use Rattle.fancy_pattern.specs.Spelling.{opens_named}
use Rattle.fancy_tokens.specs.PatternViews.{placed_of}
use Rattle.fancy_pattern.proofs.TokenTests.{any_more, counted_more}
use Rattle.fancy_pattern.proofs.facts.Facts.of.Goals as goal

pub loop-placed-preserved : goal.loop-placed-preserved
loop-placed-preserved c =
    let ts = c.args.tokens.now in
    let i = c.loop-placed.placed-index in
    let d = c.placed-item.result in
    let said = c.with_token-facts.ensures in
    let before = c.loop-placed.invariant in
    record {
      groups =
          counted_more (λ p. opens_group p.token) ts i d c.loop-placed.facts.groups _ _ c.loop-placed-test.true
          (ap (λ x. cond (opens_group (placed_of x).token) 1 0) c.placed-item.is) before.groups said.groups;
      few = let a = said.few in let b = before.few in omega (arith, a, b);
      by_number =
          any_more (λ p. names_number p.token) ts i d c.loop-placed.facts.by_number _ _ c.loop-placed-test.true
          (ap (λ x. names_number (placed_of x).token) (sym c.placed-item.is)) before.by_number said.by_number;
      named =
          any_more (λ p. names_group p.token) ts i d c.loop-placed.facts.names_group _ _ c.loop-placed-test.true
          (ap (λ x. names_group (placed_of x).token) (sym c.placed-item.is)) before.named said.names_group;
      has_names =
          any_more (λ p. opens_named p.token) ts i d c.loop-placed.facts.has_names _ _ c.loop-placed-test.true
          (ap (λ x. opens_named (placed_of x).token) (sym c.placed-item.is)) before.has_names said.has_names;
    }
