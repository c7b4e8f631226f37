use Rattle.std.proofs.Common.{ap₂}
use Rattle.fancy_matches.specs.Listing.{options_for}
use Rattle.fancy_scanner.proofs.scanner.ScanTree.new.Goals as goal

pub returns : goal.returns
returns c = λ text.
    let made = c.in_ok-matcher.ensures.made in
    record {
      matcher = record { compiled = made.compiled; options = ap₂ (λ o asked. options_for o asked text) made.options made.backtracks };
      reuse = c.of-reuse.ensures;
      limits = c.in_ok-matcher.ensures.limits;
    }
