use Rattle.std.proofs.Common.{◌<◌, [], ◌∙◌, ◌==◌, Some, ap, arith, length, if◌then◌else◌}
use Rattle.fancy_meaning.specs.Numbers.{usize_max}
use Rattle.fancy_meaning.specs.Premises.{plan}
use Rattle.fancy_matches.specs.Listing.{all_matches}
use Rattle.fancy_replace.proofs.Cutting.{first_pieces, pieces_within}
use Rattle.fancy_replace.proofs.Replacing.{most_join}
use Rattle.fancy_replace.proofs.pieces.Pieces.at_most.Goals as goal

pub returns-clause-pieces : goal.returns-clause-pieces
returns-clause-pieces c r =
    let text = c.args.text.now in
    let cuts = c.saturating_sub.result in
    record {
      pieces = λ i o h.
          ap (λ ps. if c.args.limit == 0 then [] else ps) (first_pieces i o text (Some cuts) c.new.result c.new.ensures)
          ∙ pieces_within text c.args.limit cuts (all_matches (plan i) text o) (omega (arith, c.saturating_sub.ensures));
      within = c.new.ensures.within;
      first = c.new.ensures.first;
      can = c.new.ensures.ahead r;
    }

pub returns-clause-join : goal.returns-clause-join
returns-clause-join c r i o h some =
    let text = c.args.text.now in
    let small : length text < usize_max = omega arith in
    most_join i o text c.args.limit (record { utf8 = c.utf8.text; fits = small }) some
