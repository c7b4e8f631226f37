use Rattle.std.proofs.Common.{◌<◌, None, length, arith}
use Rattle.fancy_meaning.specs.Numbers.{usize_max}
use Rattle.fancy_meaning.specs.Premises.{plan}
use Rattle.fancy_matches.proofs.Lists.{pieces_join}
use Rattle.fancy_replace.proofs.Cutting.{first_pieces}
use Rattle.fancy_replace.proofs.pieces.Pieces.all.Goals as goal

pub returns-clause-pieces : goal.returns-clause-pieces
returns-clause-pieces c r = record {
  pieces = λ i o h. first_pieces i o c.args.text.now None c.new.result c.new.ensures;
  within = c.new.ensures.within;
  first = c.new.ensures.first;
  can = c.new.ensures.ahead r;
}

pub returns-clause-join : goal.returns-clause-join
returns-clause-join c r i o h =
    let text = c.args.text.now in
    let small : length text < usize_max = omega arith in
    pieces_join (plan i) text o (record { utf8 = c.utf8.text; fits = small })
