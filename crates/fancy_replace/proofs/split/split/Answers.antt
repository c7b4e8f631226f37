use Rattle.std.proofs.Common.{refl}
use Rattle.fancy_replace.proofs.split.split.Goals as goal

pub returns-clause-pieces : goal.returns-clause-pieces
returns-clause-pieces c =
    let pieces = c.all.ensures.pieces c.args.matcher.now in
    record { matcher = refl; name = refl; pieces = pieces; can = pieces.can }

pub returns-clause-join : goal.returns-clause-join
returns-clause-join c = c.all.ensures.join c.args.matcher.now
