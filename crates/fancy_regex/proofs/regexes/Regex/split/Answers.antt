use Rattle.std.proofs.Common.{refl}
use Rattle.fancy_regex.specs.Regexes.{engine_of}
use Rattle.fancy_regex.proofs.regexes.Regex.split.Goals as goal

pub returns-clause-pieces : goal.returns-clause-pieces
returns-clause-pieces c =
    let pieces = c.all.ensures.pieces (engine_of c.args.self.now) in
    record { regex = refl; name = refl; pieces = pieces; can = pieces.can }

pub returns-clause-join : goal.returns-clause-join
returns-clause-join c = c.all.ensures.join (engine_of c.args.self.now)
