use Rattle.std.proofs.Common.{sym}
use Rattle.fancy_pattern.specs.Grammar.{quantifier, first_gives}
use Rattle.fancy_pattern.specs.Reading.{point_of, alone}
use Rattle.fancy_pattern.proofs.Points.{not_there}
use Rattle.fancy_pattern.proofs.reader.Reader.read_quantifier.Goals as goal

pub returns-in-None-clause-pushes : goal.returns-in-None-clause-pushes
returns-in-None-clause-pushes c = λ below e h.
    record { read = e; adds = h; spelled = alone (not_there (first_gives quantifier (point_of c.args.self.now)) (sym c.in-None.ensures.value)) }
