use Rattle.std.proofs.Common.{sym}
use Rattle.fancy_pattern.specs.Grammar.{suffix, first_gives, no_suffix, a_suffix}
use Rattle.fancy_pattern.specs.Reading.{point_of}
use Rattle.fancy_pattern.proofs.Points.{takes_next, not_there}
use Rattle.fancy_pattern.proofs.reader.Reader.take_suffix.Goals as goal

pub returns-in-Some-clause-spells : goal.returns-in-Some-clause-spells
returns-in-Some-clause-spells c =
    a_suffix (takes_next suffix c.in-Some.found c.args.self.now c.skip.new.self (sym c.in-Some.ensures.value) c.skip.ensures.skips)

pub returns-in-None-clause-spells : goal.returns-in-None-clause-spells
returns-in-None-clause-spells c = no_suffix (not_there (first_gives suffix (point_of c.args.self.now)) (sym c.in-None.ensures.value))
