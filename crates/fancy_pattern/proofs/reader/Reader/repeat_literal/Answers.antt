use Rattle.std.proofs.Common.{sym}
use Rattle.fancy_pattern.specs.Grammar.{quantifier, first_gives}
use Rattle.fancy_pattern.specs.Reading.{point_of}
use Rattle.fancy_pattern.proofs.Literals.{literal_alone, literal_repeated}
use Rattle.fancy_pattern.proofs.Points.{takes_next, not_there}
use Rattle.fancy_pattern.proofs.reader.Reader.repeat_literal.Goals as goal

pub returns-in-Some-clause-pushes : goal.returns-in-Some-clause-pushes
returns-in-Some-clause-pushes c =
    literal_repeated c.args.val c.args.casei c.in-Some.quantifier c.in-Some.greedy c.take_suffix-suffix.result c.args.self.now c.skip.new.self
    c.take_suffix-suffix.new.self c.args.nodes.now.items c.push_repeated.new.nodes.items c.push_repeated.result
    (takes_next quantifier (c.in-Some.quantifier, c.in-Some.greedy) c.args.self.now c.skip.new.self (sym c.in-Some.ensures.value) c.skip.ensures.skips)
    c.take_suffix-suffix.ensures.spells c.push_repeated.ensures

pub returns-in-None-clause-pushes : goal.returns-in-None-clause-pushes
returns-in-None-clause-pushes c =
    literal_alone c.args.val c.args.casei c.args.self.now c.args.nodes.now.items c.push_literal.new.nodes.items c.push_literal.result
    (not_there (first_gives quantifier (point_of c.args.self.now)) (sym c.in-None.ensures.value)) c.push_literal.ensures
