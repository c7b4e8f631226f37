use Rattle.std.proofs.Common.{sym, subst}
use Rattle.fancy_pattern.specs.Grammar.{SpellsAlternatives}
use Rattle.fancy_pattern.specs.Naming.{pairs_in}
use Rattle.fancy_pattern.specs.Reading.{point_of}
use Rattle.fancy_pattern.proofs.reader.Reader.read_tree.Goals as goal

pub returns-clause-spells : goal.returns-clause-spells
returns-clause-spells c =
    let read = c.in_ok-read_alternatives.ensures.pushes in
    let taken = c.popped.ensures c.new-nodes.result.items read.read read.adds in
    subst (SpellsAlternatives (pairs_in c.args.names.now.pairs) (point_of c.args.self.now) (point_of c.read_alternatives.new.self))
    (sym taken.made) read.spelled

pub returns-clause-one_char : goal.returns-clause-one_char
returns-clause-one_char c =
    let read = c.in_ok-read_alternatives.ensures.pushes in
    (c.popped.ensures c.new-nodes.result.items read.read read.adds).one_char
