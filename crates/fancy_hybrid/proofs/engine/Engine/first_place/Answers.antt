use Rattle.fancy_hybrid.proofs.Leftmost.{first_member}
use Rattle.fancy_hybrid.proofs.engine.Engine.first_place.Goals as goal

pub returns-in-Some-clause-skipped : goal.returns-in-Some-clause-skipped
returns-in-Some-clause-skipped c = λ re searches.
    first_member c.args.self.now.dfa.nfa re searches c.args.text.now c.args.self.now.first c.in-Some.set c.args.self.now.begins c.in-Some.is
    c.args.start c.find_near.result c.find_near.ensures
