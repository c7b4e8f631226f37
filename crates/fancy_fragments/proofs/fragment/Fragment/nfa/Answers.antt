use Rattle.fancy_fragments.proofs.FirstWays.{no_way_from, of_nodes, one_pass_from, one_pass_way_from}
use Rattle.fancy_fragments.proofs.fragment.Fragment.nfa.Goals as goal

pub returns-clause-nodes : goal.returns-clause-nodes
returns-clause-nodes c = of_nodes c.args.self.now

pub returns-clause-none : goal.returns-clause-none
returns-clause-none c = λ text ix h. no_way_from c.args.self.now text ix h

pub returns-clause-one_pass : goal.returns-clause-one_pass
returns-clause-one_pass c = λ text ix end h. one_pass_from c.args.self.now text ix end h

pub returns-clause-one_pass_way : goal.returns-clause-one_pass_way
returns-clause-one_pass_way c = λ text ix spans end h. one_pass_way_from c.args.self.now text ix spans end h
