use Rattle.std.proofs.Common.{false}
use Rattle.fancy_nfa_laws.specs.FirstWays.{no_pairs}
use Rattle.fancy_nfa.proofs.nfa.Nfa.clear.Goals as goal

pub returns-clause-memo : goal.returns-clause-memo
returns-clause-memo c = λ text. ((λ pair. false), (c.clear.ensures.failed, no_pairs))
