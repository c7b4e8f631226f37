use Rattle.std.proofs.Common.{false}
use Rattle.fancy_nfa.proofs.FirstWayLaws.{counted_by}
use Rattle.fancy_fragments.proofs.first_way.first_way.Goals as goal

pub returns-clause-visits : goal.returns-clause-visits
returns-clause-visits c =
    counted_by c.args.text.now c.args.fragment.now.nfa c.args.ix c.memo-memo.result (λ pair. false) c.memo-memo.ensures.knows
    c.first_way_with.result c.first_way_with.ensures.visits
