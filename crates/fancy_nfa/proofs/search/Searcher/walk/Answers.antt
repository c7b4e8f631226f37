use Rattle.std.proofs.Common.{sym, subst}
use Rattle.fancy_nfa_laws.specs.NfaSearch.{first_config}
use Rattle.fancy_nfa.specs.OnePass.{ComesPast, Walks, config_at}
use Rattle.fancy_nfa.proofs.OnePassLaws.{both_sure, ends_bare, finds_end, finds_none, stays}
use Rattle.fancy_nfa.proofs.search.Searcher.walk.Goals as goal

pub states-init : goal.states-init
states-init c = stays c.args.self.now (first_config c.args.ix)

pub states-preserved : goal.states-preserved
states-preserved c =
    let searcher = c.args.self.now in
    let start = first_config c.args.ix in
    let here = config_at start c.states.at c.states.place in
    let there = config_at start c.in-On.after c.in-On.end in
    subst (λ b. Walks searcher b start there) (sym c.are_both-is_sure.ensures)
    (both_sure searcher c.states.is_sure c.in-On.is_exact start here there c.states.invariant
    (subst (ComesPast searcher c.states.at c.states.place) c.in-On.is c.in_ok-after.ensures start))

pub returns-in-Ends : goal.returns-in-Ends
returns-in-Ends c =
    let searcher = c.args.self.now in
    let start = first_config c.args.ix in
    ends_bare searcher c.args.ix c.states.place
    (finds_end searcher c.states.is_sure c.args.ix (config_at start c.states.at c.states.place) c.states.invariant
    (subst (ComesPast searcher c.states.at c.states.place) c.in-Ends.is c.in_ok-after.ensures start))

pub returns-in-Fails : goal.returns-in-Fails
returns-in-Fails c =
    let searcher = c.args.self.now in
    let start = first_config c.args.ix in
    let here = config_at start c.states.at c.states.place in
    c.without_a_way.ensures.bare searcher c.args.ix
    (λ sure.
    finds_none searcher c.args.ix here (subst (λ b. Walks searcher b start here) sure c.states.invariant)
    (subst (ComesPast searcher c.states.at c.states.place) c.in-Fails.is c.in_ok-after.ensures start))
