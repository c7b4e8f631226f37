use Rattle.std.proofs.Common.{◌∷◌, refl, sym, subst}
use Rattle.fancy_nfa_laws.specs.NfaSearch.{first_config}
use Rattle.fancy_nfa.specs.OnePass.{ComesPast, Walks, closed_at, config_at, opened_at}
use Rattle.fancy_nfa.proofs.OnePassLaws.{both_sure, finds_end, finds_none, onward, stays}
use Rattle.fancy_nfa.proofs.search.Searcher.walk_groups.Goals as goal

pub states-init : goal.states-init
states-init c = (first_config c.args.ix, (stays c.args.self.now (first_config c.args.ix), c.requires.groups))

pub states-preserved-in-On : goal.states-preserved-in-On
states-preserved-in-On c =
    let searcher = c.args.self.now in
    let start = first_config c.args.ix in
    let s = c.states.invariant.0 in
    let here = config_at s c.states.at c.states.here in
    let there = config_at s c.in-On.after c.in-On.end in (
      s,
      (
        subst (λ b. Walks searcher b start there) (sym c.are_both-is_sure.ensures)
            (both_sure searcher c.states.is_sure c.in-On.is_exact start here there c.states.invariant.1.0
            (subst (ComesPast searcher c.states.at c.states.here) c.in-On.is c.in_ok-after.ensures s)),
        c.states.invariant.1.1,
      ),
    )

pub states-preserved-in-Opens : goal.states-preserved-in-Opens
states-preserved-in-Opens c =
    let searcher = c.args.self.now in
    let start = first_config c.args.ix in
    let s = c.states.invariant.0 in
    let place = c.states.here in
    let there = opened_at s c.in-Opens.after place in (
      there,
      (
        onward searcher c.states.is_sure start (config_at s c.states.at place) there c.states.invariant.1.0
            (subst (ComesPast searcher c.states.at place) c.in-Opens.is c.in_ok-after.ensures s),
        c.in_ok-open-in-Opens.ensures s.opened s.spans c.states.invariant.1.1,
      ),
    )

pub states-preserved : goal.states-preserved
states-preserved c =
    let searcher = c.args.self.now in
    let start = first_config c.args.ix in
    let s = c.states.invariant.0 in
    let place = c.states.here in
    let closed = c.in_ok-close-in-Closes.ensures c.if-not-branch.false s.opened s.spans c.states.invariant.1.1 in
    let from = closed.0 in
    let rest = closed.1.0 in
    let there = closed_at s c.in-Closes.group from rest c.in-Closes.after place in (
      there,
      (
        onward searcher c.states.is_sure start (config_at s c.states.at place) there c.states.invariant.1.0
            (subst (ComesPast searcher c.states.at place) c.in-Closes.is c.in_ok-after.ensures s (from ∷ rest) closed.1.1.0),
        closed.1.1.1,
      ),
    )

pub returns-in-Ends : goal.returns-in-Ends
returns-in-Ends c =
    let searcher = c.args.self.now in
    let s = c.states.invariant.0 in
    let here = config_at s c.states.at c.states.here in
    let found = finds_end searcher c.states.is_sure c.args.ix here c.states.invariant.1.0
    (subst (ComesPast searcher c.states.at c.states.here) c.in-Ends.is c.in_ok-after.ensures s) in
    (config_at here found.0 here.place, (found.1, refl, c.states.invariant.1.1.1))

pub returns-in-Fails : goal.returns-in-Fails
returns-in-Fails c =
    let searcher = c.args.self.now in
    let start = first_config c.args.ix in
    let s = c.states.invariant.0 in
    let here = config_at s c.states.at c.states.here in
    c.without_a_way.ensures.grouped searcher c.args.ix c.states.groups
    (λ sure.
    finds_none searcher c.args.ix here (subst (λ b. Walks searcher b start here) sure c.states.invariant.1.0)
    (subst (ComesPast searcher c.states.at c.states.here) c.in-Fails.is c.in_ok-after.ensures s))
