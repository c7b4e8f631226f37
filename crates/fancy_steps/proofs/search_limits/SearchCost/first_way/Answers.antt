use Rattle.fancy_steps.proofs.search_limits.SearchCost.first_way.Goals as goal

-- the budget changes nothing that is noted
pub first_way_with-way-requires-clause-memo : goal.first_way_with-way-requires-clause-memo
first_way_with-way-requires-clause-memo c =
    let memo = c.requires.memo in
    (memo.0, (c.limit.ensures.failed memo.0 memo.1.0, memo.1.1))
