use Rattle.std.proofs.Common.{◌==◌, None, if◌then◌else◌, sym, ap, ◌∙◌, rules, tests, filter}
use Rattle.std.specs.List.{position}
use Rattle.std.proofs.lemmas.Iterator.{YieldsList-from_slice}
use Rattle.std.proofs.lemmas.Iterator.Consumers.{YieldsList-from_filter, count_from_yields_List}
use Rattle.std.proofs.lemmas.Iterator.Search.{position_from_yields_List}
use Rattle.std.proofs.lemmas.List.Sums.{length-filter}
use Rattle.fancy_faults.specs.Blame.{is_call}
use Rattle.fancy_faults.specs.Known.{exprs_of}
use Rattle.fancy_faults.proofs.Positions.{position_map, count_map}
use Rattle.fancy_faults.proofs.finder.only_call.Goals as goal

pub returns-then-count-eq1 : goal.returns-then-count-eq1
returns-then-count-eq1 c =
    let nodes = c.args.nodes.now in
    let count =
    count_from_yields_List _ c.count.result c.count.ensures.ran
    (YieldsList-from_filter _ (λ e. is_call e.now) (YieldsList-from_slice nodes cc) c.filter.ensures.closure (λ x b q k. search (rules, tests)))
    ∙ length-filter (λ e. is_call e.now) nodes ∙ sym (count_map (λ e. e.now) is_call nodes) in
    let place =
    position_from_yields_List (λ e. is_call e.now) _ _ c.position.result c.position.ensures.ran (YieldsList-from_slice nodes cc)
    (λ x b q k. search (rules, tests))
    ∙ sym (position_map (λ e. e.now) is_call nodes) in
    place ∙ sym (ap (λ n. if n == 1 then position is_call (exprs_of nodes) else None) (sym count ∙ c.if-count-eq1.true))
