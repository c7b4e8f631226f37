use Rattle.std.proofs.Common.{sym, ap, ◌∙◌, rules, tests, take, filter}
use Rattle.std.specs.List.{count_by}
use Rattle.std.proofs.lemmas.Iterator.{YieldsList-from_slice, YieldsList-from_take}
use Rattle.std.proofs.lemmas.Iterator.Consumers.{YieldsList-from_filter, count_from_yields_List}
use Rattle.std.proofs.lemmas.List.Sums.{length-filter}
use Rattle.fancy_faults.specs.Leaves.{is_plain}
use Rattle.fancy_faults.proofs.Positions.{count_map, take_map}
use Rattle.fancy_faults.proofs.finder.leaves_before.Goals as goal

pub returns : goal.returns
returns c =
    let nodes = c.args.nodes.now in
    let some = take c.args.at nodes in
    count_from_yields_List _ c.count.result c.count.ensures.ran
    (YieldsList-from_filter _ (λ e. is_plain e.now) (YieldsList-from_take c.args.at (YieldsList-from_slice nodes cc) cc) c.filter.ensures.closure
    (λ x b q k. search (rules, tests)))
    ∙ length-filter (λ e. is_plain e.now) some ∙ sym (count_map (λ e. e.now) is_plain some)
    ∙ ap (count_by is_plain) (take_map (λ e. e.now) c.args.at nodes)
