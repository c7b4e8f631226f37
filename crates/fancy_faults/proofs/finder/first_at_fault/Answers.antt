use Rattle.std.proofs.Common.{sym, ◌∙◌, rules, tests}
use Rattle.std.proofs.lemmas.Iterator.{YieldsList-from_slice}
use Rattle.std.proofs.lemmas.Iterator.Search.{position_from_yields_List}
use Rattle.fancy_faults.specs.Blame.{is_at_fault}
use Rattle.fancy_faults.proofs.Positions.{position_map}
use Rattle.fancy_faults.proofs.finder.first_at_fault.Goals as goal

pub returns : goal.returns
returns c =
    let test = is_at_fault c.args.whole c.args.refused.now in
    position_from_yields_List (λ e. test e.now) _ _ c.position.result c.position.ensures.ran (YieldsList-from_slice c.args.nodes.now cc)
    (λ x b q k. search (rules, tests))
    ∙ sym (position_map (λ e. e.now) test c.args.nodes.now)
