use Rattle.std.proofs.Common.{◌++◌, map, ap, ◌∙◌, rules, tests}
use Rattle.std.specs.List.{position}
use Rattle.std.proofs.lemmas.Iterator.{YieldsList-from_slice}
use Rattle.std.proofs.lemmas.Iterator.Search.{position_from_yields_List}
use Rattle.fancy_info.specs.Infos.{info_tree}
use Rattle.fancy_meaning.specs.Nodes.{nodes}
use Rattle.fancy_faults.specs.Blame.{is_variable_look_behind}
use Rattle.fancy_faults.proofs.Positions.{position_map}
use Rattle.fancy_faults.proofs.finder.look_behind_at.Goals as goal

pub returns : goal.returns
returns c = λ a known.
    let test = is_variable_look_behind a.tree in
    position_from_yields_List (λ b. b) _ _ c.position.result c.position.ensures.ran (YieldsList-from_slice c.deref.result.now cc)
    (λ x b q k. search (rules, tests))
    ∙ ap (position (λ b. b)) (c.deref.ensures.value ∙ c.in_ok-push_look_behinds.ensures a known
    ∙ ap (λ l. l ++ map test (nodes (info_tree c.args.info.now))) c.new-marks.ensures.items)
    ∙ position_map test (λ b. b) (nodes (info_tree c.args.info.now))
