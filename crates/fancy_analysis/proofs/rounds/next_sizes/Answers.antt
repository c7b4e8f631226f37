use Rattle.std.proofs.Common.{◌+◌, ◌∙◌, length, map, replicate, slice_set, refl, ap, arith}
use Rattle.std.proofs.lemmas.List.{map-set}
use Rattle.fancy_meaning.specs.Sizes.{size_by, unknown}
use Rattle.fancy_meaning.specs.Tree.{NoLook}
use Rattle.fancy_expr.proofs.Numbered.{count-numbered}
use Rattle.fancy_expr.specs.Views.{tree_of}
use Rattle.fancy_info.specs.Infos.{info_size, info_tree}
use Rattle.fancy_info.specs.Sized.{size_of}
use Rattle.fancy_analysis.specs.Made.{tables_known, with_sizes}
use Rattle.fancy_analysis.proofs.MadeNodes.{sized_here}
use Rattle.fancy_analysis.proofs.RoundSizes.{round_set}
use Rattle.fancy_analysis.proofs.SearchSteps.{written_back}
use Rattle.fancy_analysis.proofs.rounds.next_sizes.Goals as goal

pub returns : goal.returns
returns c =
    let known = tables_known c.args.tables.now in
    let t = tree_of c.args.tree.now.expr in
    let info = c.in_ok-info.info in
    let visited = c.in_ok-info.ensures in
    let sized = visited.size known (λ x there g is. refl) in
    let sizes = c.in_ok-sizes.sizes in
    let count = c.args.tree.now.total_groups + 1 in
    map-set size_of _ 0 _
    ∙ ap (λ l. slice_set l 0 (info_size info)) (
    ap (map size_of) (written_back sizes.len _ c.set_sizes.new.table (omega (arith, c.set_sizes.auto.table, ap length c.deref_mut.ensures.value, sizes.ok.0)))
    ∙ c.set_sizes.ensures known sized
    ∙ ap (λ l. with_sizes known l (info_tree info)) (ap (map size_of) c.deref_mut.ensures.value ∙ c.in_ok-sizes.ensures)
    ∙ ap (with_sizes known (replicate count unknown)) visited.tree)
    ∙ round_set known c.args.first NoLook t count (info_size info) (omega (arith, c.requires.groups, count-numbered NoLook c.args.first t))
    (sized_here known info sized ∙ ap (size_by known) visited.tree)
