use Rattle.std.proofs.Common.{◌≡◌, ◌++◌, [], ◌∙◌, ap, false, refl, rules}
use Rattle.fancy_info.specs.Infos.{info_tree}
use Rattle.fancy_analysis.specs.Links.{links_at}
use Rattle.fancy_analysis.proofs.SpotNodes.{links-whole}
use Rattle.fancy_analysis.proofs.links.links_of.Goals as goal

pub returns : goal.returns
returns c = λ whole tree sized.
    let none : c.new-links.result.items ≡ [] = search rules in
    let added = c.in_ok-add_links.ensures whole (record { owner = 0; position = 0; is_skipped = false })
    (record { owner = refl; at_start = refl; is_skipped = refl }) sized in
    added ∙ ap (λ l. l ++ links_at whole (record { owner = 0; position = 0; is_skipped = false }) (info_tree c.args.root.now)) none
    ∙ links-whole whole (info_tree c.args.root.now) tree
