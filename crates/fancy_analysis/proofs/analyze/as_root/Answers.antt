use Rattle.std.proofs.Common.{◌&&◌, ◌||◌, ◌==◌, ap, ◌∙◌}
use Rattle.fancy_info.specs.Infos.{info_hard, info_size}
use Rattle.fancy_analysis.proofs.MadeNodes.{root_made}
use Rattle.fancy_analysis.proofs.analyze.as_root.Goals as goal

pub returns : goal.returns
returns c = λ a options within start tree analysed.
    let i = c.args.info in
    root_made a i c.is_root_hard-hard.result within start tree analysed
    (c.is_root_hard-hard.ensures ∙ ap (λ o. info_hard i || (o.end_text && (info_size i).least == 0)) options)
