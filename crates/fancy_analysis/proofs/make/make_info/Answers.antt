use Rattle.std.proofs.Common.{map, refl, ap, ◌∙◌}
use Rattle.fancy_info.specs.Infos.{info_size, info_hard, analysis_options_of}
use Rattle.fancy_expr.specs.Walk.{within_of}
use Rattle.fancy_info.specs.Sized.{size_of}
use Rattle.fancy_analysis.specs.Made.{size_over, hard_over, tables_known}
use Rattle.fancy_analysis.proofs.MadeNodes.{made}
use Rattle.fancy_analysis.proofs.make.make_info.Goals as goal

pub returns : goal.returns
returns c =
    let e = c.args.expr.now in
    let o = analysis_options_of c.args.tables.now.context in
    made c.args.tables.now _
    (c.node_size-size.ensures ∙ ap (λ l. size_over (tables_known c.args.tables.now) e (map info_size l)) c.deref.ensures.value)
    c.is_read_group-is_read.ensures
    (c.node_is_hard-hard.ensures
    ∙ ap (λ l. hard_over o e (within_of c.args.within) (size_of c.node_size-size.result) c.is_read_group-is_read.result
    (map info_hard l)) c.deref-2.ensures.value)
    refl
