use Rattle.std.proofs.Common.{map, ap, ◌∙◌, sym, refl}
use Rattle.std.proofs.lemmas.Bool.{eq-eqb}
use Rattle.fancy_meaning.specs.Tree.{trees}
use Rattle.fancy_info.specs.Infos.{node_over, info_tree, info_children, info_facts}
use Rattle.fancy_info.proofs.Unfolded.{tree_out}
use Rattle.fancy_analysis.proofs.SpotNodes.{at_group, late_group, no_group_late}
use Rattle.fancy_analysis.proofs.late_reads.is_read_late.Goals as goal

pub returns-in-Group : goal.returns-in-Group
returns-in-Group c = λ whole sized.
    let info = c.args.info.now in
    let f = info_facts info in
    ap (λ m. m.read_after) (c.meet_all.ensures whole (at_group f.start_group) sized (eq-eqb f.start_group f.start_group refl))
    ∙ late_group whole (info_tree info) f.start_group _ (tree_out info
    ∙ ap (λ e. node_over e f.start_group f.within (trees (map info_tree (info_children info)))) c.in-Group.is)

pub returns-in_default : goal.returns-in_default
returns-in_default c = λ whole sized. sym (no_group_late whole c.args.info.now c.in_default.not-Group)
