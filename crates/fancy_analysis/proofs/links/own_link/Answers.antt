use Rattle.std.proofs.Common.{sym, ap, ◌∙◌}
use Rattle.fancy_info.specs.Infos.{nth, node_over}
use Rattle.fancy_analysis.specs.Links.{link_from}
use Rattle.fancy_analysis.proofs.links.own_link.Goals as goal

pub returns-in-Group : goal.returns-in-Group
returns-in-Group c = λ a w es at. c.group.ensures a (nth es 0) at ∙ sym (ap (λ x. link_from (node_over x c.args.number w es) a) c.in-Group.is)
