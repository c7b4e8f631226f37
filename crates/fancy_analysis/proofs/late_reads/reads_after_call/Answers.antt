use Rattle.std.proofs.Common.{◌∙◌, ap, sym}
use Rattle.std.specs.List.{list_any}
use Rattle.fancy_meaning.specs.Nodes.{nodes}
use Rattle.fancy_analysis.specs.LateReads.{is_read_late}
use Rattle.fancy_analysis.proofs.SpotNodes.{read_late, no_read_late}
use Rattle.fancy_analysis.proofs.late_reads.reads_after_call.Goals as goal

pub returns : goal.returns
returns c = λ whole tree sized.
    let is = sym (c.has_late_read.ensures whole sized ∙ ap (λ t. list_any (is_read_late whole) (nodes t)) tree) in
    (λ late. read_late whole (is ∙ late), λ none. no_read_late whole (is ∙ none))
