use Rattle.std.proofs.Common.{ap, ◌∙◌}
use Rattle.fancy_analysis.specs.Names.{names_of}
use Rattle.fancy_replace.specs.Templates.{segments_text}
use Rattle.fancy_replace.proofs.Tokenizing.{plain_text}
use Rattle.fancy_replace.proofs.template.Template.new.Goals as goal

pub returns-clause-ok : goal.returns-clause-ok
returns-clause-ok c = ap segments_text c.in_ok-segments.ensures

pub returns-clause-itself : goal.returns-clause-itself
returns-clause-itself c none = ap segments_text c.in_ok-segments.ensures ∙ plain_text (names_of c.args.names.now.entries) c.args.text.now none
