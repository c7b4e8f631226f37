use Rattle.fancy_hybrid.proofs.Nodes.{literal_translated}
use Rattle.fancy_hybrid.proofs.translate.Translator.literal.Goals as goal

pub returns : goal.returns
returns c =
    literal_translated c.args.self.unicode c.args.first c.args.c c.args.casei c.in_ok-of_literal.field-0 c.chars.result c.chars.ensures.hir
    c.chars.ensures.next c.in_ok-of_literal.ensures
