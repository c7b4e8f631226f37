use Rattle.fancy_hybrid.proofs.Nodes.{any_translated}
use Rattle.fancy_hybrid.proofs.translate.Translator.any.Goals as goal

pub returns : goal.returns
returns c =
    any_translated c.args.self.unicode c.args.first c.args.newline c.args.crlf c.in_ok-of_any.field-0 c.chars.result c.chars.ensures.hir
    c.chars.ensures.next c.in_ok-of_any.ensures
