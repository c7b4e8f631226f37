use Rattle.fancy_hybrid.proofs.Nodes.{class_translated}
use Rattle.fancy_hybrid.proofs.translate.Translator.class.Goals as goal

pub returns-in-Some : goal.returns-in-Some
returns-in-Some c =
    class_translated c.args.self.unicode c.args.first c.args.name.now c.args.casei c.in-Some.class c.chars.result c.chars.ensures.hir
    c.chars.ensures.next (rw c.in-Some.is at c.in_ok-class.ensures)
