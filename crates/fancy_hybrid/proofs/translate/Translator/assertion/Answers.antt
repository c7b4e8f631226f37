use Rattle.fancy_expr.specs.Views.{assertion_of}
use Rattle.fancy_hybrid.proofs.Nodes.{assertion_translated}
use Rattle.fancy_hybrid.proofs.translate.Translator.assertion.Goals as goal

pub returns : goal.returns
returns c =
    assertion_translated c.args.self.unicode c.args.first (assertion_of c.args.assertion) c.in_ok-look.look c.in_ok-look.ensures
