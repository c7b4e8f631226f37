use Rattle.fancy_hybrid.proofs.Nodes.{group_translated}
use Rattle.fancy_hybrid.proofs.translate.Translator.group.Goals as goal

pub returns : goal.returns
returns c = λ e t. group_translated c.args.self.unicode c.args.number e c.args.sub c.in_ok-new.field-0 c.in_ok-new.ensures.ok t
