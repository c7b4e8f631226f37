use Rattle.std.proofs.Common.{sym, ap}
use Rattle.fancy_meaning.specs.Assertions as meant
use Rattle.fancy_expr.specs.Views.{assertion_of}
use Rattle.fancy_characters.proofs.look.is_of_end.Goals as goal

pub returns-in-EndText : goal.returns-in-EndText
returns-in-EndText c = ap (λ a. meant.is_of_end (assertion_of a)) (sym c.in-EndText.is)
