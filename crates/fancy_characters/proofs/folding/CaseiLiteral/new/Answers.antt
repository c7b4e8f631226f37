use Rattle.std.proofs.Common.{refl}
use Rattle.fancy_characters.proofs.folding.CaseiLiteral.new.Goals as goal

pub returns-clause-unicode : goal.returns-clause-unicode
returns-clause-unicode c = refl
