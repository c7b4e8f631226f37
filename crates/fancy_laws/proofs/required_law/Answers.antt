use Rattle.std.proofs.Common.{refl}
use Rattle.fancy_laws.proofs.required_law.Goals as goal

pub returns : goal.returns
returns c = λ q whole body depths lo greedy s. refl
