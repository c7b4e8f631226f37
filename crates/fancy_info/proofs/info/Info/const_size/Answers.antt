use Rattle.std.proofs.Common.{refl}
use Rattle.fancy_info.proofs.info.Info.const_size.Goals as goal

pub returns : goal.returns
returns c = refl
