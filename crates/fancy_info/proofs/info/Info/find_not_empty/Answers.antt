use Rattle.std.proofs.Common.{refl}
use Rattle.fancy_info.proofs.info.Info.find_not_empty.Goals as goal

pub returns : goal.returns
returns c = refl
