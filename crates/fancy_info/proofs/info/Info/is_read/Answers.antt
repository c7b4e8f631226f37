use Rattle.std.proofs.Common.{refl}
use Rattle.fancy_info.proofs.info.Info.is_read.Goals as goal

pub returns : goal.returns
returns c = refl
