use Rattle.std.proofs.Common.{refl}
use Rattle.fancy_info.proofs.info.Info.explicit_capture_group_0.Goals as goal

pub returns : goal.returns
returns c = refl
