use Rattle.std.proofs.Common.{refl}
use Rattle.fancy_info.proofs.info.Info.end_text_option.Goals as goal

pub returns : goal.returns
returns c = refl
