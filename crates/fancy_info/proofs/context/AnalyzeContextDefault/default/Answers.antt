use Rattle.std.proofs.Common.{refl}
use Rattle.fancy_info.proofs.context.AnalyzeContextDefault.default.Goals as goal

pub returns : goal.returns
returns c = refl
