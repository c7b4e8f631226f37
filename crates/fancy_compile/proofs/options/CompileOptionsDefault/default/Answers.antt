use Rattle.std.proofs.Common.{refl}
use Rattle.fancy_compile.proofs.options.CompileOptionsDefault.default.Goals as goal

pub returns : goal.returns
returns c = refl
