use Rattle.std.proofs.Common.{sym, ap}
use Rattle.fancy_code.specs.Arounds.{behind_kind}
use Rattle.fancy_compile.proofs.looks.behind_kind.Goals as goal

pub returns-else-negative : goal.returns-else-negative
returns-else-negative c = ap (λ n. behind_kind n c.args.count) (sym c.if-negative.false)
