use Rattle.std.proofs.Common.{sym, ap}
use Rattle.fancy_meaning.specs.Hard.{is_outside}
use Rattle.fancy_expr.specs.Walk.{within_of}
use Rattle.fancy_analysis.proofs.make.is_outside.Goals as goal

pub returns-in-NoLook : goal.returns-in-NoLook
returns-in-NoLook c = ap (λ w. is_outside (within_of w)) (sym c.in-NoLook.is)

pub returns-in-InLookAhead : goal.returns-in-InLookAhead
returns-in-InLookAhead c = ap (λ w. is_outside (within_of w)) (sym c.in-InLookAhead.is)

pub returns-in-InLookBehind : goal.returns-in-InLookBehind
returns-in-InLookBehind c = ap (λ w. is_outside (within_of w)) (sym c.in-InLookBehind.is)
