use Rattle.std.proofs.Common.{ap, sym}
use Rattle.fancy_expr.specs.Walk.{within_of}
use Rattle.fancy_info.specs.Infos.{is_look}
use Rattle.fancy_info.proofs.info.Info.in_look_around.Goals as goal

pub returns-in-NoLook : goal.returns-in-NoLook
returns-in-NoLook c = ap (λ w. is_look (within_of w)) (sym c.in-NoLook.is)

pub returns-in-InLookAhead : goal.returns-in-InLookAhead
returns-in-InLookAhead c = ap (λ w. is_look (within_of w)) (sym c.in-InLookAhead.is)

pub returns-in-InLookBehind : goal.returns-in-InLookBehind
returns-in-InLookBehind c = ap (λ w. is_look (within_of w)) (sym c.in-InLookBehind.is)
