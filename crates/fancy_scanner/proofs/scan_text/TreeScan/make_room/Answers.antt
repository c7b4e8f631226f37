use Rattle.std.proofs.Common.{refl, ap, ◌∙◌}
use Rattle.std.specs.Prelude.{slice_get}
use Rattle.fancy_scanner.proofs.Kept.{more_room, no_room_yet}
use Rattle.fancy_scanner.proofs.scan_text.TreeScan.make_room.Goals as goal

pub trees-init : goal.trees-init
trees-init c = no_room_yet c.args.self.now

pub trees-preserved : goal.trees-preserved
trees-preserved c = more_room c.args.self.now c.trees.self _ c.trees.invariant refl refl refl c.in_ok-push.ensures.items

pub returns-in_err-push-clause-held : goal.returns-in_err-push-clause-held
returns-in_err-push-clause-held c = λ pos k e. ap (λ l. slice_get l k) c.in_err-push.ensures.items ∙ c.trees.invariant.holds pos k e

pub returns-clause-held : goal.returns-clause-held
returns-clause-held c = λ pos k e. c.trees.invariant.holds pos k e

pub returns-clause-goes_on : goal.returns-clause-goes_on
returns-clause-goes_on c = c.trees.invariant.goes
