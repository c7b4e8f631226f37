use Rattle.fancy_agreement.proofs.CaptureLaws.{group_captured}
use Rattle.fancy_agreement.proofs.groups_capture.Goals as goal

pub returns : goal.returns
returns c = group_captured
