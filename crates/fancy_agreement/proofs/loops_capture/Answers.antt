use Rattle.fancy_agreement.proofs.CaptureLaws.{loop_captured}
use Rattle.fancy_agreement.proofs.loops_capture.Goals as goal

pub returns : goal.returns
returns c = loop_captured
