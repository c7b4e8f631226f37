use Rattle.fancy_agreement.proofs.CaptureLaws.{alt_captured}
use Rattle.fancy_agreement.proofs.alternations_capture.Goals as goal

pub returns : goal.returns
returns c = alt_captured
