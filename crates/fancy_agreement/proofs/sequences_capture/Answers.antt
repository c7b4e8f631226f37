use Rattle.fancy_agreement.proofs.CaptureLaws.{concat_captured}
use Rattle.fancy_agreement.proofs.sequences_capture.Goals as goal

pub returns : goal.returns
returns c = concat_captured
