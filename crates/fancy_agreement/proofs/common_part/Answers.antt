use Rattle.fancy_agreement.proofs.CommonLaw as law
use Rattle.fancy_agreement.proofs.common_part.Goals as goal

pub returns : goal.returns
returns c = law.common_part
