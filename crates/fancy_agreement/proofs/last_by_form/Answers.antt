use Rattle.fancy_agreement.proofs.LastLaws.{leaves_last_holds}
use Rattle.fancy_agreement.proofs.last_by_form.Goals as goal

pub returns : goal.returns
returns c = leaves_last_holds
