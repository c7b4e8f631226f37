use Rattle.fancy_agreement.proofs.SearchLaw.{match_is_answer}
use Rattle.fancy_agreement.proofs.match_is_answer.Goals as goal

pub returns : goal.returns
returns c = match_is_answer
