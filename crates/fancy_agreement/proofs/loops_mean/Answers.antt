use Rattle.fancy_agreement.proofs.LastLaws.{leaves_last_holds}
use Rattle.fancy_agreement.proofs.LoopLaws.{loop_means}
use Rattle.fancy_agreement.proofs.loops_mean.Goals as goal

pub returns : goal.returns
returns c = λ u lo hi greedy e re m order. loop_means u lo hi greedy e re m (λ none g. leaves_last_holds re (order none g))
