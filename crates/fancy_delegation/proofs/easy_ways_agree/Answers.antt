use Rattle.fancy_laws.proofs.SizesHold.{sizes_hold}
use Rattle.fancy_delegation.proofs.EasyAgrees.{easy_ways_agree}
use Rattle.fancy_delegation.proofs.easy_ways_agree.Goals as goal

pub returns : goal.returns
returns c = easy_ways_agree sizes_hold
