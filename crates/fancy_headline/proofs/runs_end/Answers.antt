use Rattle.fancy_headline.proofs.Answered.{runs_end}
use Rattle.fancy_headline.proofs.runs_end.Goals as goal

pub returns : goal.returns
returns c = runs_end
