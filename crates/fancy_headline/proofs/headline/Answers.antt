use Rattle.fancy_headline.proofs.Answered.{headline}
use Rattle.fancy_headline.proofs.headline.Goals as goal

pub returns : goal.returns
returns c = headline
