use Rattle.fancy_headline.proofs.Early.{early_none}
use Rattle.fancy_headline.proofs.early_none.Goals as goal

pub returns : goal.returns
returns c = early_none
