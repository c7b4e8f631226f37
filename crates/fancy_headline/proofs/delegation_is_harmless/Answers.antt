use Rattle.fancy_headline.proofs.Answered.{delegation_is_harmless}
use Rattle.fancy_headline.proofs.delegation_is_harmless.Goals as goal

pub returns : goal.returns
returns c = delegation_is_harmless
