use Rattle.fancy_laws.proofs.AnswerPairs.{answers_are_pairs}
use Rattle.fancy_laws.proofs.answers_are_pairs.Goals as goal

pub returns : goal.returns
returns c = answers_are_pairs
