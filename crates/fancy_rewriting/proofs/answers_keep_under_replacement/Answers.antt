use Rattle.fancy_rewriting.proofs.Wholes.{answers_kept}
use Rattle.fancy_rewriting.proofs.answers_keep_under_replacement.Goals as goal

pub returns : goal.returns
returns c = answers_kept
