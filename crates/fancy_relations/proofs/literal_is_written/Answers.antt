use Rattle.std.proofs.Common.{ℕ, List, ap}
use Rattle.fancy_replace.proofs.Tokenizing.{plain_text}
use Rattle.fancy_relations.proofs.literal_is_written.Goals as goal

pub returns : goal.returns
returns c = λ names by none text numbers. ap (λ (write : List ℕ → List ℕ → List ℕ). write text numbers) (plain_text names by none)
