use Rattle.fancy_meaning.specs.Ways.{ways}
use Rattle.fancy_laws.proofs.LookLaws.{at_most_one}
use Rattle.fancy_laws.proofs.atomic_has_one_way.Goals as goal

pub returns : goal.returns
returns c = λ q whole e depths s. at_most_one (ways q whole e depths s)
