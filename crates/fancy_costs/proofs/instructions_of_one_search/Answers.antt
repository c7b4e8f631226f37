use Rattle.fancy_matches.specs.Listing.{options_at}
use Rattle.fancy_bounds.proofs.Begun.{instructions_by_starts}
use Rattle.fancy_costs.proofs.instructions_of_one_search.Goals as goal

pub returns : goal.returns
returns c = λ i text o s easy enough. instructions_by_starts i text (options_at o s) easy enough
