use Rattle.fancy_scanner.proofs.SearchPlaces.{no_search_after_none}
use Rattle.fancy_scanner.proofs.searched.no_search_after_none.Goals as goal

pub returns : goal.returns
returns c = no_search_after_none
