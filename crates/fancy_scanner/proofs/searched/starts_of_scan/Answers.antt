use Rattle.fancy_scanner.proofs.SearchPlaces.{starts_of_scan}
use Rattle.fancy_scanner.proofs.searched.starts_of_scan.Goals as goal

pub returns : goal.returns
returns c = starts_of_scan
