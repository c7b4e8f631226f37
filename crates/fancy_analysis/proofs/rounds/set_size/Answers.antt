use Rattle.std.proofs.lemmas.List.{map-set}
use Rattle.fancy_info.specs.Sized.{size_of}
use Rattle.fancy_analysis.proofs.rounds.set_size.Goals as goal

pub returns-then-info-table : goal.returns-then-info-table
returns-then-info-table c = rw c.in-Group.is (map-set size_of _ _ _)
