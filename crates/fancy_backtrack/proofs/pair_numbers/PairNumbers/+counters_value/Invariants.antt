use Rattle.std.proofs.Common.{length}
use Rattle.fancy_backtrack.proofs.pair_numbers.PairNumbers.+counters_value.Given as goal

abbrev pub decreases-counters_value : goal.decreases-counters_value
decreases-counters_value l = length l.counters.now
