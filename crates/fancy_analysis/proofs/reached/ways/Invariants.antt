use Rattle.std.proofs.Common.{◌≡◌, length, take}
use Rattle.fancy_analysis.specs.Reached.{AreWays}
use Rattle.fancy_analysis.proofs.reached.ways.Given as goal

abbrev pub invariant-loop-link : goal.invariant-loop-link
invariant-loop-link l = record {
  same_length : length l.ways.items ≡ l.numbers;
  listed : AreWays l.at_once (take l.link-index l.links) l.ways.items;
}
