use Rattle.std.proofs.Common.{length, ◌-◌, ◌≡◌, ◌≤◌, ◌+◌, drop}
use Rattle.std.specs.List.{prefix_len}
use Rattle.fancy_compile.specs.AnalysedNodes.{is_front}
use Rattle.fancy_compile.proofs.cuts.front_count.Given as goal

abbrev pub invariant-loop-count : goal.invariant-loop-count
invariant-loop-count l = record {
  inside : l.count ≤ length l.infos;
  more : prefix_len is_front l.infos ≡ l.count + prefix_len is_front (drop l.count l.infos);
}

abbrev pub decreases-loop-count : goal.decreases-loop-count
decreases-loop-count l = length l.infos - l.count
