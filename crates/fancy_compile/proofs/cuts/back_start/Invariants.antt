use Rattle.std.proofs.Common.{length, ◌≡◌, ◌≤◌, ◌+◌, take}
use Rattle.std.specs.List.{suffix_len}
use Rattle.fancy_compile.specs.AnalysedNodes.{is_back}
use Rattle.fancy_compile.proofs.cuts.back_start.Given as goal

abbrev pub invariant-loop-start : goal.invariant-loop-start
invariant-loop-start l = record {
  inside : l.start ≤ length l.infos;
  more : suffix_len (is_back l.in_hard) l.infos + l.start ≡ length l.infos + suffix_len (is_back l.in_hard) (take l.start l.infos);
}

abbrev pub decreases-loop-start : goal.decreases-loop-start
decreases-loop-start l = l.start
