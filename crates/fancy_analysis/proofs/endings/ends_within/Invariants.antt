use Rattle.std.proofs.Common.{◌≡◌, ◌≤◌, length}
use Rattle.std.specs.Bool.{beq}
use Rattle.std.specs.Cmp.Lexicographic.{pointwise}
use Rattle.fancy_meaning.specs.Tree.{Tree}
use Rattle.fancy_analysis.specs.Endings.{IsRootOf, ending_rounds, flag_count, next_ends}
use Rattle.fancy_analysis.proofs.EndingRules.{IsSoundFor, set_count}
use Rattle.fancy_analysis.proofs.LimitRounds.{Counts}
use Rattle.fancy_analysis.proofs.endings.ends_within.Given as goal

abbrev pub invariant-loop-round : goal.invariant-loop-round
invariant-loop-round l = record {
  long : length l.flags.items ≡ flag_count l.root;
  few : l.round ≤ l.most;
  is_set : (whole : Tree) → IsRootOf whole l.root → l.round ≤ set_count l.flags.items;
  sound : (whole : Tree) → IsRootOf whole l.root → IsSoundFor whole l.flags.items;
  counts : (whole : Tree) → IsRootOf whole l.root →
      Counts (pointwise beq) (next_ends whole) (ending_rounds whole (flag_count l.root)) l.flags.items l.round (flag_count l.root);
}
