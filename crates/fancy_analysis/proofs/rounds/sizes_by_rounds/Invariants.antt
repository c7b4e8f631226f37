use Rattle.std.proofs.Common.{◌≡◌, ◌≤◌, map}
use Rattle.fancy_meaning.specs.Tree as plain
use Rattle.fancy_meaning.specs.Numbering.{numbered_within}
use Rattle.fancy_meaning.specs.Sizes.{after_rounds, next_round}
use Rattle.fancy_expr.specs.Views.{tree_of}
use Rattle.fancy_info.specs.Sized.{size_of}
use Rattle.fancy_analysis.specs.Rounds.{same_sizes, size_rounds}
use Rattle.fancy_analysis.proofs.LimitRounds.{Counts}
use Rattle.fancy_analysis.proofs.rounds.sizes_by_rounds.Given as goal

abbrev pub invariant-loop-round : goal.invariant-loop-round
invariant-loop-round l =
    let whole : plain.Tree = numbered_within plain.NoLook l.first (tree_of l.tree.expr) in
    record {
      known : map size_of l.known.items ≡ after_rounds whole l.round;
      counts : Counts same_sizes (next_round whole) (size_rounds whole) (after_rounds whole l.round) l.round l.tree.total_groups;
      few : l.round ≤ l.most;
    }
