-- How many states a plain search of a fragment tells apart, and how many of them it visits at the most.
use Rattle.std.specs.Prelude.{ℕ, ◌+◌, ◌*◌, List, Option, Some, None, if◌then◌else◌, ◌==◌, sum_by}
use Rattle.fancy_meaning.specs.Tree.{Tree, Trees, none, more, Concat, Alt, Group, Repeat}
use Rattle.fancy_meaning.specs.Sizes.{size}

-- How many counts of iterations a loop tells apart: up to `hi`, or up to `lo`, and there whether this iteration moved
-- where the body may take nothing.
abbrev pub loop_counts : ℕ → Option ℕ → ℕ → ℕ
loop_counts lo (Some hi) least = hi + 1
loop_counts lo None least = if least == 0 then 2 * (lo + 1) else lo + 1

module _ (whole : Tree) where
  -- the states before a node, or after an iteration, with the counts of the loops around
  abbrev mutual
    pub states : Tree → ℕ
    states (Concat es) = 1 + states_of_each es
    states (Alt es) = 1 + states_of_each es
    states (Group g e) = 1 + states e
    states (Repeat lo hi greedy e) = 1 + loop_counts lo hi (size whole e).least * (1 + states e)
    states e = 1

    pub states_of_each : Trees → ℕ
    states_of_each none = 0
    states_of_each (more e es) = states e + states_of_each es

  -- the states of neighbouring nodes, and the one behind them
  unfoldable pub fragment_states : List Tree → ℕ
  fragment_states es = 1 + sum_by states es

  -- each point is visited at most once at each place from here to the end
  abbrev pub visit_bound : List Tree → (bytes_left : ℕ) → ℕ
  visit_bound es bytes_left = fragment_states es * (bytes_left + 1)
