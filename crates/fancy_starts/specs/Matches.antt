-- The match that a search answers: the start at which it was tried, and the chosen way.
use Rattle.std.specs.Prelude.{ℕ, Bool, true, false, Option, filter_map, option_map, slice_get}
use Rattle.std.specs.List.{list_any}
use Rattle.fancy_meaning.specs.Tree.{Tree}
use Rattle.fancy_meaning.specs.Nodes.{nodes, is_keep_out}
use Rattle.fancy_meaning.specs.Marks.{is_continue}
use Rattle.fancy_meaning.specs.MatchState.{MatchState}
use Rattle.fancy_meaning.specs.Answer.{Search, starts, attempt}

-- a `\G` is somewhere in the tree
abbrev pub has_continue : Tree → Bool
has_continue e = list_any is_continue (nodes e)

-- a `\K` is somewhere in the tree
abbrev pub has_keep_out : Tree → Bool
has_keep_out e = list_any is_keep_out (nodes e)

-- the start where an attempt began, with the state that it ended with
abbrev pub Found : Type 0
Found = ℕ × MatchState

abbrev pub found_at : Search → ℕ → Option Found
found_at q start = option_map (λ s. (start, s)) (attempt q start)

-- the earliest start that has an admitted way, with the chosen one
abbrev pub match_of : Search → Option Found
match_of q = slice_get (filter_map (found_at q) (starts q)) 0

-- the same search, from another place on
abbrev pub begun_at : ℕ → Bool → Search → Search
begun_at pos continued q = record q { setting = record (q.setting) { pos = pos; continued = continued } }

-- the same search, of this start alone
abbrev pub anchored_at : ℕ → Bool → Search → Search
anchored_at pos continued q = record (begun_at pos continued q) { anchored = true }

-- the same search for the first match, or for the longest, at the earliest start
abbrev pub for_first : Search → Search
for_first q = record q { leftmost_longest = false }

abbrev pub for_longest : Search → Search
for_longest q = record q { leftmost_longest = true }
