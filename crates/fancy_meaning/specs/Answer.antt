-- What a search answers: at the earliest start that has an admitted way the first one, or the longest.
use Rattle.std.specs.Prelude.{ℕ, ◌-◌, Bool, true, false, ◌&&◌, ◌||◌, not, nat_lt, List, [], ◌∷◌, length, min, filter, filter_map, flat_map, Option, Some, None, if◌then◌else◌, ◌==◌, slice_get, option_map}
use Rattle.regex_hir.specs.Text.{is_some_and, byte_before}
use Rattle.fancy_meaning.specs.Numbers.{usize_max}
use Rattle.fancy_meaning.specs.Tree.{Tree}
use Rattle.fancy_meaning.specs.Nodes.{group_count}
use Rattle.fancy_meaning.specs.Places.{range_from, places_from}
use Rattle.fancy_meaning.specs.OpenCalls.{no_calls}
use Rattle.fancy_meaning.specs.MatchState.{MatchState, Span, first_state}
use Rattle.fancy_meaning.specs.Ways.{Setting, ways}
use Rattle.fancy_meaning.specs.Options.{Plan, RunOptions}

-- what is searched for, where, and how
pub record Search : Type 0 where
  -- its groups numbered from 1 on
  pub tree : Tree
  pub setting : Setting
  pub open setting use *
  -- the first start alone is tried
  pub anchored : Bool
  -- a match has to take something
  pub not_empty : Bool
  -- no match takes nothing at the text's end after an LF, unless it asked for the end
  pub end_text : Bool
  -- the longest match at the earliest start is asked for
  pub leftmost_longest : Bool

-- the search that a run of a compiled tree makes
abbrev pub search_of : Plan → List ℕ → RunOptions → Search
search_of p text o = record {
  tree = p.analysis.tree;
  setting = record { text = text; pos = o.pos; continued = o.continued; unicode = p.unicode };
  anchored = p.anchored || o.anchored;
  not_empty = o.not_empty;
  end_text = p.end_text;
  leftmost_longest = o.leftmost_longest;
}

abbrev pub span_numbers : Option Span → List ℕ
span_numbers None = usize_max ∷ usize_max ∷ []
span_numbers (Some (i, j)) = i ∷ j ∷ []

-- The spans of n groups from 1 on, after that of group 0: from the kept start, or the end where that is less, to the
-- end.
unfoldable pub as_numbers : ℕ → MatchState → List ℕ
as_numbers n s = min s.kept s.place ∷ s.place ∷ flat_map (λ g. span_numbers (s.captures g)) (range_from 1 n)

-- how many bytes the span of group 0 has
abbrev pub reported : MatchState → ℕ
reported s = s.place - s.kept

-- the longest of a state and these, the first one among equals
abbrev pub longest_from : MatchState → List MatchState → MatchState
longest_from s [] = s
longest_from s (t ∷ ts) = longest_from (if nat_lt (reported s) (reported t) then t else s) ts

abbrev pub longest_of : List MatchState → Option MatchState
longest_of [] = None
longest_of (s ∷ ss) = Some (longest_from s ss)

-- of several ways the first, or where it is asked for the longest
abbrev pub chosen : Bool → List MatchState → Option MatchState
chosen false ss = slice_get ss 0
chosen true ss = longest_of ss

module _ (q : Search) where
  -- the starts that are tried, in order
  abbrev pub starts : List ℕ
  starts = if q.anchored then q.pos ∷ [] else places_from q.text q.pos

  -- nothing was taken, at the text's end after an LF
  abbrev pub is_empty_at_end : ℕ → MatchState → Bool
  is_empty_at_end start s =
      s.place == length q.text && is_some_and (byte_before q.text s.place) (λ b. b == 10) && s.place == start

  -- an attempt from the start may end with this state
  abbrev pub is_admitted : ℕ → MatchState → Bool
  is_admitted start s =
      not (q.not_empty && s.place == start) && not (q.end_text && is_empty_at_end start s && not s.text_end)

  -- the ways of the whole tree from a start
  abbrev pub ways_from : ℕ → List MatchState
  ways_from start = ways q.setting q.tree q.tree no_calls (first_state start)

  -- the chosen admitted way from a start
  abbrev pub attempt : ℕ → Option MatchState
  attempt start = chosen q.leftmost_longest (filter (is_admitted start) (ways_from start))

  -- the answer as numbers, or none
  unfoldable pub answer : Option (List ℕ)
  answer = option_map (as_numbers (group_count q.tree)) (slice_get (filter_map attempt starts) 0)
