-- When two lists of states are equal up to a key.
use Rattle.std.specs.Prelude.{◌≡◌, ℕ, Bool, true, false, ◌&&◌, not, if◌then◌else◌, List, [], ◌∷◌, map, filter, flat_map, Option, Some, None, ◌==◌, bytes_eq}
use Rattle.fancy_meaning.specs.Tree.{Tree}
use Rattle.fancy_meaning.specs.Nodes.{read_groups}
use Rattle.fancy_meaning.specs.OpenCalls.{targets}
use Rattle.fancy_meaning.specs.MatchState.{MatchState, Span, Ways}
use Rattle.fancy_meaning.specs.Options.{Plan}

-- what is compared of a state, as numbers
abbrev pub Key : Type 0
Key = MatchState → List ℕ

abbrev pub bit : Bool → ℕ
bit true = 1
bit false = 0

-- a span or none, so that no two look alike
abbrev pub span_key : Option Span → List ℕ
span_key None = 0 ∷ 0 ∷ 0 ∷ []
span_key (Some (from, to)) = 1 ∷ from ∷ to ∷ []

abbrev pub spans_key : List ℕ → Key
spans_key groups s = flat_map (λ g. span_key (s.captures g)) groups

-- what every key has: an end, the kept start, the text-end flag where it counts, and some groups' spans
abbrev pub key_with : ℕ → Bool → List ℕ → Key
key_with end flag_counts groups s = end ∷ s.kept ∷ bit (flag_counts && s.text_end) ∷ spans_key groups s

-- the whole state, as far as the tree can change it
unfoldable pub whole_key : Tree → Key
whole_key whole s = key_with s.place true (targets whole) s

module _ (p : Plan) where
  -- The end, the spans that are read and, under the end-of-text option, the flag, by which later parts and the end of
  -- an attempt go; and the kept start. Other spans are answered as well, and are not compared.
  unfoldable pub key : Key
  key s = key_with s.place p.end_text (read_groups p.analysis.tree) s

  -- What counts of the end in an easy context: all of it where the longest match is asked for; else only whether it is
  -- another place, and that only where a match has to take something.
  abbrev pub easy_end : ℕ → MatchState → ℕ
  easy_end from s =
      if p.analysis.leftmost_longest then s.place else bit (p.analysis.find_not_empty && not (s.place == from))

  -- the same key, but of the end only what counts in an easy context
  unfoldable pub easy_key : ℕ → Key
  easy_key from s = key_with (easy_end from s) p.end_text (read_groups p.analysis.tree) s

-- the first state of each key
abbrev pub reduced : Key → List MatchState → List MatchState
reduced by [] = []
reduced by (s ∷ ss) = s ∷ filter (λ t. not (bytes_eq (by s) (by t))) (reduced by ss)

-- hs has the states of qs in their order, up to those whose key occurred before
abbrev pub EqualUpTo : Key → List MatchState → List MatchState → Type 0
EqualUpTo by hs qs = reduced by hs ≡ reduced by qs

-- what the fine key does not tell apart, the coarse one does not
abbrev pub Coarser : Key → Key → Type 0
Coarser fine coarse = (s t : MatchState) → fine s ≡ fine t → coarse s ≡ coarse t

-- from two states of one key come lists whose keys are equal item by item
abbrev pub Respects : Key → Ways → Type 0
Respects by f = (s t : MatchState) → by s ≡ by t → map by (f s) ≡ map by (f t)
