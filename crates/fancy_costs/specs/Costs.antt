-- The searches that the list of all matches of a text makes, and what they begin and execute together, as types.
use Rattle.std.specs.Prelude.{◌≡◌, ◌≢◌, ℕ, zero, suc, ◌+◌, ◌*◌, ◌≤◌, IsFalse, false, List, [], ◌∷◌, ◌++◌, length, filter_map, sum_by, if◌then◌else◌}
use Rattle.std.specs.Option.{option_map_or}
use Rattle.fancy_meaning.specs.Answer.{Search, answer, search_of}
use Rattle.fancy_meaning.specs.Config.{StepLimitExceeded}
use Rattle.fancy_meaning.specs.Hard.{is_root_hard}
use Rattle.fancy_meaning.specs.Options.{Plan, RunOptions}
use Rattle.fancy_meaning.specs.Places.{is_place, places_from}
use Rattle.fancy_meaning.specs.Premises.{Input, IsText, plan}
use Rattle.fancy_meaning.specs.Theorems.{EasyRun, outcome}
use Rattle.fancy_steps.specs.Outcomes.{first_pair}
use Rattle.fancy_starts.specs.Matches.{has_keep_out}
use Rattle.fancy_bounds.specs.StartsBegun.{begun}
use Rattle.fancy_matches.specs.Listing.{Cursor, after, all_matches, at_start, found_at, listed_one, options_at}

-- a tree, a text, and the options of all searches but where they begin
module _ (p : Plan) (text : List ℕ) (o : RunOptions) where
  -- the search that the list makes from where it stands
  abbrev pub search_at : Cursor → Search
  search_at s = search_of p text (options_at o s)

  -- the next n searches: one where the list stands at a place, and those after it where it finds something
  unfoldable pub searches : ℕ → Cursor → List Search
  searches zero s = []
  searches (suc n) s =
      if is_place text s.pos then
      search_at s ∷ option_map_or (λ m. searches n (after text s (first_pair m))) (found_at p text o s) []
      else []

  -- all of them: each begins further on, so there are no more than places
  abbrev pub all_searches : List Search
  all_searches = searches (suc (length text)) at_start

  -- of the matches found from where the list stands, one after the other, those of the list
  abbrev pub listed_among : Cursor → List (List ℕ) → List (List ℕ)
  listed_among s [] = []
  listed_among s (m ∷ ms) = listed_one p text o s m ++ listed_among (after text s (first_pair m)) ms

-- the places of a text
abbrev pub places_of : List ℕ → ℕ
places_of text = length (places_from text 0)

-- so many instructions are enough for a search for an easy tree
abbrev pub enough : Search → ℕ
enough q = 8 * begun q + (if q.leftmost_longest then 1 else 0)

-- ---- theorems

-- The matches of the list are what these searches find, but for what the list does not count.
abbrev pub MatchesOfAllSearches : Type 0
MatchesOfAllSearches = (p : Plan) (text : List ℕ) (o : RunOptions) → IsText text →
    all_matches p text o ≡ listed_among p text o at_start (filter_map answer (all_searches p text o))

-- There are at most as many searches as places.
abbrev pub CountOfAllSearches : Type 0
CountOfAllSearches = (p : Plan) (text : List ℕ) (o : RunOptions) → IsText text →
    length (all_searches p text o) ≤ places_of text

-- They begin at most one start for each place, and one more for each search after the first.
abbrev pub StartsOfAllSearches : Type 0
StartsOfAllSearches = (p : Plan) (text : List ℕ) (o : RunOptions) → IsText text →
    sum_by begun (all_searches p text o) + 1 ≤ places_of text + length (all_searches p text o)

-- Without `\K` they begin at most one start for each place.
abbrev pub StartsWithoutKeepOut : Type 0
StartsWithoutKeepOut = (p : Plan) (text : List ℕ) (o : RunOptions) → IsText text →
    has_keep_out (p.analysis).tree ≡ false → sum_by begun (all_searches p text o) ≤ places_of text

-- Where the whole tree is easy, so many instructions are enough for the search from where the list stands.
abbrev pub InstructionsOfOneSearch : Type 0
InstructionsOfOneSearch = (i : Input) (text : List ℕ) (o : RunOptions) (s : Cursor) →
    EasyRun i text (options_at o s) → enough (search_at (plan i) text o s) ≤ o.step_limit →
    outcome i text (options_at o s) ≢ StepLimitExceeded

-- Together that is at most eight for each place and for each search after the first, and where the longest match is
-- asked for one for each search.
abbrev pub InstructionsOfAllSearches : Type 0
InstructionsOfAllSearches = (p : Plan) (text : List ℕ) (o : RunOptions) → IsText text →
    sum_by enough (all_searches p text o) + 8
    ≤ 8 * (places_of text + length (all_searches p text o))
    + (if o.leftmost_longest then length (all_searches p text o) else 0)

-- For an easy tree it is at most eight for each place, and where the longest match is asked for one for each search.
abbrev pub InstructionsOfEasyTree : Type 0
InstructionsOfEasyTree = (p : Plan) (text : List ℕ) (o : RunOptions) → IsText text → IsFalse (is_root_hard p.analysis) →
    sum_by enough (all_searches p text o)
    ≤ 8 * places_of text + (if o.leftmost_longest then length (all_searches p text o) else 0)
