-- From which places of a text a rule is searched for, where a scan asks at one place after the other.
use Rattle.std.specs.Prelude.{◌≡◌, ◌≤◌, ℕ, Bool, false, List, [], ◌∷◌, length, map, sum_by, Option, Some, None, option_map, if◌then◌else◌}
use Rattle.fancy_meaning.specs.Answer.{Search, search_of}
use Rattle.fancy_meaning.specs.Places.{places_from}
use Rattle.fancy_meaning.specs.Premises.{plan}
use Rattle.fancy_steps.specs.Outcomes.{first_pair}
use Rattle.fancy_bounds.specs.StartsBegun.{begun}
use Rattle.fancy_matches.specs.Listing.{begun_at}
use Rattle.fancy_scanner.specs.Reuse.{MatchesLast, holds_at, is_anchored}
use Rattle.fancy_scanner.specs.Scanning.{Rule, answer_from}
use Rattle.fancy_scanner.specs.declared.reuse.Reuse.{Reuse}
use Rattle.fancy_scanner.specs.declared.reuse.Reuse.TheVariants as lasts

-- each place is not before this one, nor before the one that was asked at before it
abbrev pub GoOn : ℕ → List ℕ → Type 0
GoOn from [] = Unit {0}
GoOn from (pos ∷ places) = (from ≤ pos) × GoOn pos places

module _ (text : List ℕ) (r : Rule) where
  -- the search for the rule from a place on
  abbrev pub search_from : ℕ → Search
  search_from pos = search_of (plan r.input) text (begun_at r.options pos)

  -- where its match begins
  abbrev pub start_from : ℕ → Option ℕ
  start_from pos = option_map (λ numbers. (first_pair numbers).0) (answer_from text pos r)

  -- the answer of the last search, which began at this place, holds at another
  abbrev pub last_holds : Reuse → Option ℕ → ℕ → Bool
  last_holds reuse None pos = false
  last_holds reuse (Some from) pos = holds_at reuse from (start_from from) pos

  -- of these places those from which the rule is searched for: where the answer of the last search does not hold
  abbrev pub searched : Reuse → Option ℕ → List ℕ → List ℕ
  searched reuse last [] = []
  searched reuse last (pos ∷ places) =
      if last_holds reuse last pos then searched reuse last places else pos ∷ searched reuse (Some pos) places

-- that there is no match lasts
abbrev pub LastsWithoutMatch : Reuse → Type 0
LastsWithoutMatch lasts.Nothing = ⊥
LastsWithoutMatch reuse = Unit {0}

-- ---- theorems

-- Where matches last and a scan goes from left to right, the searches for the rule begin together at most one start for
-- each place of the text.
abbrev pub StartsOfScan : Type 0
StartsOfScan = (text : List ℕ) (r : Rule) (places : List ℕ) →
    MatchesLast (is_anchored (plan r.input) r.options) (plan r.input).analysis.tree → GoOn 0 places →
    sum_by begun (map (search_from text r) (searched text r lasts.Matches None places)) ≤ length (places_from text 0)

-- Once a search finds no match, none is made again.
abbrev pub NoSearchAfterNone : Type 0
NoSearchAfterNone = (text : List ℕ) (r : Rule) (reuse : Reuse) (from : ℕ) (places : List ℕ) →
    LastsWithoutMatch reuse → GoOn from places → answer_from text from r ≡ None →
    searched text r reuse (Some from) places ≡ []
