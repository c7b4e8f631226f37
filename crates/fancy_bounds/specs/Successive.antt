-- How many starts are begun by searches of one text, one after the other, as types: for every tree.
use Rattle.std.specs.Prelude.{◌≡◌, ℕ, ◌+◌, ◌<◌, ◌≤◌, false, List, [], ◌∷◌, length, sum_by, Some}
use Rattle.fancy_meaning.specs.Places.{places_from}
use Rattle.fancy_meaning.specs.Answer.{Search}
use Rattle.fancy_starts.specs.Matches.{Found, match_of}
use Rattle.fancy_bounds.specs.StartsBegun.{begun}

-- a search of the same text, where the one before has a match
pub record ComesAfter (m : Found) (q r : Search) : Type 0 where
  pub found : match_of q ≡ Some m
  pub text : r.text ≡ q.text
  pub not_anchored : r.anchored ≡ false

-- each begins at the start where the match before was tried, or later
abbrev pub AreSuccessive : Search → List Search → Type 0
AreSuccessive q [] = Unit {0}
AreSuccessive q (r ∷ rs) = (m : Found) × ComesAfter m q r × (m.0 ≤ r.pos) × AreSuccessive r rs

-- each begins further on than that
abbrev pub AreFurtherOn : Search → List Search → Type 0
AreFurtherOn q [] = Unit {0}
AreFurtherOn q (r ∷ rs) = (m : Found) × ComesAfter m q r × (m.0 < r.pos) × AreFurtherOn r rs

-- the places where a match may start from where the first search begins
abbrev pub places_of : Search → ℕ
places_of q = length (places_from q.text q.pos)

-- Together they begin at most one start for each place, and one more for each match after which a search begins.
abbrev pub StartsOfSuccessiveSearches : Type 0
StartsOfSuccessiveSearches = (q : Search) (rs : List Search) → q.anchored ≡ false → AreSuccessive q rs →
    sum_by begun (q ∷ rs) ≤ places_of q + length rs

-- Where each begins further on, they begin at most one start for each place.
abbrev pub StartsOfSearchesFurtherOn : Type 0
StartsOfSearchesFurtherOn = (q : Search) (rs : List Search) → q.anchored ≡ false → AreFurtherOn q rs →
    sum_by begun (q ∷ rs) ≤ places_of q

-- And there are at most as many searches as places, and one more.
abbrev pub SearchesFurtherOn : Type 0
SearchesFurtherOn = (q : Search) (rs : List Search) → q.anchored ≡ false → AreFurtherOn q rs →
    length (q ∷ rs) ≤ places_of q + 1
