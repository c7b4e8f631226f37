-- The places of a text in UTF-8: where a character begins, and the end.
use Rattle.std.specs.Prelude.{ℕ, zero, suc, ◌-◌, Bool, ◌&&◌, List, [], ◌∷◌, length, filter, Option, nat_le, slice_get}
use Rattle.regex_hir.specs.Text.{is_boundary}

-- the n numbers from i on
abbrev pub range_from : ℕ → ℕ → List ℕ
range_from i zero = []
range_from i (suc n) = i ∷ range_from (suc i) n

-- the numbers from i down to 0
abbrev pub range_down : ℕ → List ℕ
range_down zero = 0 ∷ []
range_down (suc i) = suc i ∷ range_down i

module _ (text : List ℕ) where
  -- a byte offset where a character begins, or the end
  abbrev pub is_place : ℕ → Bool
  is_place i = nat_le i (length text) && is_boundary text i

  -- the places from i on, to the end
  unfoldable pub places_from : ℕ → List ℕ
  places_from i = filter is_place (range_from i (suc (length text) - i))

  -- the places from i back to the start
  unfoldable pub places_back : ℕ → List ℕ
  places_back i = filter is_place (range_down i)

  -- the place n characters before i, if there are so many
  abbrev pub back_by : ℕ → ℕ → Option ℕ
  back_by n i = slice_get (places_back i) n

  -- how many characters stand from i to j
  unfoldable pub chars_between : ℕ → ℕ → ℕ
  chars_between i j = length (filter is_place (range_from (suc i) (j - i)))
