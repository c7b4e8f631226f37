-- The patterns of ends that refer back to what their begin took.
use Rattle.std.specs.Prelude.{◌-◌, ◌==◌, ◌&&◌, ◌||◌, ℕ, Bool, true, false, List, [], ◌∷◌, ◌++◌, Option, Some, None, chars, if◌then◌else◌, is_some, nat_le, slice_range}
use Rattle.fancy_meaning.specs.MatchState.{Span}
use Rattle.fancy_matches.specs.Listing.{group_span}
use Rattle.fancy_matches.specs.Matchers.{captures_text, numbers_in}
use Rattle.fancy_matches.specs.declared.found.Captures.{Captures}
use Rattle.fancy_pattern.specs.Escape.{escaped}

-- the group that a digit names
abbrev pub group_of : ℕ → Option ℕ
group_of c = if nat_le 48 c && nat_le c 57 then Some (c - 48) else None

-- A backslash that is not escaped stands before a digit.
abbrev pub refers : List ℕ → Bool
refers [] = false
refers (c ∷ []) = false
refers (c ∷ d ∷ rest) = if c == 92 then is_some (group_of d) || refers rest else refers (d ∷ rest)

module _ (taken : ℕ → List ℕ) where
  -- what a group took, escaped, so that it is a pattern of this text alone
  abbrev pub reference : Option ℕ → ℕ → List ℕ
  reference (Some group) d = escaped (taken group)
  reference None d = 92 ∷ d ∷ []

  -- The pattern of an end: in place of a backslash and a digit stands what the group took that the digit names, escaped.
  -- Other escapes stay as they are.
  abbrev pub end_for : List ℕ → List ℕ
  end_for [] = []
  end_for (c ∷ []) = c ∷ []
  end_for (c ∷ d ∷ rest) =
      if c == 92 then reference (group_of d) d ++ end_for rest else c ∷ end_for (d ∷ rest)

  -- the same for what is left of an end, before which a backslash may stand
  abbrev pub end_after : Bool → List ℕ → List ℕ
  end_after false rest = end_for rest
  end_after true [] = 92 ∷ []
  end_after true (d ∷ rest) = reference (group_of d) d ++ end_for rest

-- the characters of what a group took, which are none where it is not set
abbrev pub text_in : List ℕ → Option Span → List ℕ
text_in text None = []
text_in text (Some span) = chars (slice_range text span.0 span.1)

-- what the groups of a begin took
abbrev pub taken_by : Captures → ℕ → List ℕ
taken_by c group = text_in (captures_text c) (group_span (numbers_in c) group)
