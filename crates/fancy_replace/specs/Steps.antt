-- What clauses see of a text that is gone through match by match.
use Rattle.std.specs.Prelude.{◌≡◌, ◌≤◌, ◌<◌, ◌-◌, ℕ, suc, true, IfErr, List, [], ◌∷◌, length, map, Option, Some, None, option_map, Result, Ok, Err, slice_range}
use Rattle.fancy_meaning.specs.MatchState.{Span}
use Rattle.fancy_meaning.specs.Options as plain
use Rattle.fancy_meaning.specs.Places.{is_place}
use Rattle.fancy_meaning.specs.Premises.{Input, IsSpan, plan}
use Rattle.fancy_expr.specs.declared.error.Error.{Error}
use Rattle.fancy_steps.specs.Outcomes.{first_pair}
use Rattle.fancy_matches.specs.Listing.{ComesTo, at_start}
use Rattle.fancy_matches.specs.Matchers.{FailsBy, IsNoLimitWhereEasy, IsRegexOf, IsSame, StaysIn, captures_text, left_of, numbers_in, passed_in, cursor_of}
use Rattle.fancy_matches.specs.declared.matcher.Matcher.{Matcher}
use Rattle.fancy_replace.specs.Pieces.{take_limit}
use Rattle.fancy_replace.specs.declared.cuts.Cut.{Cut}
use Rattle.fancy_replace.specs.declared.cuts.Cuts.{Cuts}

-- the matches lie in the text between places, in order and from here on
abbrev pub AreAhead : List ℕ → ℕ → List Span → Type 0
AreAhead text from [] = Unit {0}
AreAhead text from (span ∷ spans) = (from ≤ span.0) × (IsSpan text span × AreAhead text span.1 spans)

-- ---- where a text is cut

-- what stands after the last match that was gone through
abbrev pub rest_of : Cuts → List ℕ
rest_of s = slice_range s.text.now s.from (length s.text.now)

-- that match ended at a place
abbrev pub IsAtPlace : Cuts → Type 0
IsAtPlace s = is_place s.text.now s.from ≡ true

-- at most so many searches find something
abbrev pub places_left : Cuts → ℕ
places_left s = suc (length s.text.now) - s.cursor.pos

module _ (i : Input) (o : plain.RunOptions) where
  -- the matches that are left, whatever the limit
  abbrev pub all_left : Cuts → List (List ℕ)
  all_left s = left_of i s.text.now o (cursor_of s.cursor)

  -- and within it
  abbrev pub cuts_left : Cuts → List (List ℕ)
  cuts_left s = take_limit s.limit (all_left s)

  -- the cut is at the first of the matches that are left
  pub record IsNextCut (s : Cuts) (c : Cut) (t : Cuts) : Type 0 where
    pub within_limit : ¬ (s.limit ≡ Some 0)
    pub found : all_left s ≡ numbers_in c.captures ∷ all_left t
    pub comes : ComesTo (plan i) s.text.now o (cursor_of s.cursor) (numbers_in c.captures ∷ []) (cursor_of t.cursor)
    pub text : captures_text c.captures ≡ s.text.now
    pub piece : c.piece.now ≡ slice_range s.text.now s.from (first_pair (numbers_in c.captures)).0
    pub from : t.from ≡ (first_pair (numbers_in c.captures)).1
    pub limit : t.limit ≡ option_map (λ n. n - 1) s.limit

  -- what the next call gives, and what is then left
  abbrev pub StepsToCut : Cuts → Result (Option Cut) Error → Cuts → Type 0
  StepsToCut s (Ok None) t = (cuts_left s ≡ []) × (t.from ≡ s.from)
  StepsToCut s (Ok (Some c)) t = IsNextCut s c t
  StepsToCut s (Err e) t = (¬ (s.limit ≡ Some 0)) × FailsBy i s.text.now o (cursor_of s.cursor) e

-- the search went further on
abbrev pub IsFurther : Cuts → Result (Option Cut) Error → Cuts → Type 0
IsFurther s (Ok (Some c)) t = places_left t < places_left s
IsFurther s found t = Unit {0}

-- what is left to a matcher lies ahead
pub record IsAhead (r : Matcher) (s : Cuts) : Type 0 where
  pub place : IsAtPlace s
  pub spans : (i : Input) (o : plain.RunOptions) → IsRegexOf i s.text.now o r →
      AreAhead s.text.now s.from (map first_pair (all_left i o s))

-- The search for it passed no limit inside easy parts, or answers `Memory`; where no more matches are gone through, there
-- is none.
abbrev pub StaysInCut : Cuts → Result (Option Cut) Error → Matcher → Type 0
StaysInCut s (Ok None) q = ¬ (s.limit ≡ Some 0) → passed_in q ≡ None
StaysInCut s found q = StaysIn found q

-- the next match is found by this matcher, and text and matcher stay
pub record NextCut (r : Matcher) (s : Cuts) (found : Result (Option Cut) Error) (q : Matcher) (t : Cuts) : Type 0 where
  pub steps : (i : Input) (o : plain.RunOptions) → IsRegexOf i s.text.now o r → StepsToCut i o s found t
  pub easy : IfErr found (IsNoLimitWhereEasy r s.text.now)
  pub within : t.text.now ≡ s.text.now
  pub same : IsSame r q
  pub further : IsFurther s found t
  pub stays : StaysInCut s found q
  pub spent : s.limit ≡ Some 0 → q ≡ r

-- nothing was gone through yet
pub record HasAllCuts (text : List ℕ) (most : Option ℕ) (s : Cuts) : Type 0 where
  pub within : s.text.now ≡ text
  pub from : s.from ≡ 0
  pub limit : s.limit ≡ most
  pub first : cursor_of s.cursor ≡ at_start
  pub ahead : (r : Matcher) → IsAhead r s
