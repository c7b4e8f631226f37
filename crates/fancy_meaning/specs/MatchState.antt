-- The states of an attempt, and ways from state to state.
use Rattle.std.specs.Prelude.{is_some, ℕ, Bool, false, List, [], ◌∷◌, ◌++◌, Option, Some, None, if◌then◌else◌, ◌==◌, slice_get, flat_map}

-- where a group was captured: a first place and an end
abbrev pub Span : Type 0
Span = ℕ × ℕ

-- a value for each number: of a group its span, of a slot what it holds
abbrev pub put : {A : Type 0} → ℕ → A → (ℕ → A) → ℕ → A
put i value f j = if j == i then value else f j

pub record MatchState : Type 0 where
  -- a byte offset of the text
  pub place : ℕ
  -- the span of each group that is set, by its number
  pub captures : ℕ → Option Span
  -- where the match is said to start
  pub kept : ℕ
  -- an assertion of the text's end was met
  pub text_end : Bool

-- what an attempt begins with
abbrev pub first_state : ℕ → MatchState
first_state start = record { place = start; captures = λ g. None; kept = start; text_end = false }

abbrev pub moved_to : ℕ → MatchState → MatchState
moved_to i s = record s { place = i }

abbrev pub with_span : ℕ → Span → MatchState → MatchState
with_span g span s = record s { captures = put g (Some span) s.captures }

-- the ways of a part: from each state the states that it leads to, first the preferred one
abbrev pub Ways : Type 0
Ways = MatchState → List MatchState

abbrev pub stays : Ways
stays s = s ∷ []

abbrev pub fails : Ways
fails s = []

abbrev pub stays_if : (MatchState → Bool) → Ways
stays_if test s = if test s then s ∷ [] else []

-- one after the other
abbrev pub and_then : Ways → Ways → Ways
and_then f g s = flat_map g (f s)

-- all in order
abbrev pub in_order : List Ways → Ways
in_order [] = stays
in_order (w ∷ ws) = and_then w (in_order ws)

-- each in turn
abbrev pub one_of : List Ways → Ways
one_of [] s = []
one_of (w ∷ ws) s = w s ++ one_of ws s

-- the first way, if there is one
abbrev pub preferred : Ways → MatchState → Option MatchState
preferred f s = slice_get (f s) 0

abbrev pub has_way : Ways → MatchState → Bool
has_way f s = is_some (preferred f s)
