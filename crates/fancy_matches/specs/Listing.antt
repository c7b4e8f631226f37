-- The list of all matches of a text: one search after the other, each from where the one before left off.
use Rattle.std.specs.Prelude.{◌≡◌, ℕ, zero, suc, ◌-◌, ◌≤◌, ◌<◌, Bool, true, false, ◌&&◌, not, List, [], ◌∷◌, ◌++◌, length, max, min, map, Option, Some, None, nat_le, nat_lt, ◌==◌, if◌then◌else◌, slice_range, slice_index_or, ◌+◌, ◌*◌, ◌^◌}
use Rattle.std.specs.Option.{option_map_or}
use Rattle.regex_hir.specs.Text.{is_none_or, is_some_and}
use Rattle.fancy_meaning.specs.Answer.{answer, search_of}
use Rattle.fancy_meaning.specs.Chars.{any_takes}
use Rattle.fancy_meaning.specs.MatchState.{Span}
use Rattle.fancy_meaning.specs.Moves.{past_char}
use Rattle.fancy_meaning.specs.Numbers.{usize_max}
use Rattle.fancy_meaning.specs.Options.{Plan, RunOptions}
use Rattle.fancy_meaning.specs.Places.{is_place}
use Rattle.fancy_meaning.specs.Premises.{IsSpan}
use Rattle.fancy_steps.specs.Outcomes.{first_pair}

-- where a list of matches stands
pub record Cursor : Type 0 where
  -- where the next search begins; no place of the text once the list has ended
  pub pos : ℕ
  -- where the last match of the list ended
  pub last : Option ℕ

-- the options of a search that begins here
abbrev pub begun_at : RunOptions → ℕ → RunOptions
begun_at o pos = record {
  pos = pos;
  anchored = o.anchored;
  continued = o.continued;
  not_empty = o.not_empty;
  leftmost_longest = o.leftmost_longest;
  backtrack_limit = o.backtrack_limit;
  step_limit = o.step_limit;
}

-- How often a search of this text may fall back to a branch: so often as was asked, or else 20,000,000 times, and once more
-- for each byte of the text and for its end, which is at least once for each start that it may have.
abbrev pub backtracks_for : Option ℕ → List ℕ → ℕ
backtracks_for None text = min usize_max (length text + 20_000_001)
backtracks_for (Some limit) text = limit

-- How many instructions it may make: so many as were asked. As many as can be counted ask for no limit, and are 100,000,000,
-- and eight more for each byte of the text and for its end.
abbrev pub steps_for : ℕ → List ℕ → ℕ
steps_for asked text =
    if asked == 2 ^ 64 - 1 then min (2 ^ 64 - 1) (length text * 8 + 100_000_008) else asked

-- the options of the searches of this text, by those of all texts and the limit of backtracks that was asked
abbrev pub options_for : RunOptions → Option ℕ → List ℕ → RunOptions
options_for o asked text = record {
  pos = o.pos;
  anchored = o.anchored;
  continued = o.continued;
  not_empty = o.not_empty;
  leftmost_longest = o.leftmost_longest;
  backtrack_limit = backtracks_for asked text;
  step_limit = steps_for o.step_limit text;
}

-- before the first match
abbrev pub at_start : Cursor
at_start = record { pos = 0; last = None }

-- the list has ended: no place of a text is this far on
abbrev pub ended : Cursor → Cursor
ended s = record { pos = usize_max; last = s.last }

-- The options of the next search, by those of all searches: it is continued where the last match ended, and so is the
-- first.
abbrev pub options_at : RunOptions → Cursor → RunOptions
options_at o s = record {
  pos = s.pos;
  anchored = o.anchored;
  continued = is_none_or s.last (λ last. last == s.pos);
  not_empty = o.not_empty;
  leftmost_longest = o.leftmost_longest;
  backtrack_limit = o.backtrack_limit;
  step_limit = o.step_limit;
}

-- one character further, and past the end from there
abbrev pub further : List ℕ → ℕ → ℕ
further text i = option_map_or (λ j. j) (past_char text (any_takes true false) i) (suc i)

-- The match is one of the list: it does not begin before its search, and it is not empty where the last match ended.
abbrev pub is_listed : Cursor → Span → Bool
is_listed s (start, end) = nat_le s.pos start && not (start == end && is_some_and s.last (λ last. last == end))

-- Where the next search begins after one that found this: where it ended, if it took something past where it and its
-- search began, or else one character further.
abbrev pub next_pos : List ℕ → Cursor → Span → ℕ
next_pos text s (start, end) = if nat_lt (max s.pos start) end then end else further text end

abbrev pub after : List ℕ → Cursor → Span → Cursor
after text s span = record {
  pos = next_pos text s span;
  last = if is_listed s span then Some span.1 else s.last;
}

-- a tree, a text, and the options of all its searches but where they begin
module _ (p : Plan) (text : List ℕ) (o : RunOptions) where
  -- what the next search finds: past the text's end there is none
  abbrev pub found_at : Cursor → Option (List ℕ)
  found_at s = if is_place text s.pos then answer (search_of p text (options_at o s)) else None

  -- the match, if it is one of the list
  abbrev pub listed_one : Cursor → List ℕ → List (List ℕ)
  listed_one s numbers = if is_listed s (first_pair numbers) then numbers ∷ [] else []

  -- The list comes from where it stands, by these matches, to another cursor: each search goes past the match that it
  -- found, whether that is one of the list or not.
  pub data ComesTo : Cursor → List (List ℕ) → Cursor → Type 0 where
    stays : {s : Cursor} → ComesTo s [] s
    by_match : {t : Cursor} {ms : List (List ℕ)} (s : Cursor) (m : List ℕ) → found_at s ≡ Some m →
        is_listed s (first_pair m) ≡ true → ComesTo (after text s (first_pair m)) ms t → ComesTo s (m ∷ ms) t
    past_match : {t : Cursor} {ms : List (List ℕ)} (s : Cursor) (m : List ℕ) → found_at s ≡ Some m →
        is_listed s (first_pair m) ≡ false → ComesTo (after text s (first_pair m)) ms t → ComesTo s ms t

  -- the matches of the next n searches, each by its numbers
  unfoldable pub listed : ℕ → Cursor → List (List ℕ)
  listed zero s = []
  listed (suc n) s =
      option_map_or (λ m. listed_one s m ++ listed n (after text s (first_pair m))) (found_at s) []

  -- all that are left: each search begins further on, so there are no more than places
  abbrev pub left : Cursor → List (List ℕ)
  left s = listed (suc (length text) - s.pos) s

  -- the list of all matches, and of their spans
  abbrev pub all_matches : List (List ℕ)
  all_matches = left at_start

  abbrev pub all_spans : List Span
  all_spans = map first_pair all_matches

-- so far into a text a match lies past the last one, if there was one: it does not begin before that ended, and ends
-- further on
abbrev pub IsPast : Option ℕ → Span → Type 0
IsPast None (start, end) = Unit {0}
IsPast (Some last) (start, end) = (last ≤ start) × (last < end)

-- the matches lie in the text between places, they do not overlap, and each ends past the one before
abbrev pub AreApart : List ℕ → Option ℕ → List Span → Type 0
AreApart text last [] = Unit {0}
AreApart text last (span ∷ spans) = IsPast last span × (IsSpan text span × AreApart text (Some span.1) spans)

-- ---- groups

-- the span of a group of these numbers, if it is there and set
abbrev pub group_span : List ℕ → ℕ → Option Span
group_span numbers g =
    let start = slice_index_or numbers (2 * g) usize_max in
    if start == usize_max then None else Some (start, slice_index_or numbers (2 * g + 1) usize_max)

-- each group that is set lies in the text between places
abbrev pub AreSpans : List ℕ → List ℕ → Type 0
AreSpans text numbers = (g : ℕ) (span : Span) → group_span numbers g ≡ Some span → IsSpan text span

-- ---- the pieces between the matches

-- from where the last match ended, so far into the text
abbrev pub pieces : List ℕ → ℕ → List Span → List (List ℕ)
pieces text from [] = slice_range text from (length text) ∷ []
pieces text from ((start, end) ∷ spans) = slice_range text from start ∷ pieces text end spans

abbrev pub part : List ℕ → Span → List ℕ
part text (start, end) = slice_range text start end

-- a piece, a match, and so on
abbrev pub in_turn : List (List ℕ) → List (List ℕ) → List ℕ
in_turn [] matches = []
in_turn (piece ∷ pieces) [] = piece ++ in_turn pieces []
in_turn (piece ∷ pieces) (found ∷ matches) = piece ++ (found ++ in_turn pieces matches)

-- pieces and matches in turn are the text
abbrev pub PiecesJoin : List ℕ → List Span → Type 0
PiecesJoin text spans = in_turn (pieces text 0 spans) (map (part text) spans) ≡ text
