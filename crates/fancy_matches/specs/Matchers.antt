-- What clauses see of a matcher, of what it finds, and of its lists.
use Rattle.std.specs.Prelude.{◌≡◌, ◌≤◌, ◌<◌, ◌-◌, ◌^◌, ℕ, Bool, true, IfErr, IfSome, IsFalse, List, [], ◌∷◌, length, Option, Some, None, Result, Ok, Err, is_some, option_map, slice_range}
use Rattle.std.specs.Arc.{arc_value}
use Rattle.std.specs.Borrow.{MutBor}
use Rattle.fancy_meaning.specs.Answer.{answer, search_of}
use Rattle.fancy_meaning.specs.Hard.{is_root_hard}
use Rattle.fancy_meaning.specs.MatchState.{Span}
use Rattle.fancy_meaning.specs.Options as plain
use Rattle.fancy_meaning.specs.Places.{is_place}
use Rattle.fancy_meaning.specs.Premises.{Input, plan, IsAccepted}
use Rattle.fancy_expr.specs.declared.error.Error.{Error}
use Rattle.fancy_expr.specs.declared.error.Error.TheVariants as error
use Rattle.fancy_steps.specs.Outcomes.{first_pair}
use Rattle.fancy_steps.specs.SearchLimits.{StaysWithin, passed_by}
use Rattle.fancy_search.specs.Scratches.{cost_of, work_of}
use Rattle.fancy_steps.specs.Tasks.{options_of as run_options_of}
use Rattle.fancy_steps.specs.declared.search_limits.SearchLimit.{SearchLimit}
use Rattle.fancy_search.specs.Searches.{Bounds, IsCompiledFrom, Promises, instructions_of}
use Rattle.fancy_search.specs.declared.search.Compiled.{Compiled}
use Rattle.fancy_matches.specs.Listing.{AreApart, ComesTo, Cursor, all_matches, all_spans, at_start, left, options_at, options_for}
use Rattle.fancy_matches.specs.declared.found.Captures.{Captures}
use Rattle.fancy_matches.specs.declared.found.Match.{Match}
use Rattle.fancy_matches.specs.declared.iterators.CaptureMatches.{CaptureMatches}
use Rattle.fancy_matches.specs.declared.iterators.Matches.{Matches}
use Rattle.fancy_matches.specs.declared.matcher.Matcher.{Matcher}
use Rattle.fancy_matches.specs.declared.cursor.Cursor as code

abbrev pub cursor_of : code.Cursor → Cursor
cursor_of s = record { pos = s.pos; last = s.last }

-- ---- what is found

abbrev pub text_of : Match → List ℕ
text_of m = m.text.now

abbrev pub span_of : Match → Span
span_of m = (m.start, m.end)

-- what matched
abbrev pub part_of : Match → List ℕ
part_of m = slice_range (text_of m) (span_of m).0 (span_of m).1

abbrev pub captures_text : Captures → List ℕ
captures_text c = c.text.now

-- start and end of each group
abbrev pub numbers_in : Captures → List ℕ
numbers_in c = c.numbers.items

-- what is shown of a match: its text and its span, or the numbers of all its groups
abbrev pub shown_match : Match → List ℕ × Span
shown_match m = (text_of m, span_of m)

abbrev pub shown_captures : Captures → List ℕ × List ℕ
shown_captures c = (captures_text c, numbers_in c)

abbrev pub with_span : List ℕ → List ℕ → List ℕ × Span
with_span text numbers = (text, first_pair numbers)

abbrev pub with_numbers : List ℕ → List ℕ → List ℕ × List ℕ
with_numbers text numbers = (text, numbers)

-- ---- searches

module _ (i : Input) (text : List ℕ) (o : plain.RunOptions) where
  -- A search answers as is promised, by what is said of its answer; where the whole tree is easy, it passes a limit only
  -- below its bound.
  abbrev pub PromisesSo : {A : Type 0} → (Option (List ℕ) → A → Type 0) → Result A Error → Type 0
  PromisesSo Says (Ok found) = IsAccepted i (instructions_of i) × Says (answer (search_of (plan i) text o)) found
  PromisesSo Says (Err e) = Promises i text o (Err e) × Bounds i text o (Err e)

  -- what is shown of a match is what is seen of its numbers
  abbrev pub Shows : {A B : Type 0} → (A → B) → (List ℕ → B) → Result (Option A) Error → Type 0
  Shows show seen = PromisesSo (λ numbers found. option_map show found ≡ option_map seen numbers)

  -- the span of the match
  abbrev pub FindsMatch : Result (Option Match) Error → Type 0
  FindsMatch = Shows shown_match (with_span text)

  -- all its numbers
  abbrev pub FindsCaptures : Result (Option Captures) Error → Type 0
  FindsCaptures = Shows shown_captures (with_numbers text)

  -- whether there is one
  abbrev pub FindsWhether : Result Bool Error → Type 0
  FindsWhether = PromisesSo (λ numbers there. there ≡ is_some numbers)

-- it ends in this text, at or past where the search for it began
abbrev pub EndsOn : List ℕ → ℕ → Span → Type 0
EndsOn text pos span = (pos ≤ span.1) × (span.1 ≤ length text)

-- ---- a matcher

-- what its tree was compiled to
abbrev pub compiled_of : Matcher → Compiled
compiled_of r = arc_value r.compiled

-- the options of its searches of this text but where they begin
abbrev pub options_in : Matcher → List ℕ → plain.RunOptions
options_in r text = options_for (run_options_of r.options.run) r.options.backtrack_limit text

-- the limit of the delegates that its last search passed
abbrev pub passed_in : Matcher → Option SearchLimit
passed_in r = passed_by r.options.limits (cost_of r.scratch)

-- how much its last search did
abbrev pub work_in : Matcher → ℕ
work_in r = work_of r.scratch

-- a search that left it so passed no such limit, or answers `Memory`
abbrev pub StaysIn : {A : Type 0} → Result A Error → Matcher → Type 0
StaysIn result r = StaysWithin result (passed_in r)

-- so did the searches for an item of a list
abbrev pub StaysInStep : {A : Type 0} → Option (Result A Error) → Matcher → Type 0
StaysInStep None r = passed_in r ≡ None
StaysInStep (Some item) r = StaysIn item r

-- it was compiled from the tree, and its searches of this text have these options but where they begin
pub record IsRegexOf (i : Input) (text : List ℕ) (o : plain.RunOptions) (r : Matcher) : Type 0 where
  pub compiled : IsCompiledFrom i (compiled_of r)
  pub options : options_in r text ≡ o

-- it was compiled from the tree, with these options and the limit of backtracks that was asked
pub record IsMadeBy (i : Input) (o : plain.RunOptions) (asked : Option ℕ) (r : Matcher) : Type 0 where
  pub compiled : IsCompiledFrom i (compiled_of r)
  pub options : run_options_of r.options.run ≡ o
  pub backtracks : r.options.backtrack_limit ≡ asked

-- of the same tree, with the same options
abbrev pub IsSame : Matcher → Matcher → Type 0
IsSame r s = (compiled_of s ≡ compiled_of r) × (s.options ≡ r.options)

-- of the same tree, and lent by the same caller
pub record IsSameLoan (r s : MutBor Matcher) : Type 0 where
  pub same : IsSame r.now s.now
  pub name : s.ghost_name ≡ r.ghost_name

-- ---- where no limit was asked

-- no limit of backtracks was asked, and as many instructions as can be counted are allowed
abbrev pub HasNoLimits : Matcher → Type 0
HasNoLimits r = (r.options.backtrack_limit ≡ None) × (r.options.run.step_limit ≡ 2 ^ 64 - 1)

-- it tells of no limit that was passed
abbrev pub IsNoLimit : Error → Type 0
IsNoLimit (error.RuntimeError limit) = ⊥
IsNoLimit e = Unit {0}

-- Where no limit of backtracks or instructions was asked and the whole tree is easy, neither is passed in a text of fewer
-- than 2 ^ 60 bytes.
abbrev pub IsNoLimitWhereEasy : Matcher → List ℕ → Error → Type 0
IsNoLimitWhereEasy r text e =
    (i : Input) → IsCompiledFrom i (compiled_of r) → IsFalse (is_root_hard (plan i).analysis) → HasNoLimits r →
    length text < 2 ^ 60 → IsNoLimit e

-- ---- lists

module _ (i : Input) (text : List ℕ) (o : plain.RunOptions) where
  -- the matches that are left where the list stands so
  abbrev pub left_of : Cursor → List (List ℕ)
  left_of = left (plan i) text o

  -- The next search of the list answers this error, as is promised, and a limit only below its bound.
  pub record FailsAt (s : Cursor) (e : Error) : Type 0 where
    pub place : is_place text s.pos ≡ true
    pub promise : Promises i text (options_at o s) (Err e)
    pub bounds : Bounds i text (options_at o s) (Err e)

  -- A search that the list comes to before its next match answers this error.
  pub record FailsBy (s : Cursor) (e : Error) : Type 0 where
    pub cursor : Cursor
    pub comes : ComesTo (plan i) text o s [] cursor
    pub fails : FailsAt cursor e

  -- The list comes by one match to where it then stands, and this is what is seen of the match.
  pub record ComesBy {B : Type 0} (seen : List ℕ → B) (s : Cursor) (shown : B) (t : Cursor) : Type 0 where
    pub numbers : List ℕ
    pub shows : shown ≡ seen numbers
    pub comes : ComesTo (plan i) text o s (numbers ∷ []) t
    pub left : left_of s ≡ numbers ∷ left_of t

  -- What the searches for the next match answer, by what is shown of it, and where the list then stands: after that
  -- match; or at its end, where none is left; or, with an error, before the search that failed.
  abbrev pub StepsBy : {A B : Type 0} → (A → B) → (List ℕ → B) → Cursor → Result (Option A) Error → Cursor → Type 0
  StepsBy show seen s (Ok None) t = (left_of s ≡ []) × (left_of t ≡ [])
  StepsBy show seen s (Ok (Some x)) t = ComesBy seen s (show x) t
  StepsBy show seen s (Err e) t = ComesTo (plan i) text o s [] t × FailsAt t e

  abbrev pub StepsToMatch : Cursor → Result (Option Match) Error → Cursor → Type 0
  StepsToMatch = StepsBy shown_match (with_span text)

  -- What the next item of a list is, and where the list then stands: the next match; or none, where none is left; or the
  -- error of a search that the list comes to before, and then the list has ended.
  abbrev pub GivesBy : {A B : Type 0} → (A → B) → (List ℕ → B) → Cursor → Option (Result A Error) → Cursor → Type 0
  GivesBy show seen s None t = (left_of s ≡ []) × (left_of t ≡ [])
  GivesBy show seen s (Some (Ok x)) t = ComesBy seen s (show x) t
  GivesBy show seen s (Some (Err e)) t = FailsBy s e × (left_of t ≡ [])

  abbrev pub GivesCaptures : Cursor → Option (Result Captures Error) → Cursor → Type 0
  GivesCaptures = GivesBy shown_captures (with_numbers text)

  abbrev pub GivesMatch : Cursor → Option (Result Match Error) → Cursor → Type 0
  GivesMatch = GivesBy shown_match (with_span text)

-- ---- iterators

-- what an iterator holds: a caller's matcher, the text, and where the list of matches stands
pub record Iteration : Type 0 where
  pub matcher : MutBor Matcher
  pub text : List ℕ
  pub cursor : Cursor

abbrev pub captures_iteration : CaptureMatches → Iteration
captures_iteration s = record { matcher = s.matcher; text = s.text.now; cursor = cursor_of s.cursor }

abbrev pub matches_iteration : Matches → Iteration
matches_iteration s = record { matcher = s.matcher; text = s.text.now; cursor = cursor_of s.cursor }

-- it holds this matcher, over this text, before the first match
pub record Begins (r : MutBor Matcher) (text : List ℕ) (s : Iteration) : Type 0 where
  pub matcher : s.matcher.now ≡ r.now
  pub name : s.matcher.ghost_name ≡ r.ghost_name
  pub within : s.text ≡ text
  pub first : s.cursor ≡ at_start

-- The matches of the text lie between places, they do not overlap, and each ends past the one before.
abbrev pub AreAllApart : Matcher → List ℕ → Type 0
AreAllApart r text = (i : Input) (o : plain.RunOptions) → IsRegexOf i text o r → AreApart text None (all_spans (plan i) text o)

-- so a call of the iterator steps, whatever its matcher was compiled from, and text and matcher stay
pub record Goes {A : Type 0} (Gives : Input → List ℕ → plain.RunOptions → Cursor → Cursor → Type 0)
    (s : Iteration) (item : Option (Result A Error)) (t : Iteration) : Type 0 where
  pub gives : (i : Input) (o : plain.RunOptions) → IsRegexOf i s.text o s.matcher.now → Gives i s.text o s.cursor t.cursor
  pub easy : IfSome item (λ found. IfErr found (IsNoLimitWhereEasy s.matcher.now s.text))
  pub within : t.text ≡ s.text
  pub matcher : IsSameLoan s.matcher t.matcher

abbrev pub NextCaptures : CaptureMatches → Option (Result Captures Error) → CaptureMatches → Type 0
NextCaptures s item t =
    Goes (λ i text o from to. GivesCaptures i text o from item to) (captures_iteration s) item (captures_iteration t)

abbrev pub NextMatch : Matches → Option (Result Match Error) → Matches → Type 0
NextMatch s item t =
    Goes (λ i text o from to. GivesMatch i text o from item to) (matches_iteration s) item (matches_iteration t)

-- ---- a count of all matches

module _ (i : Input) (text : List ℕ) (o : plain.RunOptions) where
  -- a search that the list of all matches comes to answers this error
  pub record FailsInAll (e : Error) : Type 0 where
    pub gone : List (List ℕ)
    pub cursor : Cursor
    pub comes : ComesTo (plan i) text o at_start gone cursor
    pub fails : FailsAt i text o cursor e

  -- how many matches there are, or why that is not known
  abbrev pub Counts : Result ℕ Error → Type 0
  Counts (Ok n) = n ≡ length (all_matches (plan i) text o)
  Counts (Err e) = FailsInAll e
