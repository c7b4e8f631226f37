-- What clauses see of the lists of all matches: those of the engine, with the errors of this crate.
use Rattle.std.specs.Prelude.{◌≡◌, List, ℕ, Option, Result, IfErr, IfOk, IfSome}
use Rattle.std.specs.Borrow.{MutBor}
use Rattle.fancy_meaning.specs.Options as plain
use Rattle.fancy_meaning.specs.Premises.{Input}
use Rattle.fancy_matches.specs.Listing.{Cursor, at_start}
use Rattle.fancy_matches.specs.Matchers.{GivesBy, cursor_of, with_numbers, with_span}
use Rattle.fancy_regex.specs.Errors.{item_of}
use Rattle.fancy_matches.specs.Matchers.{shown_match}
use Rattle.fancy_regex.specs.Found.{captures_names, shown_captures}
use Rattle.fancy_regex.specs.Regexes.{IsNoLimitWhereEasy, IsRegexOf, IsSameLoan, TellsLimitsInStep, names_of}
use Rattle.fancy_regex.specs.declared.error.Error.{Error}
use Rattle.fancy_regex.specs.declared.found.Captures.{Captures}
use Rattle.fancy_matches.specs.declared.found.Match.{Match}
use Rattle.fancy_regex.specs.declared.iterators.CaptureMatches.{CaptureMatches}
use Rattle.fancy_regex.specs.declared.iterators.Matches.{Matches}
use Rattle.fancy_regex.specs.declared.names.GroupNames.{GroupNames}
use Rattle.fancy_regex.specs.declared.regexes.Regex.{Regex}

module _ (i : Input) (text : List ℕ) (o : plain.RunOptions) where
  abbrev pub GivesCaptures : Cursor → Option (Result Captures Error) → Cursor → Type 0
  GivesCaptures s item t = GivesBy i text o shown_captures (with_numbers text) s (item_of item) t

  abbrev pub GivesMatch : Cursor → Option (Result Match Error) → Cursor → Type 0
  GivesMatch s item t = GivesBy i text o shown_match (with_span text) s (item_of item) t

-- the groups have the names of the pattern
abbrev pub HaveNames : GroupNames → Option (Result Captures Error) → Type 0
HaveNames names item = IfSome item (λ found. IfOk found (λ c. captures_names c ≡ names))

-- ---- iterators

-- what an iterator holds: a caller's regex, the text, and where the list of matches stands
pub record Iteration : Type 0 where
  pub regex : MutBor Regex
  pub text : List ℕ
  pub cursor : Cursor

abbrev pub captures_iteration : CaptureMatches → Iteration
captures_iteration s = record { regex = s.regex; text = s.text.now; cursor = cursor_of s.cursor }

abbrev pub matches_iteration : Matches → Iteration
matches_iteration s = record { regex = s.regex; text = s.text.now; cursor = cursor_of s.cursor }

-- it holds this regex, over this text, before the first match
pub record Begins (r : MutBor Regex) (text : List ℕ) (s : Iteration) : Type 0 where
  pub regex : s.regex.now ≡ r.now
  pub name : s.regex.ghost_name ≡ r.ghost_name
  pub within : s.text ≡ text
  pub first : s.cursor ≡ at_start

-- so a call of the iterator steps, whatever its regex was compiled from, and text and regex stay
pub record Goes {A : Type 0} (Gives : Input → List ℕ → plain.RunOptions → Cursor → Cursor → Type 0)
    (s : Iteration) (item : Option (Result A Error)) (t : Iteration) : Type 0 where
  pub gives : (i : Input) (o : plain.RunOptions) → IsRegexOf i s.text o s.regex.now → Gives i s.text o s.cursor t.cursor
  pub easy : IfSome item (λ found. IfErr found (IsNoLimitWhereEasy s.regex.now s.text))
  pub within : t.text ≡ s.text
  pub regex : IsSameLoan s.regex t.regex
  pub limits : TellsLimitsInStep item t.regex.now

pub record NextCaptures (s : CaptureMatches) (item : Option (Result Captures Error)) (t : CaptureMatches) : Type 0 where
  pub goes : Goes (λ i text o from to. GivesCaptures i text o from item to) (captures_iteration s) item (captures_iteration t)
  pub names : HaveNames (names_of s.regex.now) item

abbrev pub NextMatch : Matches → Option (Result Match Error) → Matches → Type 0
NextMatch s item t =
    Goes (λ i text o from to. GivesMatch i text o from item to) (matches_iteration s) item (matches_iteration t)
