-- What clauses see of a regex, and of what it finds: that of the engine, with the errors of this crate.
use Rattle.std.specs.Prelude.{◌≡◌, ◌⊎◌, ℕ, Bool, List, Option, None, Result, string_bytes}
use Rattle.std.specs.Arc.{arc_value}
use Rattle.std.specs.Borrow.{MutBor}
use Rattle.std.specs.declared.alloc.Global.{Global}
use Rattle.std.specs.declared.borrow.CowStr.{CowStr}
use Rattle.fancy_meaning.specs.Options as plain
use Rattle.fancy_meaning.specs.Premises.{Input}
use Rattle.fancy_matches.specs.Matchers as engine
use Rattle.fancy_matches.specs.declared.matcher.Matcher as engine_regex
use Rattle.fancy_matches.specs.Matchers.{Shows, with_numbers, with_span}
use Rattle.fancy_replace.specs.Replacements as replacements
use Rattle.fancy_steps.specs.declared.search_limits.SearchLimit.{SearchLimit}
use Rattle.fancy_regex.specs.Errors.{engine_error, limit_in, limit_of_item, reply_of}
use Rattle.fancy_matches.specs.Matchers.{shown_match}
use Rattle.fancy_regex.specs.Found.{shown_captures}
use Rattle.fancy_regex.specs.declared.error.Error.{Error}
use Rattle.fancy_regex.specs.declared.found.Captures.{Captures}
use Rattle.fancy_matches.specs.declared.found.Match.{Match}
use Rattle.fancy_regex.specs.declared.names.GroupNames.{GroupNames}
use Rattle.fancy_regex.specs.declared.options.RegexOptions.{RegexOptions}
use Rattle.fancy_regex.specs.declared.regexes.Regex.{Regex}

abbrev pub pattern_of : Regex → List ℕ
pattern_of r = string_bytes r.pattern

-- how many groups the pattern has, and their names
abbrev pub names_of : Regex → GroupNames
names_of r = arc_value r.names

-- what the pattern was compiled to
abbrev pub engine_of : Regex → engine_regex.Matcher
engine_of r = r.engine

-- how it was asked to be
abbrev pub options_of : Regex → RegexOptions
options_of r = r.options

-- it was compiled from the tree, and its searches of this text have these options but where they begin
abbrev pub IsRegexOf : Input → List ℕ → plain.RunOptions → Regex → Type 0
IsRegexOf i text o r = engine.IsRegexOf i text o r.engine

-- of the same pattern and the same tree, with the same options
pub record IsSame (r s : Regex) : Type 0 where
  pub engine : engine.IsSame r.engine s.engine
  pub names : names_of s ≡ names_of r
  pub pattern : pattern_of s ≡ pattern_of r
  pub options : s.options ≡ r.options

-- of the same tree, and lent by the same caller
pub record IsSameLoan (r s : MutBor Regex) : Type 0 where
  pub same : IsSame r.now s.now
  pub name : s.ghost_name ≡ r.ghost_name

-- The matches of the text lie between places, they do not overlap, and each ends past the one before.
abbrev pub AreAllApart : Regex → List ℕ → Type 0
AreAllApart r text = engine.AreAllApart r.engine text

-- the limit inside easy parts that its last search passed
abbrev pub passed_in : Regex → Option SearchLimit
passed_in r = engine.passed_in r.engine

-- how much its last search did
abbrev pub work_in : Regex → ℕ
work_in r = engine.work_in r.engine

-- A search that left it so told of a limit inside easy parts exactly where it passed that.
abbrev pub TellsLimits : {A : Type 0} → Result A Error → Regex → Type 0
TellsLimits result r = limit_in result ≡ passed_in r

-- so did the searches for an item of a list
abbrev pub TellsLimitsInStep : {A : Type 0} → Option (Result A Error) → Regex → Type 0
TellsLimitsInStep item r = limit_of_item item ≡ passed_in r

-- This was told of a limit inside easy parts by a call that left the regex so: the limit that its last search passed; where
-- it made no search, none.
abbrev pub IsToldBy : Option SearchLimit → (r q : Regex) → Type 0
IsToldBy told r q = (told ≡ passed_in q) ⊎ ((told ≡ None) × (q.engine ≡ r.engine))

-- Where no limit of backtracks or instructions was asked and the whole tree is easy, neither is passed in a text of fewer
-- than 2 ^ 60 bytes. A limit inside easy parts may be.
abbrev pub IsNoLimitWhereEasy : Regex → List ℕ → Error → Type 0
IsNoLimitWhereEasy r text e = engine.IsNoLimitWhereEasy r.engine text (engine_error e)

module _ (i : Input) (text : List ℕ) (o : plain.RunOptions) where
  -- the span of the match
  abbrev pub FindsMatch : Result (Option Match) Error → Type 0
  FindsMatch result = Shows i text o shown_match (with_span text) (reply_of result)

  -- all its numbers
  abbrev pub FindsCaptures : Result (Option Captures) Error → Type 0
  FindsCaptures result = Shows i text o shown_captures (with_numbers text) (reply_of result)

  -- whether there is one
  abbrev pub FindsWhether : Result Bool Error → Type 0
  FindsWhether result = engine.FindsWhether i text o (reply_of result)

-- A replacement of the first so many matches of a regex, or of all, by what is written for each, answered this, and left
-- the regex so.
pub record IsReplacement (r : Regex) (text : List ℕ) (limit : Option ℕ) (write : List ℕ → List ℕ → List ℕ)
    (result : Result (CowStr Global) Error) (q : Regex) : Type 0 where
  pub replaced : replacements.IsReplacement r.engine text limit write (reply_of result) q.engine
  pub same : IsSame r q
  pub limits : IsToldBy (limit_in result) r q
