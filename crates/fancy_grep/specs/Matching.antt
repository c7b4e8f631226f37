-- Which lines of a text are selected: those in which there is a match, by what the engine promises of a search.
use Rattle.std.specs.Prelude.{◌≡◌, ◌⊎◌, ◌<◌, length, take, ℕ, Bool, true, not, List, [], ◌∷◌, ◌++◌, map, filter, IfSome, MatchOption, Option, Result, Ok, Err, is_some, if◌then◌else◌}
use Rattle.std.specs.Str.Lines.{strip_carriage_return}
use Rattle.fancy_meaning.specs.Answer.{answer, search_of}
use Rattle.fancy_meaning.specs.Options as plain
use Rattle.fancy_meaning.specs.Premises.{Input, plan}
use Rattle.fancy_matches.specs.Listing.{begun_at}
use Rattle.fancy_regex.specs.Regexes.{FindsWhether, IsRegexOf}
use Rattle.fancy_regex.specs.declared.error.Error.{Error}
use Rattle.fancy_regex.specs.declared.regexes.Regex.{Regex}
use Rattle.fancy_literals.specs.Required.{IsRequired}
use Rattle.fancy_grep.specs.Lines.{Line, line_of, lines_of}
use Rattle.fancy_grep.specs.Needles.{needle_of}
use Rattle.fancy_grep.specs.Standing.{IsLineIn}
use Rattle.fancy_grep.specs.declared.occurrences.Occurrences.{Occurrences}
use Rattle.fancy_grep.specs.declared.lines.Line as code
use Rattle.fancy_grep.specs.declared.matching.Choice.{Choice}
use Rattle.fancy_grep.specs.declared.matching.Cause.{Cause}
use Rattle.fancy_grep.specs.declared.matching.Cause.TheVariants as cause
use Rattle.fancy_grep.specs.declared.matching.MatchingLines.{MatchingLines}

-- the regex was compiled from this tree, and its searches have these options in each text
abbrev pub IsRegexFor : Input → (List ℕ → plain.RunOptions) → Regex → Type 0
IsRegexFor i o r = (text : List ℕ) → IsRegexOf i text (o text) r

-- whether a line is selected, by whether it has a match
abbrev pub is_chosen : Bool → Bool → Bool
is_chosen inverted found = if inverted then not found else found

-- what of a line is searched: if that is chosen, all but a carriage return at its end
abbrev pub searched : Choice → List ℕ → List ℕ
searched choice text = if choice.has_returns then strip_carriage_return text else text

-- The line comes last, or nothing does.
abbrev pub Grows : code.Line → List code.Line → List code.Line → Type 0
Grows line before after = (after ≡ before) ⊎ (after ≡ before ++ line ∷ [])

-- What is looked for is required, and the line stands in the text in which it is looked for.
abbrev pub Helps : Input → code.Line → Option Occurrences → Type 0
Helps i line looked_for = IfSome looked_for (λ s. IsRequired (needle_of s.needle) true i × IsLineIn s.text.now (line_of line))

module _ (i : Input) (o : List ℕ → plain.RunOptions) where
  -- the tree has an admitted match in the line, as a text of its own
  abbrev pub has_match : List ℕ → Bool
  has_match line = is_some (answer (search_of (plan i) line (begun_at (o line) 0)))

  abbrev pub is_selected : Choice → Line → Bool
  is_selected choice line = is_chosen choice.inverted (has_match (searched choice line.text))

  abbrev pub selected : Choice → List Line → List Line
  selected choice lines = filter (is_selected choice) lines

  -- The search of the line answers this error, as is promised.
  abbrev pub FailsOn : List ℕ → Error → Type 0
  FailsOn line e = FindsWhether i line (begun_at (o line) 0) (Err e)

  -- It is told whether the line has a match, or its search fails.
  abbrev pub TellsMatch : List ℕ → Result Bool Error → Type 0
  TellsMatch line (Ok found) = found ≡ has_match line
  TellsMatch line (Err e) = FailsOn line e

  -- Of a line: it is added where it is selected, or its search fails and nothing is added.
  abbrev pub TakesLine : Choice → code.Line → List code.Line → Result (Unit {0}) Error → List code.Line → Type 0
  TakesLine choice line before (Ok _) after =
      map line_of after ≡ map line_of before ++ selected choice (line_of line ∷ [])
  TakesLine choice line before (Err e) after = (after ≡ before) × FailsOn (searched choice line.text.now) e

  -- The search of a line fails, and of the lines before it these are selected.
  pub record StopsAt (choice : Choice) (text : List ℕ) (lines : List Line) (number : ℕ) (e : Error) : Type 0 where
    pub before : List Line
    pub line : Line
    pub after : List Line
    pub split : lines_of text ≡ before ++ line ∷ after
    pub at : number ≡ line.number
    pub selects : lines ≡ selected choice before
    pub fails : FailsOn (searched choice line.text) e

  -- From a line on nothing is searched, and of the lines before it these are selected.
  pub record LeavesFrom (choice : Choice) (text : List ℕ) (lines : List Line) (number : ℕ) : Type 0 where
    pub before : List Line
    pub line : Line
    pub after : List Line
    pub split : lines_of text ≡ before ++ line ∷ after
    pub at : number ≡ line.number
    pub selects : lines ≡ selected choice before

  -- Why the lines end there: the search of that line fails, or nothing is left of the budget.
  abbrev pub EndsAt : Choice → List ℕ → List Line → (left number : ℕ) → Cause → Type 0
  EndsAt choice text lines left number (cause.Search e) = StopsAt choice text lines number e
  EndsAt choice text lines left number cause.UsedUp = (left ≡ 0) × LeavesFrom choice text lines number

  -- These lines of the text are selected, at most so many: of all, or of those before the one at which the search ends. It
  -- ends there only before it has so many. So much is left of the budget then.
  abbrev pub Selects : Choice → List ℕ → (most left : ℕ) → MatchingLines → Type 0
  Selects choice text most left found = MatchOption found.failure
      (map line_of found.lines.items ≡ take most (selected choice (lines_of text)))
      (λ f. (length found.lines.items < most)
      × EndsAt choice text (map line_of found.lines.items) left f.number f.cause)
