-- What a host is answered that asks for all matches of a text.
use Rattle.std.specs.Prelude.{◌≡◌, ◌≤◌, ◌<◌, ℕ, ◌+◌, ◌*◌, All, Bool, IsFalse, IsTrue, List, [], ◌∷◌, length, map, min, Option, None, Some, if◌then◌else◌}
use Rattle.std.specs.List.{flat_map}
use Rattle.fancy_meaning.specs.Fits.{run_fits}
use Rattle.fancy_meaning.specs.Numbers.{usize_max}
use Rattle.fancy_meaning.specs.Options.{RunOptions}
use Rattle.fancy_meaning.specs.Premises.{Input, plan}
use Rattle.fancy_expr.specs.declared.error.Error.{Error}
use Rattle.fancy_steps.specs.Outcomes.{first_pair}
use Rattle.fancy_steps.specs.SearchLimits.{EndsBy}
use Rattle.fancy_steps.specs.declared.search_limits.SearchLimit.{SearchLimit}
use Rattle.fancy_program.specs.Programs.{prog_of}
use Rattle.fancy_search.specs.declared.search.Compiled.{Compiled}
use Rattle.fancy_search.specs.Searches.{IsCompiledFrom, program}
use Rattle.fancy_matches.specs.Listing.{ComesTo, Cursor, begun_at, left}
use Rattle.fancy_matches.specs.Matchers.{FailsAt}
use Rattle.fancy_host.specs.declared.options.FancyOptions.{FancyOptions}
use Rattle.fancy_host.specs.declared.outcome.FancyOutcome.{FancyOutcome}
use Rattle.fancy_host.specs.declared.tree.CompiledTree.{CompiledTree}
use Rattle.fancy_host.specs.declared.cursor.FancyCursor.{FancyCursor}
use Rattle.fancy_host.specs.Codes.{ok, no_match, unfit}
use Rattle.fancy_host.specs.Hosted.{IsNoSearch, IsSearch, coded, compiled_of, failure_by, groups, over, running, with_count}

-- where the list of a host stands
abbrev pub cursor_of : FancyCursor → Cursor
cursor_of s = record { pos = s.pos; last = if s.has_last then Some s.last else None }

-- the options of all its searches of this text but where they begin
abbrev pub listing : FancyOptions → List ℕ → RunOptions
listing o text = begun_at (running o text) 0

-- what a list tells of each match: where it is, or where all its groups are
pub data Form : Type 0 where
  span_alone : Form
  all_groups : Form

-- the row of numbers that is written of a match with these numbers
abbrev pub row_of : Form → List ℕ → List ℕ
row_of span_alone numbers = (first_pair numbers).0 ∷ (first_pair numbers).1 ∷ []
row_of all_groups numbers = numbers

-- how many numbers a row has
abbrev pub width_of : Form → CompiledTree → ℕ
width_of span_alone t = 2
width_of all_groups t = min usize_max (2 * groups t)

-- the numbers of all rows, one row after the other
abbrev pub numbers_of : List (List ℕ) → List ℕ
numbers_of rows = flat_map (λ row. row) rows

-- ---- a form of rows, a tree that is compiled, a text, and the options of all searches

module _ (form : Form) (width : ℕ) (c : Compiled) (text : List ℕ) (o : RunOptions) where
  -- the list comes from the one cursor to the other by matches with these rows
  abbrev pub ComesBy : Cursor → List (List ℕ) → Cursor → Type 0
  ComesBy from rows to =
      (i : Input) → IsCompiledFrom i c →
      (ms : List (List ℕ)) × ((map (row_of form) ms ≡ rows) × ComesTo (plan i) text o from ms to)

  -- these are the rows of all matches that are left
  abbrev pub AreAll : Cursor → List (List ℕ) → Type 0
  AreAll s rows = (i : Input) → IsCompiledFrom i c → map (row_of form) (left (plan i) text o s) ≡ rows

  -- the next search of the list answers this error, as is promised
  abbrev pub Fails : Cursor → Error → Type 0
  Fails s e = (i : Input) → IsCompiledFrom i c → FailsAt i text o s e

  -- Why these rows are written and no more, where there is room for so many numbers, and the delegates of the last search
  -- passed this limit, or none: there is no room for one more row, and the list stands after them; they are all, and the
  -- list has ended; or the list comes after them to a search that fails, and stands before it.
  pub data Stops (passed : Option SearchLimit) (room : ℕ) (from : Cursor) (rows : List (List ℕ)) :
      Cursor → FancyOutcome → Type 0 where
    is_full : {to : Cursor} → room < length (numbers_of rows) + width → ComesBy from rows to → passed ≡ None →
        Stops passed room from rows to (coded ok)
    has_ended : {to : Cursor} → AreAll from rows → AreAll to [] → passed ≡ None →
        Stops passed room from rows to (coded no_match)
    fails : {to : Cursor} (e : Error) → ComesBy from rows to → Fails to e → EndsBy e passed →
        Stops passed room from rows to (failure_by passed e)

  -- what is written of the list that stands at `from`, where it then stands, and the outcome
  pub data Writes (passed : Option SearchLimit) (from : Cursor) (old : List ℕ) :
      Cursor → List ℕ → FancyOutcome → Type 0 where
    writes : {to : Cursor} {outcome : FancyOutcome} → (rows : List (List ℕ)) →
        All (λ row. length row ≡ width) rows →
        length (numbers_of rows) ≤ length old → Stops passed (length old) from rows to outcome →
        Writes passed from old to (over (numbers_of rows) old) (with_count (length rows) outcome)

-- ---- calls

-- the options fit the program and the list
abbrev pub list_fits : CompiledTree → List ℕ → FancyOptions → Bool
list_fits t text o =
    run_fits (record { program = prog_of (program (compiled_of t)); text = []; options = listing o text })

-- What a program writes of a list, where the list then stands, and the outcome, where the delegates of the last search
-- passed this limit, or none: it is unfit exactly where the options do not fit the program, and a limit of the delegates is
-- told exactly where it was passed.
pub data Lists (form : Form) (t : CompiledTree) (text : List ℕ) (o : FancyOptions) (passed : Option SearchLimit)
    (from : FancyCursor) (old : List ℕ) : FancyCursor → List ℕ → FancyOutcome → Type 0 where
  does_not_fit : IsFalse (list_fits t text o) → Lists form t text o passed from old from old (coded unfit)
  listed : {to : FancyCursor} {new : List ℕ} {outcome : FancyOutcome} → IsTrue (list_fits t text o) →
      Writes form (width_of form t) (compiled_of t) text (listing o text) passed
      (cursor_of from) old (cursor_of to) new outcome →
      Lists form t text o passed from old to new outcome

-- what is listed by a program that may hold no tree, in bytes that may be no text
pub data FindsAll (form : Form) (text : List ℕ) (o : FancyOptions) (passed : Option SearchLimit) (from : FancyCursor)
    (old : List ℕ) : Option CompiledTree → FancyCursor → List ℕ → FancyOutcome → Type 0 where
  unsearched : {held : Option CompiledTree} {outcome : FancyOutcome} → IsNoSearch text o held outcome →
      FindsAll form text o passed from old held from old outcome
  found : {t : CompiledTree} {to : FancyCursor} {new : List ℕ} {outcome : FancyOutcome} → IsSearch text o (Some t) →
      Lists form t text o passed from old to new outcome → FindsAll form text o passed from old (Some t) to new outcome
