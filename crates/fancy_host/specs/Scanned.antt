-- What a host is answered by a scanner: many patterns and one text.
use Rattle.std.specs.Prelude.{◌≡◌, ◌≤◌, ◌<◌, ℕ, zero, suc, ◌+◌, ◌*◌, ◌++◌, All, IsFalse, IsTrue, IsUtf8, List, [], ◌∷◌, length, min, nat_lt, Option, None, Some, Ok, Err, if◌then◌else◌}
use Rattle.std.specs.Str.Lossy.{utf8_valid_len}
use Rattle.fancy_meaning.specs.Answer.{span_numbers}
use Rattle.fancy_meaning.specs.MatchState.{Span}
use Rattle.fancy_meaning.specs.Numbers.{usize_max}
use Rattle.fancy_meaning.specs.Places.{is_place}
use Rattle.fancy_expr.specs.declared.error.Error.{Error}
use Rattle.fancy_expr.specs.declared.expr.ExprTree.{ExprTree}
use Rattle.fancy_steps.specs.Outcomes.{first_pair}
use Rattle.fancy_matches.specs.Listing.{group_span}
use Rattle.fancy_matches.specs.Matchers.{numbers_in}
use Rattle.fancy_scanner.specs.Scanning.{IsScannerOf, IsTreeOf, Rule, Scans}
use Rattle.fancy_scanner.specs.declared.scanner.Scan.{Scan}
use Rattle.fancy_scanner.specs.declared.scanner.ScanMatch.{ScanMatch}
use Rattle.fancy_scanner.specs.declared.scanner.ScanTree.{ScanTree}
use Rattle.fancy_scanner.specs.declared.scanner.TreeScanner.{TreeScanner}
use Rattle.fancy_scanner.specs.declared.scanner.Stopped.{Stopped}
use Rattle.fancy_host.specs.declared.options.FancyOptions.{FancyOptions}
use Rattle.fancy_host.specs.declared.outcome.FancyOutcome.{FancyOutcome}
use Rattle.fancy_host.specs.Codes.{ok, no_match, code_of_scan_limit}
use Rattle.fancy_host.specs.Hosted.{ExceedsAnalysisLimit, FailsToCompile, IsNoText, IsRead, asked_of, coded, compiled, failure, has_size, limits, next_start, not_utf8, over, pattern, with_count}
use Rattle.fancy_host.specs.Lists.{listing, numbers_of}

-- ---- patterns

-- how a tree is compiled and searched for in this text, by the options of a host; `pos` says nothing
abbrev pub rule_for : ExprTree → FancyOptions → List ℕ → Rule
rule_for t o text = record { input = asked_of t o; options = listing o text; limits = limits o }

-- the patterns of a scanner, or of nothing, are searched for in this text by these rules
abbrev pub IsHeldBy : List Rule → List ℕ → Option TreeScanner → Type 0
IsHeldBy rules text None = rules ≡ []
IsHeldBy rules text (Some s) = IsScannerOf rules text s

-- the other has the patterns of the one
abbrev pub HoldsSame : Option TreeScanner → Option TreeScanner → Type 0
HoldsSame s t = (rules : List Rule) (text : List ℕ) → IsHeldBy rules text s → IsHeldBy rules text t

-- and one more, after them, of this tree
abbrev pub HoldsMore : ExprTree → FancyOptions → Option TreeScanner → Option TreeScanner → Type 0
HoldsMore tree o s t = (rules : List Rule) (text : List ℕ) → IsHeldBy rules text s → IsHeldBy (rules ++ rule_for tree o text ∷ []) text t

-- how many groups a tree has, with group 0
abbrev pub groups_in : ExprTree → ℕ
groups_in tree = min usize_max (tree.total_groups + 1)

-- the bytes are no text, or the pattern has no program, or memory was wanted
pub data FailsToRead (bytes : List ℕ) (o : FancyOptions) : FancyOutcome → Type 0 where
  in_no_text : {outcome : FancyOutcome} → IsNoText bytes o outcome → FailsToRead bytes o outcome
  fails : {outcome : FancyOutcome} → IsTrue (has_size o) → IsUtf8 bytes → FailsToCompile o (pattern bytes) outcome →
      FailsToRead bytes o outcome

-- It was compiled from the tree that the pattern spells, which stands within the limit of the analysis, and has so many
-- groups.
pub record IsRuleFrom (bytes : List ℕ) (o : FancyOptions) (x : ScanTree) (groups : ℕ) : Type 0 where
  pub size : IsTrue (has_size o)
  pub utf8 : IsUtf8 bytes
  pub tree : ExprTree
  pub read : IsRead (pattern bytes) o tree
  pub analysed_within : ¬ ExceedsAnalysisLimit tree o
  pub made : (text : List ℕ) → IsTreeOf (rule_for tree o text) text x
  pub counts : groups ≡ groups_in tree

-- what a scanner holds after a pattern was to be added, and the outcome
pub data Adds (bytes : List ℕ) (o : FancyOptions) (s : Option TreeScanner) : Option TreeScanner → FancyOutcome → Type 0 where
  keeps : {t : Option TreeScanner} {outcome : FancyOutcome} → FailsToRead bytes o outcome → HoldsSame s t → Adds bytes o s t outcome
  holds : {t : Option TreeScanner} (tree : ExprTree) → IsTrue (has_size o) → IsUtf8 bytes → IsRead (pattern bytes) o tree →
      ¬ ExceedsAnalysisLimit tree o → HoldsMore tree o s t → Adds bytes o s t (compiled (groups_in tree))

-- ---- a row

-- the first pattern that passed a limit, with the code of the limit; or that there is none
abbrev pub stopped_numbers : Option Stopped → ℕ × ℕ
stopped_numbers None = (usize_max, ok)
stopped_numbers (Some s) = (s.index, code_of_scan_limit s.limit)

-- start and end of the first groups, so many; of a group that is not set, or not there, `usize_max` twice
abbrev pub group_numbers : List ℕ → ℕ → List ℕ
group_numbers numbers zero = []
group_numbers numbers (suc n) = group_numbers numbers n ++ span_numbers (group_span numbers n)

-- the numbers of a match in a row: which pattern it is of, which one passed a limit, and its first groups
abbrev pub row_of : ℕ → ℕ → List ℕ → Option Stopped → List ℕ
row_of groups index numbers stopped =
    index ∷ (stopped_numbers stopped).0 ∷ (stopped_numbers stopped).1 ∷ group_numbers numbers groups

abbrev pub width_of : ℕ → ℕ
width_of groups = min usize_max (2 * groups + 3)

-- Where the search after a match begins: at its end, or past the character there if it took nothing; or past the character
-- where its own search began, if that is not before.
abbrev pub next_place : List ℕ → ℕ → Span → ℕ
next_place text pos span =
    let next = next_start text (span.0 ∷ span.1 ∷ []) in
    if nat_lt pos next then next else next_start text (pos ∷ pos ∷ [])

-- the outcome where none of the patterns that answered has a match: the first one that passed a limit is told
abbrev pub of_none : Option Stopped → FancyOutcome
of_none None = coded no_match
of_none (Some s) = record (coded (code_of_scan_limit s.limit)) { group = s.index }

-- ---- rules, a text, and how many groups a row has

module _ (rules : List Rule) (text : List ℕ) (groups : ℕ) where
  -- a scan comes from one place to another by matches with these rows
  pub data ComesTo (from : ℕ) : List (List ℕ) → ℕ → Type 0 where
    stays : ComesTo from [] from
    by_match : {rows : List (List ℕ)} {pos : ℕ} → ComesTo from rows pos → (scan : Scan) (found : ScanMatch) →
        Scans text pos rules (Ok scan) → scan.found ≡ Some found →
        ComesTo from (rows ++ row_of groups found.index (numbers_in found.captures) scan.stopped ∷ [])
        (next_place text pos (first_pair (numbers_in found.captures)))

  -- Why these rows are written and no more, where there is room for so many numbers: there is no room for one more row; the
  -- text has no place there; none of the patterns has a match from there on; or the search for one of them fails.
  pub data Stops (room : ℕ) (rows : List (List ℕ)) (to : ℕ) : FancyOutcome → Type 0 where
    is_full : room < length (numbers_of rows) + width_of groups → Stops room rows to (coded ok)
    is_past : IsFalse (is_place text to) → Stops room rows to (coded no_match)
    finds_none : (scan : Scan) → Scans text to rules (Ok scan) → scan.found ≡ None → Stops room rows to (of_none scan.stopped)
    fails : (e : Error) → Scans text to rules (Err e) → Stops room rows to (failure e)

  -- what is written of a scan that stands at `from`, where it then stands, and the outcome
  pub data Writes (from : ℕ) (old : List ℕ) : ℕ → List ℕ → FancyOutcome → Type 0 where
    writes : {to : ℕ} {outcome : FancyOutcome} → (rows : List (List ℕ)) → All (λ row. length row ≡ width_of groups) rows →
        length (numbers_of rows) ≤ length old → ComesTo from rows to → Stops (length old) rows to outcome →
        Writes from old to (over (numbers_of rows) old) (with_count (length rows) outcome)

-- what is written by a scanner, or by nothing, in bytes that may be no text
pub data ScansIn (text : List ℕ) (o : FancyOptions) (groups : ℕ) (from : ℕ) (old : List ℕ) (held : Option TreeScanner) :
    ℕ → List ℕ → FancyOutcome → Type 0 where
  unscanned : {outcome : FancyOutcome} → IsNoText text o outcome → ScansIn text o groups from old held from old outcome
  scanned : {to : ℕ} {new : List ℕ} {outcome : FancyOutcome} → IsTrue (has_size o) → IsUtf8 text →
      ((rules : List Rule) → IsHeldBy rules text held → Writes rules text groups from old to new outcome) →
      ScansIn text o groups from old held to new outcome
