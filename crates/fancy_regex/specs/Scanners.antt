-- What clauses see of a scanner by patterns, and of its scans: that of the scanner by trees, of the trees that the
-- patterns spell, with the errors of this crate.
use Rattle.std.specs.Prelude.{◌≡◌, ◌≤◌, ◌++◌, ◌∷◌, [], ℕ, List, length, map, Option, option_and_then, option_map, slice_get, IfOk, IfSome, Result, Ok, Err}
use Rattle.std.specs.Arc.{arc_value}
use Rattle.std.specs.Borrow.{MutBor}
use Rattle.fancy_expr.specs.declared.error.Error as engine_error_of
use Rattle.fancy_expr.specs.declared.expr.ExprTree.{ExprTree}
use Rattle.fancy_scanner.specs.Kept.{kept_captures}
use Rattle.fancy_scanner.specs.Limits.{TellsPassed, passed_with}
use Rattle.fancy_scanner.specs.Scanning as trees
use Rattle.fancy_scanner.specs.Scanning.{Rule}
use Rattle.fancy_scanner.specs.Scans as engine
use Rattle.fancy_scanner.specs.declared.answers.Answer.{Answer}
use Rattle.fancy_scanner.specs.declared.scan_text.ScanStep.{ScanStep}
use Rattle.fancy_scanner.specs.declared.scan_text.TreeMatch.{TreeMatch}
use Rattle.fancy_scanner.specs.declared.scanner.Scan.{Scan}
use Rattle.fancy_scanner.specs.declared.scanner.ScanTree.{ScanTree}
use Rattle.fancy_scanner.specs.declared.scanner.TreeScanner as engine_scanner
use Rattle.fancy_steps.specs.declared.search_limits.SearchLimit.{SearchLimit}
use Rattle.fancy_matches.specs.Matchers as found
use Rattle.fancy_regex.specs.Builders.{AreNamesOf, IsTreeOf}
use Rattle.fancy_regex.specs.Errors.{engine_error}
use Rattle.fancy_regex.specs.Found.{captures_names, shown_captures}
use Rattle.fancy_regex.specs.Options.{ExceedsAnalysisLimit, input, limits, running}
use Rattle.fancy_regex.specs.declared.error.Error.{Error}
use Rattle.fancy_regex.specs.declared.found.Captures.{Captures}
use Rattle.fancy_regex.specs.declared.names.GroupNames.{GroupNames}
use Rattle.fancy_regex.specs.declared.options.RegexOptions.{RegexOptions}
use Rattle.fancy_regex.specs.declared.scanner.ScanPattern.{ScanPattern}
use Rattle.fancy_regex.specs.declared.scanner.ScanText.{ScanText}
use Rattle.fancy_regex.specs.declared.scanner.Scanner.{Scanner}

-- ---- patterns

-- how a tree is compiled and searched for in this text, and how much its searches may take, by the options of its pattern
abbrev pub rule_for : ExprTree → RegexOptions → List ℕ → Rule
rule_for tree o text = record { input = input tree o; options = running o text; limits = limits o }

-- it was compiled from the tree that the pattern spells, whose analysis stands within its limit, and has its names
pub record IsScanPattern (pattern : List ℕ) (o : RegexOptions) (p : ScanPattern) : Type 0 where
  pub tree : ExprTree
  pub spelled : IsTreeOf pattern o tree
  pub analysed_within : ¬ ExceedsAnalysisLimit o.analysis_limit tree
  pub compiled : (text : List ℕ) → trees.IsTreeOf (rule_for tree o text) text p.compiled
  pub names : AreNamesOf tree (arc_value p.names)

-- The same of what it was compiled to alone.
pub record IsScanTree (pattern : List ℕ) (o : RegexOptions) (t : ScanTree) : Type 0 where
  pub tree : ExprTree
  pub spelled : IsTreeOf pattern o tree
  pub analysed_within : ¬ ExceedsAnalysisLimit o.analysis_limit tree
  pub compiled : (text : List ℕ) → trees.IsTreeOf (rule_for tree o text) text t

-- ---- a scanner

-- what its patterns were compiled to
abbrev pub trees_in : Scanner → engine_scanner.TreeScanner
trees_in s = s.trees

-- the names of the groups of each pattern
abbrev pub names_listed : Scanner → List GroupNames
names_listed s = map arc_value s.names.items

-- its patterns are searched for in this text by these rules
abbrev pub IsScannerOf : List Rule → List ℕ → Scanner → Type 0
IsScannerOf rules text s = trees.IsScannerOf rules text (trees_in s)

-- It has one more pattern, after the others: the rule of the tree that this spells, whose analysis stands within its limit,
-- and its names.
pub record Adds (pattern : List ℕ) (o : RegexOptions) (s t : Scanner) : Type 0 where
  pub tree : ExprTree
  pub spelled : IsTreeOf pattern o tree
  pub analysed_within : ¬ ExceedsAnalysisLimit o.analysis_limit tree
  pub rules : (text : List ℕ) (rules : List Rule) → IsScannerOf rules text s →
      IsScannerOf (rules ++ rule_for tree o text ∷ []) text t
  pub group_names : GroupNames
  pub are_names : AreNamesOf tree group_names
  pub names : names_listed t ≡ names_listed s ++ group_names ∷ []

-- it has the same patterns
pub record Keeps (s t : Scanner) : Type 0 where
  pub rules : (text : List ℕ) (rules : List Rule) → IsScannerOf rules text s → IsScannerOf rules text t
  pub names : names_listed t ≡ names_listed s

-- ---- a scan

-- the scanner, which is the caller's
abbrev pub scanner_of : ScanText → MutBor Scanner
scanner_of s = s.scanner

abbrev pub text_of : ScanText → List ℕ
text_of s = s.text.now

-- what its patterns were compiled to
abbrev pub trees_of : ScanText → engine_scanner.TreeScanner
trees_of s = trees_in s.scanner.now

-- what is kept of each pattern, where something is
abbrev pub answers_of : ScanText → List (Option Answer)
answers_of s = engine.answers_in s.cache

-- a scan by these rules, and what it keeps is right
abbrev pub IsScanOf : List Rule → ScanText → Type 0
IsScanOf rules s = engine.IsScanBy rules (text_of s) (trees_of s) (answers_of s)

-- it scans this text by the caller's scanner
pub record BeginsScan (lent : MutBor Scanner) (text : List ℕ) (s : ScanText) : Type 0 where
  pub scanner : s.scanner.now ≡ lent.now
  pub name : s.scanner.ghost_name ≡ lent.ghost_name
  pub within : text_of s ≡ text
  pub right : (rules : List Rule) → IsScannerOf rules text lent.now → IsScanOf rules s

-- After a call it scans the same text with the same patterns, lent by the same caller, and what it keeps is right.
pub record GoesOn (s t : ScanText) : Type 0 where
  pub within : text_of t ≡ text_of s
  pub trees : trees.KeepsTrees (trees_of s) (trees_of t)
  pub names : names_listed t.scanner.now ≡ names_listed s.scanner.now
  pub name : t.scanner.ghost_name ≡ s.scanner.ghost_name
  pub still : (rules : List Rule) → IsScanOf rules s → IsScanOf rules t
  pub count : length (answers_of s) ≤ length (answers_of t)

-- what is kept of a pattern and holds at this place is kept as it is
abbrev pub KeepsHeld : ℕ → ScanText → ScanText → Type 0
KeepsHeld pos s t = engine.KeepsAnswers pos (trees_of s) (answers_of s) (answers_of t)

-- The limit of visits or memory that the search for a pattern from this place on passed: none where what is kept of it is
-- its answer.
abbrev pub passed_from : ℕ → ScanText → ℕ → Option SearchLimit
passed_from pos s k = passed_with pos (trees_of s) (answers_of s) k

-- ---- what is told

-- what was told, as the scanner by trees tells it
abbrev pub scan_result : ScanText → Result ScanStep Error → Result Scan engine_error_of.Error
scan_result s (Ok step) = engine.told_with (answers_of s) (Ok step)
scan_result s (Err e) = Err (engine_error e)

-- the text and the span of the match are those of the groups that are kept of its pattern
abbrev pub IsWholeIn : ScanText → TreeMatch → Type 0
IsWholeIn s m = engine.IsWholeIn (answers_of s) m

-- what is told from the start of the text, as a scan tells it
pub record FindsFirst (text : List ℕ) (rules : List Rule) (result : Result ScanStep Error) : Type 0 where
  pub scan : ScanText
  pub promise : trees.Scans text 0 rules (scan_result scan result)
  pub whole : IfOk result (λ step. IfSome step.found (IsWholeIn scan))
  pub limits : IfOk result (λ step. TellsPassed (passed_from 0 scan) (option_map (λ m. m.index) step.found) step.stopped)

-- the groups of a match, with the names of its pattern
abbrev pub NamedGroups : Type 0
NamedGroups = (List ℕ × List ℕ) × GroupNames

abbrev pub named_groups : Captures → NamedGroups
named_groups c = (shown_captures c, captures_names c)

-- those that are kept of the pattern with this number
abbrev pub kept_groups : ScanText → ℕ → Option NamedGroups
kept_groups s k =
    let kept = kept_captures (answers_of s) k in
    option_and_then (λ names. option_map (λ c. (found.shown_captures c, names)) kept)
    (slice_get (names_listed s.scanner.now) k)
