-- What clauses see of a scan of one text.
use Rattle.std.specs.Prelude.{◌≡◌, ◌≢◌, ◌≤◌, ℕ, Bool, true, false, nat_lt, List, [], ◌∷◌, length, Option, Some, None, option_and_then, option_map, slice_get, Result, Ok, Err, if◌then◌else◌}
use Rattle.std.specs.Borrow.{MutBor}
use Rattle.fancy_expr.specs.declared.error.Error.{Error}
use Rattle.fancy_matches.specs.Listing.{begun_at}
use Rattle.fancy_matches.specs.Matchers.{FindsCaptures, shown_match, span_of}
use Rattle.fancy_matches.specs.declared.found.Captures.{Captures}
use Rattle.fancy_matches.specs.declared.found.Match.{Match}
use Rattle.fancy_scanner.specs.Kept.{answer_start, kept_captures, shown_whole}
use Rattle.fancy_scanner.specs.Reuse.{holds_at}
use Rattle.fancy_scanner.specs.Scanning.{IsScannerOf, KeepsTrees, Rule, reuse_at, trees_of}
use Rattle.fancy_scanner.specs.declared.answers.Answer.{Answer}
use Rattle.fancy_scanner.specs.declared.reuse.Reuse.{Reuse}
use Rattle.fancy_scanner.specs.declared.scan_cache.ScanCache.{ScanCache}
use Rattle.fancy_scanner.specs.declared.scan_text.ScanStep.{ScanStep}
use Rattle.fancy_scanner.specs.declared.scan_text.TreeScan.{TreeScan}
use Rattle.fancy_scanner.specs.declared.scan_text.TreeMatch.{TreeMatch}
use Rattle.fancy_scanner.specs.declared.scanner.Scan.{Scan}
use Rattle.fancy_scanner.specs.declared.scanner.ScanMatch.{ScanMatch}
use Rattle.fancy_scanner.specs.declared.scanner.TreeScanner.{TreeScanner}

abbrev pub text_of : TreeScan → List ℕ
text_of s = s.text.now

-- the scanner, which is the caller's
abbrev pub scanner_of : TreeScan → MutBor TreeScanner
scanner_of s = s.scanner

-- so is what it keeps
abbrev pub cache_of : TreeScan → MutBor ScanCache
cache_of s = s.cache

-- what is kept of each tree, where something is
abbrev pub answers_in : ScanCache → List (Option Answer)
answers_in c = c.answers.items

abbrev pub answers_of : TreeScan → List (Option Answer)
answers_of s = answers_in s.cache.now

-- ---- what is kept

-- it was answered by a search for the rule, from where that began
abbrev pub IsAnswerOf : List ℕ → Rule → Answer → Type 0
IsAnswerOf text r a = FindsCaptures r.input text (begun_at r.options a.from) (Ok a.found)

-- what is kept of each rule was
abbrev pub AreAnswersOf : List Rule → List ℕ → List (Option Answer) → Type 0
AreAnswersOf rules text [] = Unit {0}
AreAnswersOf [] text (a ∷ answers) = Unit {0}
AreAnswersOf (r ∷ rules) text (None ∷ answers) = AreAnswersOf rules text answers
AreAnswersOf (r ∷ rules) text (Some a ∷ answers) = IsAnswerOf text r a × AreAnswersOf rules text answers

-- the scanner is one of these rules, and what is kept of them in a scan of this text is right
pub record IsScanBy (rules : List Rule) (text : List ℕ) (by : TreeScanner) (kept : List (Option Answer)) : Type 0 where
  pub scanner : IsScannerOf rules text by
  pub answers : AreAnswersOf rules text kept

-- a scan by a scanner of these rules, and what it keeps is right
abbrev pub IsScanOf : List Rule → TreeScan → Type 0
IsScanOf rules s = IsScanBy rules (text_of s) s.scanner.now (answers_of s)

-- it scans this text by the caller's scanner, with the caller's cache
pub record BeginsScan (lent : MutBor TreeScanner) (text : List ℕ) (cached : MutBor ScanCache) (s : TreeScan) : Type 0 where
  pub scanner : s.scanner.now ≡ lent.now
  pub name : s.scanner.ghost_name ≡ lent.ghost_name
  pub within : text_of s ≡ text
  pub cache : s.cache.now ≡ cached.now
  pub cache_name : s.cache.ghost_name ≡ cached.ghost_name
  pub right : (rules : List Rule) → IsScanBy rules text lent.now (answers_in cached.now) → IsScanOf rules s

-- scanner and cache are lent by the same caller
pub record KeepsLoans (s t : TreeScan) : Type 0 where
  pub scanner : t.scanner.ghost_name ≡ s.scanner.ghost_name
  pub cache : t.cache.ghost_name ≡ s.cache.ghost_name

-- After a call it scans the same text with the same trees, lent by the same caller, and what it keeps is right.
pub record GoesOn (s t : TreeScan) : Type 0 where
  pub within : text_of t ≡ text_of s
  pub trees : KeepsTrees s.scanner.now t.scanner.now
  pub loans : KeepsLoans s t
  pub still : (rules : List Rule) → IsScanOf rules s → IsScanOf rules t
  pub count : length (answers_of s) ≤ length (answers_of t)

-- ---- what is not searched for again

-- what is kept of a tree whose answers last so holds at this place
abbrev pub holds_for : Option Reuse → Option (Option Answer) → ℕ → Bool
holds_for (Some reuse) (Some (Some a)) pos = holds_at reuse a.from (answer_start a) pos
holds_for reuse answer pos = false

-- so does what is kept of the tree with this number
abbrev pub is_kept : TreeScanner → List (Option Answer) → ℕ → ℕ → Bool
is_kept by kept k pos = holds_for (reuse_at by k) (slice_get kept k) pos

abbrev pub is_held : TreeScan → ℕ → ℕ → Bool
is_held s k pos = is_kept s.scanner.now (answers_of s) k pos

-- What is kept of a tree and holds at this place is kept as it is.
abbrev pub KeepsAnswers : ℕ → TreeScanner → List (Option Answer) → List (Option Answer) → Type 0
KeepsAnswers pos by old new = (k : ℕ) → is_kept by old k pos ≡ true → slice_get new k ≡ slice_get old k

abbrev pub KeepsHeld : ℕ → TreeScan → TreeScan → Type 0
KeepsHeld pos s t = KeepsAnswers pos s.scanner.now (answers_of s) (answers_of t)

-- ---- what is told

-- a match as `TreeScanner::find_from` tells it, with the groups that are kept
abbrev pub scan_match : List (Option Answer) → TreeMatch → Option ScanMatch
scan_match answers m = option_map (λ c. record { index = m.index; captures = c }) (kept_captures answers m.index)

abbrev pub found_match : List (Option Answer) → Option TreeMatch → Option ScanMatch
found_match answers = option_and_then (scan_match answers)

-- what a scan that keeps these answers tells as `TreeScanner::find_from` tells it
abbrev pub told_with : List (Option Answer) → Result ScanStep Error → Result Scan Error
told_with kept (Ok step) = Ok (record { found = found_match kept step.found; stopped = step.stopped })
told_with kept (Err e) = Err e

abbrev pub scan_result : TreeScan → Result ScanStep Error → Result Scan Error
scan_result s result = told_with (answers_of s) result

-- the text and the span of the match are those of the groups that are kept of its tree
abbrev pub IsWholeIn : List (Option Answer) → TreeMatch → Type 0
IsWholeIn answers m = Some (shown_match m.whole) ≡ option_map shown_whole (kept_captures answers m.index)

-- ---- one tree

-- there is room for the answer of each tree
abbrev pub HasRoom : TreeScan → Type 0
HasRoom s = length (trees_of s.scanner.now) ≤ length (answers_of s)

-- what a search for a tree answers, where its groups are kept
abbrev pub captures_result : TreeScan → ℕ → Result (Option Match) Error → Result (Option Captures) Error
captures_result s k (Ok found) = Ok (kept_captures (answers_of s) k)
captures_result s k (Err e) = Err e

-- of the other trees the same is kept
abbrev pub KeepsOthers : ℕ → TreeScan → TreeScan → Type 0
KeepsOthers k s t = (j : ℕ) → j ≢ k → slice_get (answers_of t) j ≡ slice_get (answers_of s) j

-- of two matches the one that begins first, and of equals the first
abbrev pub earlier_match : TreeMatch → Option TreeMatch → TreeMatch
earlier_match one None = one
earlier_match one (Some other) = if nat_lt (span_of other.whole).0 (span_of one.whole).0 then other else one
