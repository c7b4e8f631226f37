-- Which limits of their delegates the searches for trees passed, and that these are told.
use Rattle.std.specs.Prelude.{◌≡◌, ◌≤◌, ℕ, Bool, true, false, List, Option, Some, None, IfSome, option_and_then, slice_get}
use Rattle.fancy_steps.specs.declared.search_limits.SearchLimit.{SearchLimit}
use Rattle.fancy_matches.specs.Matchers.{passed_in}
use Rattle.fancy_scanner.specs.Scanning.{search_limit, trees_of}
use Rattle.fancy_scanner.specs.Scans.{answers_of, is_kept}
use Rattle.fancy_scanner.specs.declared.answers.Answer.{Answer}
use Rattle.fancy_scanner.specs.declared.scan_text.TreeScan.{TreeScan}
use Rattle.fancy_scanner.specs.declared.scanner.TreeScanner.{TreeScanner}
use Rattle.fancy_scanner.specs.declared.scanner.Stopped.{Stopped}

-- the limit of its delegates that the last search for the tree with this number passed
abbrev pub passed_at : TreeScanner → ℕ → Option SearchLimit
passed_at s k = option_and_then (λ x. passed_in x.matcher) (slice_get (trees_of s) k)

-- none where an answer holds
abbrev pub unless_held : (holds : Bool) → Option SearchLimit → Option SearchLimit
unless_held true passed = None
unless_held false passed = passed

-- the one that the search from this place on passed: none where what is kept of the tree is its answer
abbrev pub passed_with : ℕ → TreeScanner → List (Option Answer) → ℕ → Option SearchLimit
passed_with pos by kept k = unless_held (is_kept by kept k pos) (passed_at by k)

abbrev pub passed_from : ℕ → TreeScan → ℕ → Option SearchLimit
passed_from pos s k = passed_with pos s.scanner.now (answers_of s) k

-- the same of the tree whose number has this index in the order
abbrev pub passed_among : ℕ → List ℕ → TreeScan → ℕ → Option SearchLimit
passed_among pos order s j = option_and_then (passed_from pos s) (slice_get order j)

-- no number stands twice in the order
abbrev pub AreDistinct : List ℕ → Type 0
AreDistinct order = (i j k : ℕ) → slice_get order i ≡ Some k → slice_get order j ≡ Some k → i ≡ j

-- this tree is told as stopped, or one before it
abbrev pub IsToldUpTo : ℕ → Option Stopped → Type 0
IsToldUpTo k None = ⊥
IsToldUpTo k (Some s) = s.index ≤ k

-- What is told of trees that passed these limits of their delegates: the tree that is told as stopped passed the limit that
-- is told, or none where that is none of its delegates; each that passed one is told, or one before it; and a match is told
-- of one that passed none.
pub record TellsPassed (passed : ℕ → Option SearchLimit) (found : Option ℕ) (stopped : Option Stopped) : Type 0 where
  pub by_its_limit : IfSome stopped (λ s. passed s.index ≡ search_limit s.limit)
  pub none_hidden : (k : ℕ) (l : SearchLimit) → passed k ≡ Some l → IsToldUpTo k stopped
  pub answered : IfSome found (λ k. passed k ≡ None)
