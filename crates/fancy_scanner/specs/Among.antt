-- Some of the trees of a scan, in an order of their own.
use Rattle.std.specs.Prelude.{ℕ, List, [], ◌∷◌, map, Option, option_and_then, slice_get, Result, Ok, Err}
use Rattle.fancy_expr.specs.declared.error.Error.{Error}
use Rattle.fancy_scanner.specs.Scanning.{IsRuleAt, Rule}
use Rattle.fancy_scanner.specs.Scans.{answers_of, found_match}
use Rattle.fancy_scanner.specs.declared.answers.Answer.{Answer}
use Rattle.fancy_scanner.specs.declared.scan_text.ScanStep.{ScanStep}
use Rattle.fancy_scanner.specs.declared.scan_text.TreeScan.{TreeScan}
use Rattle.fancy_scanner.specs.declared.scanner.Scan.{Scan}

-- these are the rules with these numbers, one by one
abbrev pub ArePicked : List Rule → List ℕ → List Rule → Type 0
ArePicked rules [] [] = Unit {0}
ArePicked rules [] (r ∷ picked) = ⊥
ArePicked rules (k ∷ order) [] = ⊥
ArePicked rules (k ∷ order) (r ∷ picked) = IsRuleAt rules k r × ArePicked rules order picked

-- what is kept of the tree with this number
abbrev pub answer_of : TreeScan → ℕ → Option Answer
answer_of s k = option_and_then (λ a. a) (slice_get (answers_of s) k)

-- what is kept of the trees with these numbers, in this order
abbrev pub answers_among : TreeScan → List ℕ → List (Option Answer)
answers_among s order = map (answer_of s) order

-- what is told of them as `TreeScanner::find_from` tells it of a scanner that has them in this order
abbrev pub among_result : TreeScan → List ℕ → Result ScanStep Error → Result Scan Error
among_result s order (Ok step) = Ok (record { found = found_match (answers_among s order) step.found; stopped = step.stopped })
among_result s order (Err e) = Err e
