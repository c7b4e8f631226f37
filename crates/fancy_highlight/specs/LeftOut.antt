-- Rules that are left out.
use Rattle.std.specs.Prelude.{◌==◌, ◌&&◌, ℕ, Bool, true, not, IsTrue, List, [], ◌∷◌}
use Rattle.std.specs.List.{list_all, list_any}
use Rattle.fancy_meaning.specs.Places.{is_place}
use Rattle.fancy_regex.specs.declared.error.Error.{Error}
use Rattle.fancy_regex.specs.declared.error.Error.TheVariants as error
use Rattle.fancy_scanner.specs.declared.scan_limit.ScanLimit.{ScanLimit}
use Rattle.fancy_scanner.specs.declared.scan_limit.ScanLimit.TheVariants as limit
use Rattle.fancy_highlight.specs.declared.left_out.LeftOut.{LeftOut}

-- the error of a search that exceeded a limit
abbrev pub error_of : ScanLimit → Error
error_of (limit.RuntimeError e) = error.RuntimeError e
error_of limit.VisitLimitExceeded = error.VisitLimitExceeded
error_of limit.MemoryLimitExceeded = error.MemoryLimitExceeded

-- this rule is reported
abbrev pub is_reported : List LeftOut → ℕ → Bool
is_reported reports rule = list_any (λ r. r.rule == rule) reports

-- no rule is reported twice
abbrev pub are_once : List LeftOut → Bool
are_once [] = true
are_once (r ∷ reports) = not (is_reported reports r.rule) && are_once reports

-- each is reported at a place of the text
abbrev pub are_placed : List ℕ → List LeftOut → Bool
are_placed text reports = list_all (λ r. is_place text r.at) reports

pub record AreReported (text : List ℕ) (reports : List LeftOut) : Type 0 where
  pub placed : IsTrue (are_placed text reports)
  pub once : IsTrue (are_once reports)
