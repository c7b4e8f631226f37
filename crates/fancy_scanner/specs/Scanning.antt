-- Which of many trees matches first, and which passed a limit.
use Rattle.std.specs.Prelude.{◌≡◌, ◌-◌, ◌^◌, ℕ, suc, nat_lt, IsFalse, IsSome, List, [], ◌∷◌, length, drop, slice_get, Option, Some, None, option_map, Result, Ok, Err, if◌then◌else◌}
use Rattle.fancy_meaning.specs.Answer.{answer, search_of}
use Rattle.fancy_meaning.specs.Hard.{is_root_hard}
use Rattle.fancy_meaning.specs.Options as plain
use Rattle.fancy_meaning.specs.Premises.{Input, plan, IsAccepted}
use Rattle.fancy_expr.specs.declared.error.Error.{Error}
use Rattle.fancy_expr.specs.declared.error.Error.TheVariants as error
use Rattle.fancy_expr.specs.declared.expr.ExprTree.{ExprTree}
use Rattle.fancy_steps.specs.Outcomes.{first_pair}
use Rattle.fancy_steps.specs.SearchLimits.{no_limits, passed_by}
use Rattle.fancy_steps.specs.Tasks.{options_of as run_options_of}
use Rattle.fancy_steps.specs.declared.search_limits.SearchCost.{SearchCost}
use Rattle.fancy_steps.specs.declared.search_limits.SearchLimit.{SearchLimit}
use Rattle.fancy_steps.specs.declared.search_limits.SearchLimit.TheVariants as search
use Rattle.fancy_steps.specs.declared.search_limits.SearchLimits.{SearchLimits}
use Rattle.fancy_search.specs.Searches.{Bounds, Promises, input_of, instructions_of}
use Rattle.fancy_search.specs.declared.search.SearchOptions.{SearchOptions}
use Rattle.fancy_matches.specs.Listing.{backtracks_for, begun_at, options_for, steps_for}
use Rattle.fancy_matches.specs.Matchers.{IsNoLimit, IsRegexOf, numbers_in, captures_text}
use Rattle.fancy_matches.specs.declared.matcher.Matcher.{Matcher}
use Rattle.fancy_scanner.specs.Reuse.{IsReuse, is_anchored}
use Rattle.fancy_scanner.specs.declared.reuse.Reuse.{Reuse}
use Rattle.fancy_scanner.specs.declared.scan_limit.ScanLimit.{ScanLimit}
use Rattle.fancy_scanner.specs.declared.scan_limit.ScanLimit.TheVariants as limit
use Rattle.fancy_scanner.specs.declared.scanner.Scan.{Scan}
use Rattle.fancy_scanner.specs.declared.scanner.ScanMatch.{ScanMatch}
use Rattle.fancy_scanner.specs.declared.scanner.ScanTree.{ScanTree}
use Rattle.fancy_scanner.specs.declared.scanner.TreeScanner.{TreeScanner}
use Rattle.fancy_scanner.specs.declared.scanner.Stopped.{Stopped}

-- a tree with how it was compiled, how it is searched for, and how much the delegates of a search may take
pub record Rule : Type 0 where
  pub input : Input
  pub options : plain.RunOptions
  pub limits : SearchLimits

-- ---- limits

-- the limit of the delegates, where it is one
abbrev pub search_limit : ScanLimit → Option SearchLimit
search_limit (limit.RuntimeError e) = None
search_limit limit.VisitLimitExceeded = Some search.Visits
search_limit limit.MemoryLimitExceeded = Some search.Bytes

-- the error of a search that passes it
abbrev pub error_of : ScanLimit → Error
error_of (limit.RuntimeError e) = error.RuntimeError e
error_of limit.VisitLimitExceeded = error.Memory
error_of limit.MemoryLimitExceeded = error.Memory

-- the delegates of a search for the rule take so much that they pass this limit, or none
abbrev pub MayPass : Rule → Option SearchLimit → Type 0
MayPass r passed = (cost : SearchCost) × (passed_by r.limits cost ≡ passed)

-- what the search for a rule came to: its answer, or the limit that it passed
abbrev pub Reply : Type 0
Reply = Result (Option (List ℕ)) ScanLimit

-- ---- the first of many matches

-- a rule's number, and the numbers of a match of it
abbrev pub RuleMatch : Type 0
RuleMatch = ℕ × List ℕ

abbrev pub start_of : RuleMatch → ℕ
start_of found = (first_pair found.1).0

-- of two matches the one that begins first, and of equals the first
abbrev pub earlier : RuleMatch → Option RuleMatch → RuleMatch
earlier found None = found
earlier found (Some other) = if nat_lt (start_of other) (start_of found) then other else found

-- Of the rules that answered the match that begins first, of equals that of the first rule, where the rules are numbered
-- from n on.
abbrev pub earliest : ℕ → List Reply → Option RuleMatch
earliest n [] = None
earliest n (Ok None ∷ replies) = earliest (suc n) replies
earliest n (Ok (Some numbers) ∷ replies) = Some (earlier (n, numbers) (earliest (suc n) replies))
earliest n (Err limit ∷ replies) = earliest (suc n) replies

-- the first rule that passed a limit, with the limit
abbrev pub first_stopped : ℕ → List Reply → Option (ℕ × ScanLimit)
first_stopped n [] = None
first_stopped n (Ok found ∷ replies) = first_stopped (suc n) replies
first_stopped n (Err limit ∷ replies) = Some (n, limit)

-- ---- the answer

-- a match with its rule's number and start and end of each group, and its text
abbrev pub rule_match : ScanMatch → RuleMatch
rule_match s = (s.index, numbers_in s.captures)

abbrev pub match_view : ScanMatch → List ℕ × RuleMatch
match_view s = (captures_text s.captures, rule_match s)

abbrev pub in_text : List ℕ → RuleMatch → List ℕ × RuleMatch
in_text text found = (text, found)

abbrev pub stopped_view : Stopped → ℕ × ScanLimit
stopped_view s = (s.index, s.limit)

module _ (text : List ℕ) (pos : ℕ) where
  -- what a search for the rule answers from this place on
  abbrev pub answer_from : Rule → Option (List ℕ)
  answer_from r = answer (search_of (plan r.input) text (begun_at r.options pos))

  -- the search for the rule answers this error, as is promised, and a limit only below its bound
  abbrev pub MayFail : Rule → Error → Type 0
  MayFail r e =
      Promises r.input text (begun_at r.options pos) (Err e) × Bounds r.input text (begun_at r.options pos) (Err e)

  -- it replies so: its tree is accepted, and this is the answer; or it passes the limit
  abbrev pub Replies : Rule → Reply → Type 0
  Replies r (Ok found) = IsAccepted r.input (instructions_of r.input) × (found ≡ answer_from r)
  Replies r (Err limit) = MayFail r (error_of limit) × MayPass r (search_limit limit)

  -- each of the rules does
  abbrev pub EachReplies : List Rule → List Reply → Type 0
  EachReplies [] [] = Unit {0}
  EachReplies [] (reply ∷ replies) = ⊥
  EachReplies (r ∷ rules) [] = ⊥
  EachReplies (r ∷ rules) (reply ∷ replies) = Replies r reply × EachReplies rules replies

  -- one of them answers this error
  pub data FailsForOne (e : Error) : List Rule → Type 0 where
    here : {r : Rule} {rules : List Rule} → MayFail r e → FailsForOne e (r ∷ rules)
    later : {r : Rule} {rules : List Rule} → FailsForOne e rules → FailsForOne e (r ∷ rules)

  -- Each rule replied, and this tells the match that begins first, and the first rule that passed a limit; or the search
  -- for one of them answers this error, which is no limit.
  abbrev pub Scans : List Rule → Result Scan Error → Type 0
  Scans rules (Ok scan) =
      (replies : List Reply) × EachReplies rules replies
      × (option_map match_view scan.found ≡ option_map (in_text text) (earliest 0 replies))
      × (option_map stopped_view scan.stopped ≡ first_stopped 0 replies)
  Scans rules (Err e) = FailsForOne e rules × IsNoLimit e

-- ---- where no limit was asked

-- the whole tree of the rule is easy, and no limit of backtracks or steps was asked of its searches of this text
pub record IsEasyRun (text : List ℕ) (r : Rule) : Type 0 where
  pub tree : IsFalse (is_root_hard (plan r.input).analysis)
  pub backtracks : (r.options).backtrack_limit ≡ backtracks_for None text
  pub steps : (r.options).step_limit ≡ steps_for (2 ^ 64 - 1) text

abbrev pub AreEasyRuns : List ℕ → List Rule → Type 0
AreEasyRuns text [] = Unit {0}
AreEasyRuns text (r ∷ rules) = IsEasyRun text r × AreEasyRuns text rules

-- nor one of visits or bytes
pub record IsEasy (text : List ℕ) (r : Rule) : Type 0 where
  pub easy_run : IsEasyRun text r
  pub limits : r.limits ≡ no_limits

abbrev pub AreEasy : List ℕ → List Rule → Type 0
AreEasy text [] = Unit {0}
AreEasy text (r ∷ rules) = IsEasy text r × AreEasy text rules

-- none is stopped, or the first by a limit of its delegates
abbrev pub IsStoppedByDelegates : Option Stopped → Type 0
IsStoppedByDelegates None = Unit {0}
IsStoppedByDelegates (Some s) = IsSome (search_limit s.limit)

-- ---- a scanner

-- The rule of a tree that is compiled with these options, where texts are searched for it with this limit of backtracks
-- and none of visits and bytes.
abbrev pub rule_of : ExprTree → SearchOptions → Option ℕ → List ℕ → Rule
rule_of tree options asked text = record {
  input = input_of tree options.analysis options.compilation;
  options = options_for (run_options_of options.run) asked text;
  limits = no_limits;
}

-- so answers of searches for the rule last
abbrev pub IsReuseFor : Rule → Reuse → Type 0
IsReuseFor r = IsReuse (is_anchored (plan r.input) r.options) (plan r.input).analysis.tree

-- how much the delegates of its searches may take
abbrev pub limits_in : Matcher → SearchLimits
limits_in r = r.options.limits

-- It was compiled from the tree of the rule, its searches of this text have these options and limits, and its answers last
-- so.
pub record IsTreeOf (r : Rule) (text : List ℕ) (x : ScanTree) : Type 0 where
  pub matcher : IsRegexOf r.input text r.options x.matcher
  pub reuse : IsReuseFor r x.reuse
  pub limits : limits_in x.matcher ≡ r.limits

-- they are trees of these rules, one by one
abbrev pub AreTreesOf : List Rule → List ℕ → List ScanTree → Type 0
AreTreesOf [] text [] = Unit {0}
AreTreesOf [] text (x ∷ xs) = ⊥
AreTreesOf (r ∷ rules) text [] = ⊥
AreTreesOf (r ∷ rules) text (x ∷ xs) = IsTreeOf r text x × AreTreesOf rules text xs

abbrev pub trees_of : TreeScanner → List ScanTree
trees_of s = s.trees.items

abbrev pub IsScannerOf : List Rule → List ℕ → TreeScanner → Type 0
IsScannerOf rules text s = AreTreesOf rules text (trees_of s)

-- the rule with this number
abbrev pub IsRuleAt : List Rule → ℕ → Rule → Type 0
IsRuleAt rules k r = drop k rules ≡ r ∷ drop (suc k) rules

-- which answers of the tree with this number last
abbrev pub reuse_at : TreeScanner → ℕ → Option Reuse
reuse_at s k = option_map (λ x. x.reuse) (slice_get (trees_of s) k)

-- it has the same trees after a call as before
pub record KeepsTrees (s t : TreeScanner) : Type 0 where
  pub count : length (trees_of t) ≡ length (trees_of s)
  pub reuse : (k : ℕ) → reuse_at t k ≡ reuse_at s k
  pub same : (text : List ℕ) (rules : List Rule) → IsScannerOf rules text s → IsScannerOf rules text t
