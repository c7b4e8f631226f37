-- What the calls of a host answer.
use Rattle.std.specs.Prelude.{◌≡◌, ◌≢◌, ◌≤◌, ◌<◌, ◌⊎◌, ℕ, ◌+◌, ◌-◌, ◌/◌, ◌^◌, true, false, not, Bool, IsFalse, IsTrue, IsUtf8, List, [], ◌∷◌, ◌++◌, chars, length, take, drop, min, Option, None, Some, option_and_then, option_map, unwrap_or, Result, Ok, Err, if◌then◌else◌, ◌==◌}
use Rattle.std.specs.Arc.{arc_value}
use Rattle.std.specs.Option.{IsSome}
use Rattle.std.specs.Str.Lossy.{utf8_valid_len}
use Rattle.std.specs.declared.vec.Vec.{Vec}
use Rattle.std.specs.declared.alloc.Global.{Global}
use Rattle.fancy_meaning.specs.Chars.{any_takes}
use Rattle.fancy_meaning.specs.Fits.{run_fits}
use Rattle.fancy_meaning.specs.Moves.{past_char}
use Rattle.fancy_meaning.specs.Numbers.{usize_max}
use Rattle.fancy_meaning.specs.Options as plain
use Rattle.fancy_meaning.specs.Premises.{Input}
use Rattle.fancy_notation.specs.Depth.{depth}
use Rattle.fancy_notation.specs.Described.{IsDescribed}
use Rattle.fancy_notation.specs.Grammar.{IsSpelled}
use Rattle.fancy_notation.specs.Lexing.{tokens_of}
use Rattle.fancy_notation.specs.Reading.{IsFault}
use Rattle.fancy_pattern.specs.Spelling as spelling
use Rattle.fancy_pattern.specs.declared.error.PatternError.{PatternError}
use Rattle.fancy_pattern.specs.declared.error.PatternError.TheVariants as of_parser
use Rattle.fancy_pattern.specs.declared.options.ParseOptions.{ParseOptions}
use Rattle.fancy_expr.specs.declared.error.Error.{Error}
use Rattle.fancy_expr.specs.declared.error.Error.TheVariants as error
use Rattle.fancy_expr.specs.declared.error.CompileError.TheVariants as refusal
use Rattle.fancy_expr.specs.declared.expr.ExprTree.{ExprTree}
use Rattle.fancy_expr.specs.Sound.{IsWellFormedTree}
use Rattle.fancy_expr.specs.Views as views
use Rattle.fancy_faults.specs.Faults.{IsFaultOf}
use Rattle.fancy_faults.specs.declared.fault.Fault.{Fault}
use Rattle.fancy_analysis.specs.AnalysisLimit.{analysis_nodes}
use Rattle.fancy_analysis.specs.Names as analysis_names
use Rattle.fancy_info.specs.declared.context.AnalyzeContext.{AnalyzeContext}
use Rattle.fancy_compile.specs.declared.options.CompileOptions.{CompileOptions}
use Rattle.fancy_matches.specs.Listing.{options_for}
use Rattle.fancy_steps.specs.SearchLimits.{StaysWithin, passed_by}
use Rattle.fancy_search.specs.Scratches.{cost_of}
use Rattle.fancy_search.specs.declared.scratch.Scratch.{Scratch}
use Rattle.fancy_steps.specs.declared.search_limits.SearchLimit.{SearchLimit}
use Rattle.fancy_steps.specs.declared.search_limits.SearchLimits.{SearchLimits}
use Rattle.fancy_search.specs.declared.request.Request.{Request}
use Rattle.fancy_search.specs.Requests as asked
use Rattle.fancy_program.specs.Programs.{prog_of}
use Rattle.fancy_replace.specs.Reading.{Names}
use Rattle.fancy_search.specs.declared.search.Compiled.{Compiled}
use Rattle.fancy_search.specs.Searches.{Bounds, IsCompiledFrom, IsNestedOver, IsRefusedAs, Promises, input_of, program}
use Rattle.fancy_host.specs.declared.options.FancyOptions.{FancyOptions}
use Rattle.fancy_host.specs.declared.outcome.FancyOutcome.{FancyOutcome}
use Rattle.fancy_host.specs.declared.searches.Searcher.{Searcher}
use Rattle.fancy_host.specs.declared.tree.CompiledTree.{CompiledTree}
use Rattle.fancy_host.specs.Codes.{ok, no_match, no_program, no_text, unfit, memory, too_deep, wrong_size, analysis_limit_exceeded, code_of, code_of_kind, code_of_limit}

-- ---- options

-- how many bytes they have
abbrev pub options_size : ℕ
options_size = 104

abbrev pub default_options : FancyOptions
default_options = record {
  size = options_size;
  pos = 0;
  max_prog_size = 100_000;
  max_nesting = 500;
  max_depth = 250;
  backtrack_limit = usize_max;
  step_limit = 2 ^ 64 - 1;
  compile_anchored = false;
  anchored = false;
  not_continued = false;
  not_empty = false;
  end_text = false;
  ascii = false;
  longest = false;
  case_insensitive = false;
  multi_line = false;
  dot_matches_new_line = false;
  ignore_whitespace = false;
  crlf = false;
  swap_greed = false;
  oniguruma = false;
  named_groups_only = false;
  text_is_utf8 = false;
  visit_limit = 20_000_000;
  memory_limit = 2 ^ 28;
  analysis_limit = 5_000_000;
  reserved = record { first = 0 };
}

-- they have the size that the library gives them
abbrev pub has_size : FancyOptions → Bool
has_size o = o.size == options_size

-- what a host says of the text of a search: where it answers for it, it is UTF-8
abbrev pub AnswersFor : FancyOptions → List ℕ → Type 0
AnswersFor o text = IsTrue (has_size o) → IsTrue o.text_is_utf8 → IsUtf8 text

-- how a pattern is read
abbrev pub parsing : FancyOptions → ParseOptions
parsing o = record {
  case_insensitive = o.case_insensitive;
  multi_line = o.multi_line;
  dot_matches_new_line = o.dot_matches_new_line;
  ignore_whitespace = o.ignore_whitespace;
  crlf = o.crlf;
  swap_greed = o.swap_greed;
  unicode = not o.ascii;
  oniguruma = o.oniguruma;
  ignore_numbered_groups_when_named_groups_exist = o.named_groups_only;
}

-- what they ask of a search
abbrev pub request : FancyOptions → Request
request o = record {
  pos = o.pos;
  compile_anchored = o.compile_anchored;
  anchored = o.anchored;
  not_continued = o.not_continued;
  not_empty = o.not_empty;
  end_text = o.end_text;
  ascii = o.ascii;
  longest = o.longest;
  max_prog_size = Some o.max_prog_size;
  max_nesting = Some o.max_nesting;
  backtrack_limit = o.backtrack_limit;
  step_limit = o.step_limit;
}

abbrev pub analysis : FancyOptions → AnalyzeContext
analysis o = asked.analysis (request o)

abbrev pub compilation : FancyOptions → CompileOptions
compilation o = asked.compilation (request o)

-- the limit of backtracks, if the host gives one
abbrev pub given_backtracks : FancyOptions → Option ℕ
given_backtracks o = if o.backtrack_limit == usize_max then None else Some o.backtrack_limit

-- a limit of visits or bytes, if the host gives one
abbrev pub given_limit : ℕ → Option ℕ
given_limit limit = if limit == 0 then None else Some limit

-- how much the delegates of a search may take together
abbrev pub limits : FancyOptions → SearchLimits
limits o = record { visits = given_limit o.visit_limit; bytes = given_limit o.memory_limit }

-- how the program of the tree is run on this text
abbrev pub running : FancyOptions → List ℕ → plain.RunOptions
running o text = options_for (asked.running (request o)) (given_backtracks o) text

-- ---- outcomes

-- a code without details
abbrev pub coded : ℕ → FancyOutcome
coded code = record { code = code; byte = usize_max; group = usize_max; count = 0; next = usize_max }

-- the outcome with so many
abbrev pub with_count : ℕ → FancyOutcome → FancyOutcome
with_count count outcome = record outcome { count = count }

-- the bytes are no text from this one on
abbrev pub not_utf8 : ℕ → FancyOutcome
not_utf8 byte = record (coded no_text) { byte = byte }

abbrev pub compiled : ℕ → FancyOutcome
compiled groups = record (coded ok) { count = groups }

-- an error with the byte or the group that it names
abbrev pub failure : Error → FancyOutcome
failure (error.TreeFault at) = record (coded (code_of (error.TreeFault at))) { byte = at }
failure (error.CompileError (refusal.InvalidBackref group)) =
    record (coded (code_of (error.CompileError (refusal.InvalidBackref group)))) { group = group }
failure e = coded (code_of e)

-- the error of a search whose delegates passed this limit, or none: the limit is told
abbrev pub failure_by : (passed : Option SearchLimit) → Error → FancyOutcome
failure_by None e = failure e
failure_by (Some limit) e = coded (code_of_limit limit)

-- the outcome with this byte, if there is one
abbrev pub at_place : Option ℕ → FancyOutcome → FancyOutcome
at_place None outcome = outcome
at_place (Some at) outcome = record outcome { byte = at }

-- The outcome of an error of what was read, of this pattern if it is one: a refusal of a pattern has the byte where the
-- piece begins that is refused, if it is one piece; or memory was wanted to find it.
abbrev pub IsFailureFor : FancyOptions → Option (List ℕ) → Error → FancyOutcome → Type 0
IsFailureFor o (Some text) (error.CompileError refused) outcome =
    (outcome ≡ coded memory) ⊎ ((fault : Fault) × (IsFaultOf (parsing o) (analysis o) text refused fault
    × (outcome ≡ at_place fault.at (failure (error.CompileError refused)))))
IsFailureFor o pattern e outcome = outcome ≡ failure e

-- why a pattern cannot be read, with the byte
abbrev pub pattern_failure : PatternError → FancyOutcome
pattern_failure (of_parser.Parse at kind) = record (coded (code_of_kind kind)) { byte = at }
pattern_failure of_parser.Memory = coded memory

-- Where a search for the next match begins: at the end of the one that was found, or, if that took nothing, past the
-- character there.
abbrev pub next_start : List ℕ → List ℕ → ℕ
next_start text (start ∷ end ∷ others) =
    if start == end then unwrap_or (past_char text (any_takes true false) end) (min usize_max (end + 1)) else end
next_start text numbers = usize_max

-- the answer of a search whose delegates passed this limit, or none
abbrev pub outcome_of : List ℕ → (passed : Option SearchLimit) → Result (Option (Vec ℕ Global)) Error → FancyOutcome
outcome_of text passed (Ok None) = coded no_match
outcome_of text passed (Ok (Some numbers)) =
    record (coded ok) { count = length numbers.items / 2; next = next_start text numbers.items }
outcome_of text passed (Err e) = failure_by passed e

-- what is written into memory over what is there, as far as there is room
abbrev pub over : {X : Type 0} → List X → List X → List X
over new old = take (length old) new ++ drop (length new) old

-- and that from a place on
abbrev pub over_from : {X : Type 0} → ℕ → List X → List X → List X
over_from at new old = take at old ++ over new (drop at old)

-- a text over what is there, as far as there is room for it with the zero at its end
abbrev pub ended : List ℕ → List ℕ → List ℕ
ended text old = over (take (length old - 1) text ++ 0 ∷ []) old

-- the numbers of an answer over what is there
abbrev pub written : Result (Option (Vec ℕ Global)) Error → List ℕ → List ℕ
written (Ok (Some numbers)) old = over numbers.items old
written answer old = old

-- ---- what a host holds

-- what was compiled, and the names of its groups
abbrev pub compiled_of : CompiledTree → Compiled
compiled_of t = t.compiled

abbrev pub names_of : CompiledTree → Names
names_of t = analysis_names.names_of t.names.entries

-- how many groups the tree has, with group 0
abbrev pub groups : CompiledTree → ℕ
groups t = min usize_max ((prog_of (program (compiled_of t))).total_groups + 1)

abbrev pub group_count : Option CompiledTree → ℕ
group_count None = 0
group_count (Some t) = groups t

-- the tree, which several may share
abbrev pub tree_in : Searcher → CompiledTree
tree_in s = arc_value s.tree

abbrev pub tree_of : Option Searcher → Option CompiledTree
tree_of = option_map tree_in

-- the limit of these options that the delegates of the last search passed
abbrev pub passed_in : FancyOptions → Scratch → Option SearchLimit
passed_in o s = passed_by (limits o) (cost_of s)

abbrev pub passed_of : FancyOptions → Option Searcher → Option SearchLimit
passed_of o = option_and_then (λ s. passed_in o s.scratch)

-- ---- compiling

-- what a host gives to be compiled: a text in the notation of trees, or a pattern
pub data Source : Type 0 where
  notation : List ℕ → Source
  pattern : List ℕ → Source

abbrev pub bytes_of : Source → List ℕ
bytes_of (notation text) = text
bytes_of (pattern text) = text

-- the pattern, if it is one
abbrev pub pattern_in : Source → Option (List ℕ)
pattern_in (notation text) = None
pattern_in (pattern text) = Some text

-- the tree that it spells
abbrev pub IsRead : Source → FancyOptions → ExprTree → Type 0
IsRead (notation text) o t =
    IsSpelled (tokens_of text) (views.tree_of t.expr) × IsDescribed t × IsWellFormedTree t
IsRead (pattern text) o t = spelling.IsTreeOf (parsing o) (chars text) t × IsWellFormedTree t

abbrev pub asked_of : ExprTree → FancyOptions → Input
asked_of t o = input_of t (analysis o) (compilation o)

-- the analysis of the tree looks at more nodes in rounds that change something than the limit allows; 0 is no limit
pub record ExceedsAnalysisLimit (tree : ExprTree) (o : FancyOptions) : Type 0 where
  pub is_given : o.analysis_limit ≢ 0
  pub is_exceeded : o.analysis_limit < analysis_nodes tree

-- why a tree is not compiled: its analysis exceeds the limit, or memory was wanted to count it
pub data IsUnanalysed (tree : ExprTree) (o : FancyOptions) : FancyOutcome → Type 0 where
  exceeds_limit : ExceedsAnalysisLimit tree o → IsUnanalysed tree o (coded analysis_limit_exceeded)
  lacks_memory : IsUnanalysed tree o (coded memory)

-- it was compiled from the tree, which stands within the limits of the options, and has the names of its groups
pub record IsMadeOf (tree : ExprTree) (o : FancyOptions) (t : CompiledTree) : Type 0 where
  pub from : IsCompiledFrom (asked_of tree o) (compiled_of t)
  pub analysed_within : ¬ ExceedsAnalysisLimit tree o
  pub within : ¬ IsNestedOver (asked_of tree o) (Some o.max_nesting)
  pub names : names_of t ≡ (views.parsed_of tree).named_groups

-- it was compiled from the tree that is spelled
pub record IsMadeFrom (source : Source) (o : FancyOptions) (t : CompiledTree) : Type 0 where
  pub tree : ExprTree
  pub read : IsRead source o tree
  pub made : IsMadeOf tree o t

-- No tree is spelled; the analysis of the tree that is spelled exceeds its limit; it stands within that limit, and is
-- refused; or memory was.
pub data FailsToCompile (o : FancyOptions) : Source → FancyOutcome → Type 0 where
  unread : {text : List ℕ} (e : Error) → IsFault (length text) (tokens_of text) e →
      FailsToCompile o (notation text) (failure e)
  unspelled : {text : List ℕ} (e : PatternError) → spelling.IsError (parsing o) (chars text) e →
      FailsToCompile o (pattern text) (pattern_failure e)
  unanalysed : {source : Source} {outcome : FancyOutcome} (t : ExprTree) → IsRead source o t → IsUnanalysed t o outcome →
      FailsToCompile o source outcome
  refused : {source : Source} {outcome : FancyOutcome} (t : ExprTree) (e : Error) → IsRead source o t →
      ¬ ExceedsAnalysisLimit t o → IsRefusedAs (asked_of t o) (Some o.max_nesting) e →
      IsFailureFor o (pattern_in source) e outcome → FailsToCompile o source outcome

-- Whether it nests as the options allow: a pattern is bounded where it is read.
abbrev pub IsFlat : Source → FancyOptions → Type 0
IsFlat (notation text) o = depth text ≤ o.max_depth
IsFlat (pattern text) o = Unit {0}

-- the options have another size, or the bytes are no text
pub data IsNoText (bytes : List ℕ) (o : FancyOptions) : FancyOutcome → Type 0 where
  has_another_size : IsFalse (has_size o) → IsNoText bytes o (coded wrong_size)
  is_no_text : IsTrue (has_size o) → ¬ IsUtf8 bytes → IsNoText bytes o (not_utf8 (utf8_valid_len bytes))

-- what a program holds after something was to be compiled, and the outcome
pub data Compiles (source : Source) (o : FancyOptions) : Option CompiledTree → FancyOutcome → Type 0 where
  spells_no_text : {outcome : FancyOutcome} → IsNoText (bytes_of source) o outcome → Compiles source o None outcome
  nests_too_deep : IsTrue (has_size o) → IsUtf8 (bytes_of source) → ¬ IsFlat source o →
      Compiles source o None (coded too_deep)
  fails : {outcome : FancyOutcome} → IsTrue (has_size o) → IsUtf8 (bytes_of source) → IsFlat source o →
      FailsToCompile o source outcome → Compiles source o None outcome
  holds : {t : CompiledTree} → IsTrue (has_size o) → IsUtf8 (bytes_of source) → IsFlat source o →
      IsMadeFrom source o t → Compiles source o (Some t) (compiled (groups t))

-- what a copy of a program holds, and the outcome: what the program holds, or nothing where memory is wanted
pub data Clones : Option CompiledTree → Option CompiledTree → FancyOutcome → Type 0 where
  holds_nothing : Clones None None (coded no_program)
  lacks_memory : {t : CompiledTree} → Clones (Some t) None (coded memory)
  holds_the_same : {t : CompiledTree} → Clones (Some t) (Some t) (compiled (groups t))

-- ---- searches

-- the answer of a search is promised, and within its bounds
abbrev pub IsPromised : Compiled → List ℕ → FancyOptions → Result (Option (Vec ℕ Global)) Error → Type 0
IsPromised c text o answer =
    (i : Input) → IsCompiledFrom i c → Promises i text (running o text) answer × Bounds i text (running o text) answer

-- the options fit the program and the text
abbrev pub fits : CompiledTree → List ℕ → FancyOptions → Bool
fits t text o = run_fits (record { program = prog_of (program (compiled_of t)); text = text; options = running o text })

-- What a search writes whose delegates passed this limit, or none, and its outcome: it is unfit exactly where the options
-- do not fit the program and the text, and a limit of the delegates is told exactly where it was passed.
pub data Answers (t : CompiledTree) (text : List ℕ) (o : FancyOptions) (passed : Option SearchLimit) (old : List ℕ) :
    List ℕ → FancyOutcome → Type 0 where
  does_not_fit : IsFalse (fits t text o) → Answers t text o passed old old (coded unfit)
  answered : IsTrue (fits t text o) → (answer : Result (Option (Vec ℕ Global)) Error) →
      IsPromised (compiled_of t) text o answer → StaysWithin answer passed →
      Answers t text o passed old (written answer old) (outcome_of text passed answer)

-- No search is made: the options have another size, the bytes are no text, or the program holds no tree.
pub data IsNoSearch (text : List ℕ) (o : FancyOptions) : Option CompiledTree → FancyOutcome → Type 0 where
  in_no_text : {held : Option CompiledTree} {outcome : FancyOutcome} → IsNoText text o outcome →
      IsNoSearch text o held outcome
  for_no_tree : IsTrue (has_size o) → IsUtf8 text → IsNoSearch text o None (coded no_program)

-- a search is made for a tree that is held
pub record IsSearch (text : List ℕ) (o : FancyOptions) (held : Option CompiledTree) : Type 0 where
  pub size : IsTrue (has_size o)
  pub utf8 : IsUtf8 text
  pub tree : IsSome held

-- what a search answers by a program that may hold no tree, in bytes that may be no text
pub data FindsFirst (text : List ℕ) (o : FancyOptions) (passed : Option SearchLimit) (old : List ℕ) :
    Option CompiledTree → List ℕ → FancyOutcome → Type 0 where
  unsearched : {held : Option CompiledTree} {outcome : FancyOutcome} → IsNoSearch text o held outcome →
      FindsFirst text o passed old held old outcome
  found : {t : CompiledTree} {new : List ℕ} {outcome : FancyOutcome} → IsSearch text o (Some t) →
      Answers t text o passed old new outcome → FindsFirst text o passed old (Some t) new outcome
