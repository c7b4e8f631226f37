-- The codes of outcomes, and their names.
use Rattle.std.specs.Prelude.{ℕ, List, [], ◌∷◌, codes, slice_index_or}
use Rattle.fancy_expr.specs.declared.error.Error.{Error}
use Rattle.fancy_expr.specs.declared.error.Error.TheVariants as error
use Rattle.fancy_expr.specs.declared.error.RuntimeError.{RuntimeError}
use Rattle.fancy_expr.specs.declared.error.RuntimeError.TheVariants as limit
use Rattle.fancy_expr.specs.declared.error.CompileError.{CompileError}
use Rattle.fancy_expr.specs.declared.error.CompileError.TheVariants as refusal
use Rattle.fancy_steps.specs.declared.search_limits.SearchLimit.{SearchLimit}
use Rattle.fancy_steps.specs.declared.search_limits.SearchLimit.TheVariants as search
use Rattle.fancy_scanner.specs.declared.scan_limit.ScanLimit.{ScanLimit}
use Rattle.fancy_scanner.specs.declared.scan_limit.ScanLimit.TheVariants as scan
use Rattle.fancy_tokens.specs.declared.error.ErrorKind.{ErrorKind}
use Rattle.fancy_tokens.specs.declared.error.ErrorKind.TheVariants as kind

abbrev pub ok : ℕ
ok = 0

abbrev pub no_match : ℕ
no_match = 1

abbrev pub no_program : ℕ
no_program = 2

abbrev pub no_text : ℕ
no_text = 3

abbrev pub unfit : ℕ
unfit = 4

abbrev pub memory : ℕ
memory = 5

abbrev pub too_deep : ℕ
too_deep = 21

abbrev pub wrong_size : ℕ
wrong_size = 39

abbrev pub no_room : ℕ
no_room = 40

abbrev pub analysis_limit_exceeded : ℕ
analysis_limit_exceeded = 43

abbrev pub code_of_refusal : CompileError → ℕ
code_of_refusal refusal.NamedBackrefOnly = 10
code_of_refusal refusal.FeatureNotYetSupported = 11
code_of_refusal refusal.SubroutineCallTargetNotFound = 12
code_of_refusal refusal.UnresolvedAstNode = 13
code_of_refusal (refusal.InvalidBackref group) = 14
code_of_refusal (refusal.LeftRecursiveSubroutineCall group) = 15
code_of_refusal refusal.NeverEndingRecursion = 16
code_of_refusal refusal.VariableLookBehindRequiresFeature = 17
code_of_refusal (refusal.InnerError text) = 18
code_of_refusal (refusal.ClassTooBig text) = 19
code_of_refusal refusal.PatternTooComplex = 20

-- a limit of backtracks, branches or instructions
abbrev pub code_of_run : RuntimeError → ℕ
code_of_run limit.BacktrackLimitExceeded = 7
code_of_run limit.StackOverflow = 8
code_of_run limit.StepLimitExceeded = 9

abbrev pub code_of : Error → ℕ
code_of error.Memory = 5
code_of (error.TreeFault at) = 6
code_of (error.RuntimeError e) = code_of_run e
code_of (error.CompileError e) = code_of_refusal e
code_of error.NestLimitExceeded = 22

-- a limit of the delegates of a search
abbrev pub code_of_limit : SearchLimit → ℕ
code_of_limit search.Visits = 41
code_of_limit search.Bytes = 42

-- a limit that stopped the search for a pattern of a scanner
abbrev pub code_of_scan_limit : ScanLimit → ℕ
code_of_scan_limit (scan.RuntimeError e) = code_of_run e
code_of_scan_limit scan.VisitLimitExceeded = code_of_limit search.Visits
code_of_scan_limit scan.MemoryLimitExceeded = code_of_limit search.Bytes

-- what is wrong with a pattern
abbrev pub code_of_kind : ErrorKind → ℕ
code_of_kind kind.UnclosedOpenParen = 23
code_of_kind kind.UnopenedCloseParen = 24
code_of_kind kind.InvalidRepeat = 25
code_of_kind kind.RecursionExceeded = 21
code_of_kind kind.TrailingBackslash = 26
code_of_kind kind.InvalidEscape = 27
code_of_kind kind.UnclosedUnicodeName = 28
code_of_kind kind.InvalidHex = 29
code_of_kind kind.InvalidCodepointValue = 30
code_of_kind kind.InvalidClass = 31
code_of_kind kind.UnknownFlag = 32
code_of_kind kind.NonUnicodeUnsupported = 33
code_of_kind kind.InvalidGroupName = 34
code_of_kind kind.InvalidGroupNameBackref = 35
code_of_kind kind.InvalidBackref = 36
code_of_kind kind.TargetNotRepeatable = 37
code_of_kind kind.GeneralParseError = 38

-- the name of each code, from 0 up
abbrev pub names : List (List ℕ)
names =
    codes "Ok"
    ∷ codes "NoMatch"
    ∷ codes "NoProgram"
    ∷ codes "NotUtf8"
    ∷ codes "Unfit"
    ∷ codes "Memory"
    ∷ codes "TreeFault"
    ∷ codes "BacktrackLimitExceeded"
    ∷ codes "StackOverflow"
    ∷ codes "StepLimitExceeded"
    ∷ codes "NamedBackrefOnly"
    ∷ codes "FeatureNotYetSupported"
    ∷ codes "SubroutineCallTargetNotFound"
    ∷ codes "UnresolvedAstNode"
    ∷ codes "InvalidBackref"
    ∷ codes "LeftRecursiveSubroutineCall"
    ∷ codes "NeverEndingRecursion"
    ∷ codes "VariableLookBehindRequiresFeature"
    ∷ codes "InnerError"
    ∷ codes "ClassTooBig"
    ∷ codes "PatternTooComplex"
    ∷ codes "RecursionExceeded"
    ∷ codes "NestLimitExceeded"
    ∷ codes "UnclosedOpenParen"
    ∷ codes "UnopenedCloseParen"
    ∷ codes "InvalidRepeat"
    ∷ codes "TrailingBackslash"
    ∷ codes "InvalidEscape"
    ∷ codes "UnclosedUnicodeName"
    ∷ codes "InvalidHex"
    ∷ codes "InvalidCodepointValue"
    ∷ codes "InvalidClass"
    ∷ codes "UnknownFlag"
    ∷ codes "NonUnicodeUnsupported"
    ∷ codes "InvalidGroupName"
    ∷ codes "InvalidGroupNameBackref"
    ∷ codes "InvalidBackrefNumber"
    ∷ codes "TargetNotRepeatable"
    ∷ codes "GeneralParseError"
    ∷ codes "WrongSize"
    ∷ codes "NoRoom"
    ∷ codes "VisitLimitExceeded"
    ∷ codes "MemoryLimitExceeded"
    ∷ codes "AnalysisLimitExceeded"
    ∷ []

-- no code has a name of no letters
abbrev pub name_of : ℕ → List ℕ
name_of code = slice_index_or names code []
