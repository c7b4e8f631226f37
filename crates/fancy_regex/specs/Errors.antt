-- What errors stand for, those of the engine and those of patterns, and what is said of them.
use Rattle.std.specs.Prelude.{ℕ, List, codes, Option, Some, None, Result, Ok, Err}
use Rattle.fancy_expr.specs.declared.error.Error as engine
use Rattle.fancy_expr.specs.declared.error.Error.TheVariants as of_engine
use Rattle.fancy_expr.specs.Errors.{limit_text, refusal_text}
use Rattle.fancy_steps.specs.declared.search_limits.SearchLimit.{SearchLimit}
use Rattle.fancy_steps.specs.declared.search_limits.SearchLimit.TheVariants as limit
use Rattle.fancy_pattern.specs.Messages as pattern
use Rattle.fancy_pattern.specs.declared.error.PatternError.{PatternError}
use Rattle.fancy_pattern.specs.declared.error.PatternError.TheVariants as of_parser
use Rattle.fancy_regex.specs.declared.error.Error.{Error}
use Rattle.fancy_regex.specs.declared.error.Error.TheVariants as face

-- The error as the engine has it, to which a limit inside easy parts is want of memory. The engine reads no pattern, and
-- asks no limit of the analysis: no search answers what stands for a `ParseError` or for `AnalysisLimitExceeded`.
abbrev pub engine_error : Error → engine.Error
engine_error (face.ParseError at kind) = of_engine.TreeFault at
engine_error (face.CompileError e) = of_engine.CompileError e
engine_error (face.RuntimeError e) = of_engine.RuntimeError e
engine_error face.NestLimitExceeded = of_engine.NestLimitExceeded
engine_error face.AnalysisLimitExceeded = of_engine.TreeFault 0
engine_error face.VisitLimitExceeded = of_engine.Memory
engine_error face.MemoryLimitExceeded = of_engine.Memory
engine_error face.Memory = of_engine.Memory

-- the limit inside easy parts that it tells of
abbrev pub limit_told : Error → Option SearchLimit
limit_told face.VisitLimitExceeded = Some limit.Visits
limit_told face.MemoryLimitExceeded = Some limit.Bytes
limit_told e = None

-- the error of a pattern that was not read
abbrev pub of_pattern : PatternError → Error
of_pattern (of_parser.Parse at kind) = face.ParseError at kind
of_pattern of_parser.Memory = face.Memory

-- a reply as the engine has it
abbrev pub reply_of : {A : Type 0} → Result A Error → Result A engine.Error
reply_of (Ok x) = Ok x
reply_of (Err e) = Err (engine_error e)

-- the limit inside easy parts that a reply tells of
abbrev pub limit_in : {A : Type 0} → Result A Error → Option SearchLimit
limit_in (Ok x) = None
limit_in (Err e) = limit_told e

-- an item of a list as the engine has it
abbrev pub item_of : {A : Type 0} → Option (Result A Error) → Option (Result A engine.Error)
item_of None = None
item_of (Some reply) = Some (reply_of reply)

-- and the limit that it tells of
abbrev pub limit_of_item : {A : Type 0} → Option (Result A Error) → Option SearchLimit
limit_of_item None = None
limit_of_item (Some reply) = limit_in reply

-- what is said of an error
abbrev pub error_text : Error → List ℕ
error_text (face.ParseError at kind) = pattern.error_text (of_parser.Parse at kind)
error_text (face.CompileError e) = refusal_text e
error_text (face.RuntimeError e) = limit_text e
error_text face.NestLimitExceeded = codes "the pattern nests deeper than the limit"
error_text face.AnalysisLimitExceeded = codes "the analysis of the pattern exceeds its limit"
error_text face.VisitLimitExceeded = codes "too many states were visited"
error_text face.MemoryLimitExceeded = codes "too much memory was held"
error_text face.Memory = codes "out of memory"
