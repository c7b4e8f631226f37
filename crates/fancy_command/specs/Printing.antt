-- The text of each line: numbers, names of refusals and limits, usage.
use Rattle.std.specs.Prelude.{ℕ, List, [], ◌∷◌, ◌++◌, Option, Some, None, if◌then◌else◌, ◌==◌, codes, decimal, string_bytes}
use Rattle.std.specs.List.{flat_map}
use Rattle.std.specs.declared.vec.Vec.{Vec}
use Rattle.std.specs.declared.alloc.Global.{Global}
use Rattle.fancy_meaning.specs.Numbers.{usize_max}
use Rattle.fancy_expr.specs.declared.error.Error.{Error}
use Rattle.fancy_expr.specs.declared.error.Error.TheVariants as error
use Rattle.fancy_expr.specs.declared.error.RuntimeError.{RuntimeError}
use Rattle.fancy_expr.specs.declared.error.RuntimeError.TheVariants as limit
use Rattle.fancy_expr.specs.declared.error.CompileError.{CompileError}
use Rattle.fancy_expr.specs.declared.error.CompileError.TheVariants as refusal

abbrev pub newline : List ℕ
newline = 10 ∷ []

-- a number of an answer; `-` is one that is not set
abbrev pub number_text : ℕ → List ℕ
number_text n = if n == usize_max then codes "-" else decimal n

-- numbers separated by one space
abbrev pub numbers_text : List ℕ → List ℕ
numbers_text [] = []
numbers_text (n ∷ ns) = number_text n ++ flat_map (λ m. 32 ∷ number_text m) ns

abbrev pub answer_text : Option (Vec ℕ Global) → List ℕ
answer_text None = codes "none"
answer_text (Some numbers) = numbers_text numbers.items

abbrev pub answer_line : Option (Vec ℕ Global) → List ℕ
answer_line answer = answer_text answer ++ newline

abbrev pub limit_text : RuntimeError → List ℕ
limit_text limit.BacktrackLimitExceeded = codes "BacktrackLimitExceeded"
limit_text limit.StackOverflow = codes "StackOverflow"
limit_text limit.StepLimitExceeded = codes "StepLimitExceeded"

-- the name of a refusal, and for two of them what it carries
abbrev pub compile_error_text : CompileError → List ℕ
compile_error_text refusal.NamedBackrefOnly = codes "NamedBackrefOnly"
compile_error_text refusal.FeatureNotYetSupported = codes "FeatureNotYetSupported"
compile_error_text refusal.SubroutineCallTargetNotFound = codes "SubroutineCallTargetNotFound"
compile_error_text refusal.UnresolvedAstNode = codes "UnresolvedAstNode"
compile_error_text (refusal.InvalidBackref group) = codes "InvalidBackref " ++ decimal group
compile_error_text (refusal.LeftRecursiveSubroutineCall group) =
    codes "LeftRecursiveSubroutineCall " ++ string_bytes group
compile_error_text refusal.NeverEndingRecursion = codes "NeverEndingRecursion"
compile_error_text refusal.VariableLookBehindRequiresFeature = codes "VariableLookBehindRequiresFeature"
compile_error_text (refusal.InnerError text) = codes "InnerError"
compile_error_text (refusal.ClassTooBig text) = codes "ClassTooBig"
compile_error_text refusal.PatternTooComplex = codes "PatternTooComplex"

abbrev pub compile_error_line : CompileError → List ℕ
compile_error_line e = compile_error_text e ++ newline

abbrev pub error_text : Error → List ℕ
error_text (error.CompileError e) = compile_error_text e
error_text (error.RuntimeError e) = limit_text e
error_text (error.TreeFault at) = codes "TreeFault " ++ decimal at
error_text error.NestLimitExceeded = codes "NestLimitExceeded"
error_text error.Memory = codes "Memory"

abbrev pub error_line : Error → List ℕ
error_line e = error_text e ++ newline

-- TREE nests too deep
abbrev pub depth_line : List ℕ
depth_line = codes "RecursionExceeded" ++ newline

abbrev pub usage_line : List ℕ
usage_line = codes "usage: fancyrun TREE TEXT [POS] [options]" ++ newline
