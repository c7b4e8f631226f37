-- What the errors of the code stand for, and what is said of them.
use Rattle.std.specs.Prelude.{◌++◌, ℕ, List, codes, decimal, string_bytes}
use Rattle.fancy_meaning.specs.AnalysisRefusals as plain
use Rattle.fancy_expr.specs.declared.error.CompileError.{CompileError}
use Rattle.fancy_expr.specs.declared.error.CompileError.TheVariants as code
use Rattle.fancy_expr.specs.declared.error.RuntimeError.{RuntimeError}
use Rattle.fancy_expr.specs.declared.error.RuntimeError.TheVariants as limit
use Rattle.fancy_expr.specs.declared.error.Error.{Error}
use Rattle.fancy_expr.specs.declared.error.Error.TheVariants as error

abbrev pub error_of : CompileError → plain.CompileError
error_of code.NamedBackrefOnly = plain.NamedBackrefOnly
error_of code.FeatureNotYetSupported = plain.FeatureNotYetSupported
error_of code.SubroutineCallTargetNotFound = plain.SubroutineCallTargetNotFound
error_of code.UnresolvedAstNode = plain.UnresolvedAstNode
error_of (code.InvalidBackref g) = plain.InvalidBackref g
error_of (code.LeftRecursiveSubroutineCall text) = plain.LeftRecursiveSubroutineCall (string_bytes text)
error_of code.NeverEndingRecursion = plain.NeverEndingRecursion
error_of code.VariableLookBehindRequiresFeature = plain.VariableLookBehindRequiresFeature
error_of (code.InnerError text) = plain.InnerError (string_bytes text)
error_of (code.ClassTooBig text) = plain.ClassTooBig (string_bytes text)
error_of code.PatternTooComplex = plain.PatternTooComplex

abbrev pub refusal_text : CompileError → List ℕ
refusal_text code.NamedBackrefOnly = codes "groups that have names are referred to by their names"
refusal_text code.FeatureNotYetSupported = codes "this is not supported yet"
refusal_text code.SubroutineCallTargetNotFound = codes "a call names a group that is not there"
refusal_text code.UnresolvedAstNode = codes "a node of the tree was not resolved"
refusal_text (code.InvalidBackref g) = codes "there is no group " ++ decimal g
refusal_text (code.LeftRecursiveSubroutineCall group) = string_bytes group ++ codes " calls itself before anything is taken"
refusal_text code.NeverEndingRecursion = codes "the calls never end"
refusal_text code.VariableLookBehindRequiresFeature = codes "a lookbehind takes different numbers of characters"
refusal_text (code.InnerError class) = codes "the class " ++ (string_bytes class ++ codes " cannot be read")
refusal_text (code.ClassTooBig class) = codes "the class " ++ (string_bytes class ++ codes " is too big")
refusal_text code.PatternTooComplex = codes "the program is too big"

abbrev pub limit_text : RuntimeError → List ℕ
limit_text limit.BacktrackLimitExceeded = codes "too many branches failed"
limit_text limit.StackOverflow = codes "too many branches were held"
limit_text limit.StepLimitExceeded = codes "too many instructions were executed"

abbrev pub error_text : Error → List ℕ
error_text (error.CompileError e) = refusal_text e
error_text (error.RuntimeError e) = limit_text e
error_text (error.TreeFault at) = codes "the tree cannot be read at byte " ++ decimal at
error_text error.NestLimitExceeded = codes "the tree nests deeper than the limit"
error_text error.Memory = codes "memory ran out"
