-- What is said of a tree that is refused.
use Rattle.std.specs.Prelude.{◌≡◌, ◌++◌, ℕ, List, codes, decimal, string_bytes, Option, None, Some}
use Rattle.fancy_expr.specs.declared.error.CompileError.{CompileError}
use Rattle.fancy_expr.specs.declared.error.CompileError.TheVariants as refusal
use Rattle.fancy_expr.specs.declared.expr.AstNode.{AstNode}
use Rattle.fancy_expr.specs.declared.expr.AstNode.TheVariants as node
use Rattle.fancy_expr.specs.declared.expr.CaptureGroupTarget.{CaptureGroupTarget}
use Rattle.fancy_expr.specs.declared.expr.CaptureGroupTarget.TheVariants as target
use Rattle.fancy_expr.specs.declared.expr.Expr.{Expr}
use Rattle.fancy_expr.specs.declared.expr.Expr.TheVariants as expr

-- there is no group with this name or number
abbrev pub of_target : CaptureGroupTarget → List ℕ
of_target (target.ByName name) = codes "there is no group named '" ++ (string_bytes name ++ codes "'")
of_target (target.ByNumber number) = codes "there is no group " ++ decimal number
of_target (target.Relative offset) = codes "there is no group with this relative number"

abbrev pub of_unresolved : AstNode → List ℕ
of_unresolved (node.Backref t) = of_target t
of_unresolved (node.BackrefExistsCondition t) = of_target t
of_unresolved (node.SubroutineCall t) = of_target t
of_unresolved node.AstGroup = codes "a group of the tree has no number"

-- what is not supported of a node
abbrev pub unsupported : Expr → List ℕ
unsupported (expr.BackrefWithRelativeRecursionLevel _ _ _) = codes "a reference with a recursion level is not supported"
unsupported (expr.BackrefExistsCondition _ _) = codes "a condition with a recursion level is not supported"
unsupported (expr.BacktrackingControlVerb _) = codes "this verb is not supported"
unsupported (expr.Absent _) = codes "this kind of absent operator is not supported"
unsupported (expr.Repeat' _ _ _ _ _) = codes "a lazy repetition is not supported if the longest match is asked for"
unsupported e = codes "this is not supported"

-- what is said of a refusal that is for no node, or says the same of each
abbrev pub fixed : CompileError → List ℕ
fixed refusal.NamedBackrefOnly = codes "if groups have names, references use the names"
fixed refusal.NeverEndingRecursion = codes "the recursion never ends"
fixed refusal.VariableLookBehindRequiresFeature = codes "the body of a look-behind has no fixed length"
fixed refusal.PatternTooComplex = codes "the program exceeds its limit of instructions"
fixed refusal.SubroutineCallTargetNotFound = codes "a call names a group that does not exist"
fixed refusal.UnresolvedAstNode = codes "a reference names a group that does not exist"
fixed refused = codes "this is not supported"

abbrev pub of_node : CompileError → Expr → List ℕ
of_node refused (expr.AstNode n _) = of_unresolved n
of_node refusal.SubroutineCallTargetNotFound (expr.SubroutineCall group) = codes "there is no group " ++ decimal group
of_node refusal.FeatureNotYetSupported e = unsupported e
of_node refused e = fixed refused

-- the class is invalid, for some reason
abbrev pub IsInvalid : List ℕ → List ℕ → Type 0
IsInvalid class text = (why : List ℕ) × (text ≡ codes "the class " ++ (class ++ (codes " is invalid: " ++ why)))

-- what is said of a refusal that is for this node, or for none
abbrev pub Says : CompileError → Option Expr → List ℕ → Type 0
Says (refusal.InnerError class) e text = IsInvalid (string_bytes class) text
Says (refusal.InvalidBackref group) e text = text ≡ codes "there is no group " ++ decimal group
Says (refusal.LeftRecursiveSubroutineCall group) e text = text ≡ string_bytes group ++ codes " calls itself before it matches a character"
Says (refusal.ClassTooBig class) e text = text ≡ codes "the class " ++ (string_bytes class ++ codes " is too big")
Says refused (Some e) text = text ≡ of_node refused e
Says refused None text = text ≡ fixed refused
