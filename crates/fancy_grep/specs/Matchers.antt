-- What is searched for in each line: a regex, and what each match takes.
use Rattle.std.specs.Prelude.{ℕ, IfSome, List, Option, true}
use Rattle.fancy_expr.specs.Views.{tree_of}
use Rattle.fancy_expr.specs.declared.expr.ExprTree.{ExprTree}
use Rattle.fancy_literals.specs.Required.{IsRequiredOf, required_of}
use Rattle.fancy_literals.specs.declared.required.Required.{Required}
use Rattle.fancy_regex.specs.Builders.{IsBuilt, IsTreeOf}
use Rattle.fancy_regex.specs.declared.options.RegexOptions.{RegexOptions}
use Rattle.fancy_grep.specs.declared.patterns.Matcher.{Matcher}

-- this is required of the tree, which is compiled with `unicode`, if something is
abbrev pub IsRequiredIn : ExprTree → Option Required → Type 0
IsRequiredIn tree required = IfSome required (λ r. IsRequiredOf (required_of r) true true (tree_of tree.expr))

-- The regex is that of the pattern, and what is looked for is required of the tree that this spells.
pub record IsMatcherOf (pattern : List ℕ) (o : RegexOptions) (m : Matcher) : Type 0 where
  pub built : IsBuilt pattern o m.regex
  pub required : (tree : ExprTree) → IsTreeOf pattern o tree → IsRequiredIn tree m.required
