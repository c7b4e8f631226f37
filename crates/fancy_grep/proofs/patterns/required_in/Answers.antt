use Rattle.std.proofs.Common.{IfSome, chars, subst, sym, true}
use Rattle.std.proofs.lemmas.Option.{IfSome_then}
use Rattle.std.proofs.lemmas.Result.{IfOk-weaker}
use Rattle.fancy_expr.specs.Views.{tree_of}
use Rattle.fancy_expr.specs.declared.expr.ExprTree.{ExprTree}
use Rattle.fancy_literals.specs.Required.{IsRequiredOf, required_of}
use Rattle.fancy_pattern.specs.Spelling.{Spells}
use Rattle.fancy_regex.specs.Builders.{IsTreeOf}
use Rattle.fancy_grep.specs.Matchers.{IsRequiredIn}
use Rattle.fancy_grep.specs.RegexOptions.{options_for}
use Rattle.fancy_grep.proofs.patterns.required_in.Goals as goal

pub returns-in-Ok : goal.returns-in-Ok
returns-in-Ok c =
    let o = options_for c.args.options in
    IfOk-weaker c.required_by.result
    (λ found. IfSome found (λ r. IsRequiredOf (required_of r) true true (tree_of c.in-Ok.tree.expr)))
    (λ found. (tree : ExprTree) → IsTreeOf c.args.pattern.now o tree → IsRequiredIn tree found)
    (λ found h tree is. IfSome_then found h (λ r. subst (IsRequiredOf (required_of r) true true)
    (c.in-Ok.ensures.reads (tree_of tree.expr)
    (subst (λ p. Spells p (chars c.args.pattern.now) (tree_of tree.expr)) (sym c.parsing.ensures) ((is.spelled).spells)))))
    c.required_by.ensures
