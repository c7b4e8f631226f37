-- Which trees begin with an anchor.
use Rattle.std.proofs.Common.{◌≡◌, Bool, false, Option, Some, None, slice_get, Vec, Global, refl, ap, ◌∙◌}
use mathlib.Core.Former.{Count}
use Rattle.fancy_meaning.specs.Tree as plain
use Rattle.fancy_meaning.specs.Laws.{can_be_anchored, is_anchor}
use Rattle.fancy_expr.specs.declared.expr.Absent.TheViews as view
use Rattle.fancy_expr.specs.declared.expr.Absent.TheBlock.{hidden-the_row-Expr-0}
use Rattle.fancy_expr.specs.declared.expr.Expr.{Expr, Row_of-Expr, end_of-Expr, more_of-Expr}
use Rattle.fancy_expr.specs.Exprs.{in_row}
use Rattle.fancy_expr.specs.Views.{tree_of, trees_of}
use Rattle.fancy_expr.proofs.Exprs.{below-concat}

-- the first child is an anchor
abbrev pub first_anchored : Option Expr → Bool
first_anchored None = false
first_anchored (Some e) = is_anchor (tree_of e)

row_anchored : (n : Count) (k : Row_of-Expr n) → can_be_anchored (plain.Concat (trees_of k)) ≡ first_anchored (slice_get (in_row k) 0)
row_anchored _ end_of-Expr = refl
row_anchored _ (more_of-Expr e k) = refl

pub concat_anchored : (e : Expr) (v : Vec Expr Global) → e ≡ view.Concat v → can_be_anchored (tree_of e) ≡ first_anchored (slice_get v.items 0)
concat_anchored e v is =
    ap (λ x. can_be_anchored (tree_of x)) is ∙ row_anchored _ (hidden-the_row-Expr-0 v)
    ∙ ap (λ l. first_anchored (slice_get l 0)) (below-concat (view.Concat v) v refl)
