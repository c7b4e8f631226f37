use Rattle.std.proofs.Common.{sym, ap, subst}
use Rattle.fancy_expr.specs.Views.{tree_of}
use Rattle.fancy_pattern.specs.Reading.{OneCharEach}
use Rattle.fancy_pattern.proofs.node_stack.push_boxed.Goals as goal

pub returns : goal.returns
returns c = λ chars. record {
  node = c.into_inner.result;
  added = c.in_ok-push.ensures.items;
  made = ap tree_of c.into_inner.ensures;
  one_char = subst OneCharEach (sym c.into_inner.ensures) chars;
}
