use Rattle.std.proofs.Common.{false, [], refl, ap, ◌∙◌}
use Rattle.fancy_meaning.specs.Nodes.{nodes}
use Rattle.fancy_expr.specs.Views.{tree_of}
use Rattle.fancy_notation.specs.References.{with_nodes}
use Rattle.fancy_notation.specs.Described.{first_past, up_to}
use Rattle.fancy_notation.specs.NotationViews.{referenced_of}
use Rattle.fancy_notation.proofs.DescribedTrees.{described_by}
use Rattle.fancy_notation.proofs.notation.described.Goals as goal

pub returns : goal.returns
returns c = (
  refl,
  refl,
  described_by _ (referenced_of c.add_all.new.self) (c.in_ok-add_all.ensures
      ∙ ap (λ l. with_nodes (record { references = l; numeric = false; calls = false }) (nodes (tree_of c.args.expr))) c.new.ensures.items)
      (c.in_ok-backrefs.ensures ∙ ap (up_to c.args.total_groups []) c.deref.ensures.value) (c.first_past.ensures
      ∙ ap (first_past c.args.total_groups) c.deref-2.ensures.value) refl refl refl c.new-2.ensures.empty,
)
