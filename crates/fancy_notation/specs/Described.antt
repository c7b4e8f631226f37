-- What comes with a tree that was read: references, group count, calls.
pub use Rattle.fancy_expr.specs.BackReferences.{first_past, up_to}
use Rattle.std.specs.Prelude.{◌≡◌, Bool, true, false, []}
use Rattle.std.specs.List.{list_any}
use Rattle.fancy_meaning.specs.Tree.{Tree, Backref, BackrefWithLevel, BackrefExists}
use Rattle.fancy_meaning.specs.Nodes.{nodes}
use Rattle.fancy_meaning.specs.WellFormed.{is_call}
use Rattle.fancy_expr.specs.declared.expr.ExprTree.{ExprTree}
use Rattle.fancy_expr.specs.BackReferences.{references}
use Rattle.fancy_expr.specs.Views.{tree_of}

-- a node names a group by its number
abbrev pub names_number : Tree → Bool
names_number (Backref g casei) = true
names_number (BackrefWithLevel g level casei) = true
names_number (BackrefExists g level) = true
names_number e = is_call e

pub record IsDescribed (t : ExprTree) : Type 0 where
  pub backrefs : t.backrefs.keys ≡ up_to t.total_groups [] (references (tree_of t.expr))
  pub out_of_range : t.out_of_range_backref ≡ first_past t.total_groups (references (tree_of t.expr))
  pub numeric : t.numeric_capture_group_references ≡ list_any names_number (nodes (tree_of t.expr))
  pub calls : t.contains_subroutines ≡ list_any is_call (nodes (tree_of t.expr))
  pub not_ignored : t.numbered_groups_ignored ≡ false
  pub not_named : t.named_groups.entries ≡ []
