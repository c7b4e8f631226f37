use Rattle.std.proofs.Common.{◌≡◌, ◌∙◌, sym, ap, not, Contains, subst}
use Rattle.std.specs.List.{list_any}
use Rattle.fancy_meaning.specs.Tree as plain
use Rattle.fancy_meaning.specs.Nodes.{nodes}
use Rattle.fancy_expr.specs.Views.{tree_of}
use Rattle.fancy_expr.specs.Questions.{is_unlisted}
use Rattle.fancy_expr.proofs.Listed.{any-nodes, any_fails_at, none_passes, listed_there, is_unlisted_not, not_true}
use Rattle.fancy_expr.proofs.well_formed.are_listed.Goals as goal

pub returns : goal.returns
returns c =
    let t = c.args.tree.now in
    let test = is_unlisted t.backrefs.keys t.total_groups in
    let same : c.has_node.result ≡ list_any test (nodes (tree_of t.expr)) = c.has_node.ensures ∙ any-nodes test t.expr in (
      λ h g casei there le. listed_there t.backrefs.keys t.total_groups g
          (any_fails_at test (nodes (tree_of t.expr)) (plain.Backref g casei) (sym same ∙ not_true h) there) le,
      λ h. ap not (same ∙ none_passes test (nodes (tree_of t.expr))
          (λ x there. is_unlisted_not t.backrefs.keys t.total_groups x (λ g casei is le. h g casei (subst (Contains (nodes (tree_of t.expr))) is there) le))),
    )
