-- How many groups nodes are, and the nodes of each tree of a list.
use Rattle.std.proofs.Common.{◌≡◌, ℕ, ◌+◌, List, ◌∷◌, ◌++◌, length, filter_map, ap, ◌∙◌, length-append}
use Rattle.std.proofs.lemmas.List.Elements.{filter_map-append}
use Rattle.fancy_meaning.specs.Tree.{Tree, trees}
use Rattle.fancy_meaning.specs.Nodes.{nodes, nodes_of_each, as_group}

unfoldable pub count : List Tree → ℕ
count es = length (filter_map as_group es)

pub count-append : (a b : List Tree) → count (a ++ b) ≡ count a + count b
unfolding count
count-append a b = ap length (filter_map-append as_group a b) ∙ length-append (filter_map as_group a) (filter_map as_group b)

unfoldable pub row : List Tree → ℕ
row es = count (nodes_of_each (trees es))

pub row-more : (e : Tree) (es : List Tree) → row (e ∷ es) ≡ count (nodes e) + row es
unfolding row
row-more e es = count-append (nodes e) (nodes_of_each (trees es))
