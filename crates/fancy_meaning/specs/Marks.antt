-- What is marked: a match begins there. The mark goes from the root through groups, and in sequences past what takes
-- nothing.
use Rattle.std.specs.Prelude.{ℕ, Bool, true, false, List, [], ◌∷◌, ◌++◌, filter_map, Option, Some, None, if◌then◌else◌, ◌==◌, nat_eq}
use Rattle.std.specs.List.{list_any}
use Rattle.fancy_meaning.specs.Tree.{Tree, Trees, none, more, ContinueFromPreviousMatchEnd, Concat, Group}
use Rattle.fancy_meaning.specs.Sizes.{size}

-- the mark of the node goes on to its children
abbrev pub passes_mark : Tree → Bool
passes_mark (Group g e) = true
passes_mark (Concat es) = true
passes_mark e = false

abbrev pub is_continue : Tree → Bool
is_continue ContinueFromPreviousMatchEnd = true
is_continue e = false

abbrev pub group_number : Tree → Option ℕ
group_number (Group g e) = Some g
group_number e = None

module _ (whole : Tree) where
  -- the mark goes on past it, to the next child
  abbrev pub takes_nothing : Tree → Bool
  takes_nothing e = (size whole e).most == 0

  -- the marked nodes of a part that is marked
  abbrev mutual
    pub marked_nodes : Tree → List Tree
    marked_nodes (Group g e) = Group g e ∷ marked_nodes e
    marked_nodes (Concat es) = Concat es ∷ first_marked_nodes es
    marked_nodes e = e ∷ []

    pub first_marked_nodes : Trees → List Tree
    first_marked_nodes none = []
    first_marked_nodes (more e es) = marked_nodes e ++ (if takes_nothing e then first_marked_nodes es else [])

  -- one of them is a `\G`
  abbrev pub has_marked_continue : Tree → Bool
  has_marked_continue e = list_any is_continue (marked_nodes e)

  -- the numbers of those that are groups
  abbrev pub marked_groups : Tree → List ℕ
  marked_groups e = filter_map group_number (marked_nodes e)

  -- in the tree the group is marked
  abbrev pub is_marked_group : ℕ → Bool
  is_marked_group g = list_any (nat_eq g) (marked_groups whole)
