-- The groups that a text opens are those of its tree.
use Rattle.std.proofs.Common.{◌≡◌, ℕ, ◌+◌, List, ◌++◌, length, filter_map, refl, ap, arith, length-append}
use Rattle.std.proofs.lemmas.List.Elements.{filter_map-append}
use Rattle.fancy_meaning.specs.Tree as tree
use Rattle.fancy_meaning.specs.Tree.{Tree, Trees, none, more}
use Rattle.fancy_meaning.specs.Nodes.{nodes, nodes_of_each, as_group, groups, group_count}
use Rattle.fancy_round_trip.specs.Returning.{Returns, EachReturns}
use Rattle.fancy_round_trip.proofs.Spelled.{opens, each_opens}

abbrev count : List Tree → ℕ
count es = length (filter_map as_group es)

two : (xs ys : List Tree) (a b : ℕ) → a ≡ count xs → b ≡ count ys → a + b ≡ count (xs ++ ys)
two xs ys a b h k =
    let e : count (xs ++ ys) ≡ length (filter_map as_group xs ++ filter_map as_group ys) = ap length (filter_map-append as_group xs ys) in
    omega (arith, h, k, e, length-append (filter_map as_group xs) (filter_map as_group ys))

mutual
  opened : (e : Tree) → Returns e → opens e ≡ count (nodes e)
  opened tree.Empty h = refl
  opened (tree.Any newline crlf) h = refl
  opened (tree.Literal c casei) h = refl
  opened (tree.Delegate inner casei) h = refl
  opened (tree.Assert within a) h = refl
  opened (tree.Concat es) h = each_opened es h.2
  opened (tree.Alt es) h = each_opened es h.1
  opened (tree.Group g e) h = let k = opened e h.1 in omega (arith, k)
  opened (tree.Repeat lo hi greedy e) h = opened e h.2
  opened e h = absurd h

  each_opened : (es : Trees) → EachReturns es → each_opens es ≡ count (nodes_of_each es)
  each_opened none h = refl
  each_opened (more e es) h = two (nodes e) (nodes_of_each es) (opens e) (each_opens es) (opened e h.0) (each_opened es h.1)

pub opens_groups : (e : Tree) → Returns e → opens e ≡ group_count e
unfolding group_count groups
opens_groups e h = opened e h
