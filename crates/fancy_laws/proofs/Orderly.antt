-- What the trees that are analysed have: fine nodes, loops in bounds, and groups that are found by their numbers.
use Rattle.std.proofs.Common.{◌≡◌, ℕ, suc, ◌≤◌, Bool, Contains, Some, if◌then◌else◌, sym, ◌∙◌}
use Rattle.fancy_meaning.specs.Tree.{Tree, Group, Repeat}
use Rattle.fancy_meaning.specs.Nodes.{nodes, target, group_count}
use Rattle.fancy_meaning.specs.WellFormed.{IsFine}
use Rattle.fancy_meaning.specs.Premises.{Analysed, tree_of}
use Rattle.fancy_laws.proofs.Numbering.{target_of_group, numbered_is_fine, numbered_has_as_many_groups}

pub record IsOrderly (whole : Tree) : Type 0 where
  pub loops : (lo hi : ℕ) (greedy : Bool) (e : Tree) → Contains (nodes whole) (Repeat lo (Some hi) greedy e) → lo ≤ hi
  pub groups : (g : ℕ) (body : Tree) → Contains (nodes whole) (Group (suc g) body) → target whole (suc g) ≡ Some body

-- the number of the first group
abbrev pub first_number : Analysed → ℕ
first_number a = if (a.options).explicit_capture_group_0 then 0 else 1

pub analysed_is_fine : (a : Analysed) (e : Tree) → Contains (nodes (tree_of a)) e → IsFine e
analysed_is_fine a e c = numbered_is_fine (first_number a) (a.parsed).tree (a.well_formed).fine e c

pub analysed_has_as_many_groups : (a : Analysed) → group_count (tree_of a) ≡ (a.parsed).total_groups
analysed_has_as_many_groups a = numbered_has_as_many_groups (first_number a) (a.parsed).tree ∙ sym (a.well_formed).groups

pub analysed_is_orderly : (a : Analysed) → IsOrderly (tree_of a)
analysed_is_orderly a = record {
  loops = λ lo hi greedy e c. (analysed_is_fine a (Repeat lo (Some hi) greedy e) c).1.0;
  groups = λ g body c. target_of_group (first_number a) (a.parsed).tree g body c;
}
