-- What is known of the tree that its analysis doesn't refuse.
use Rattle.std.proofs.Common.{◌≡◌, ℕ, ◌+◌, ◌-◌, ◌*◌, ◌<◌, ◌≤◌, Bool, true, false, if◌then◌else◌, nat_lt, Contains, refl, sym, ap, ◌∙◌, subst, arith, ltb-false}
use Rattle.std.specs.List.{list_any}
use Rattle.std.proofs.lemmas.Bool.{or_parts}
use Rattle.std.proofs.lemmas.List.Folds.{list_any_at}
use Rattle.fancy_meaning.specs.Tree.{Tree}
use Rattle.fancy_meaning.specs.Nodes.{nodes, groups, group_count}
use Rattle.fancy_meaning.specs.Places.{range_from}
use Rattle.fancy_meaning.specs.WellFormed.{refers}
use Rattle.fancy_meaning.specs.AnalysisRefusals.{CompileError, InvalidBackref, AnalysisRefuses, before_end, group_out_of_range, is_no_group}
use Rattle.fancy_meaning.specs.Premises.{Input, plan}
use Rattle.fancy_laws.proofs.Every.{Every, every_weaker, every_contains}
use Rattle.fancy_laws.proofs.Numbering.{numbers_of, group_numbers, numbered_has_as_many_groups}
use Rattle.fancy_fits.proofs.Known.{range_below, RefersWithin, Known}

-- how many numbers so many groups use, by whether group 0 is one of them
abbrev pub numbers_used : Bool → ℕ → ℕ
numbers_used explicit n = if explicit then n else n + 1

abbrev first_number : Bool → ℕ
first_number explicit = if explicit then 0 else 1

within : (explicit : Bool) (n : ℕ) → first_number explicit + n ≤ numbers_used explicit n
within true n = omega arith
within false n = omega arith

-- a number that is in range, or 0 where there is no group, has a pair
has_pair : (explicit : Bool) (n g slots : ℕ) → 2 ≤ slots → 2 * numbers_used explicit n ≤ slots → first_number explicit ≤ g →
    g ≤ first_number explicit + n - 1 → 2 * g + 1 < slots
has_pair true n g slots two room a b = omega (arith, two, room, a, b)
has_pair false n g slots two room a b = omega (arith, two, room, a, b)

module _ (i : Input) (allowed : (error : CompileError) → ¬ AnalysisRefuses i.parsed i.analysis error) where
  abbrev explicit : Bool
  explicit = (i.analysis).explicit_capture_group_0

  abbrev tree : Tree
  tree = (plan i).analysis.tree

  abbrev pub count : ℕ
  count = numbers_used explicit (group_count tree)

  numbers : numbers_of (nodes tree) ≡ range_from (first_number explicit) (group_count (i.parsed).tree)
  unfolding groups
  numbers = group_numbers (first_number explicit) (i.parsed).tree

  as_many : group_count tree ≡ group_count (i.parsed).tree
  as_many = numbered_has_as_many_groups (first_number explicit) (i.parsed).tree

  module _ (slots : ℕ) (two : 2 ≤ slots) (room : 2 * count ≤ slots) where
    numbers_below : Every (λ g. g < count) (numbers_of (nodes tree))
    numbers_below =
        let below = within explicit (group_count tree) in
        subst (Every (λ g. g < count)) (sym numbers)
        (range_below (first_number explicit) (group_count (i.parsed).tree) count (omega (arith, below, as_many)))

    refers_within : (e : Tree) → Contains (nodes tree) e → RefersWithin count slots e
    refers_within e c g is = by_test (is_no_group i.parsed i.analysis g) refl
      where
        there : list_any (refers g) (nodes tree) ≡ true
        there = list_any_at (refers g) (nodes tree) c.0 e c.1 (ap (refers g) c.2 ∙ is)

        by_test : (v : Bool) → is_no_group i.parsed i.analysis g ≡ v → 2 * g + 1 < slots
        by_test true out = absurd (allowed (InvalidBackref g) (before_end (group_out_of_range g there out)))
        by_test false out =
            let last = first_number explicit + group_count tree - 1 in
            let parts = or_parts (nat_lt g (first_number explicit)) (nat_lt last g) out in
            has_pair explicit (group_count tree) g slots two room (ltb-false g (first_number explicit) parts.0) (ltb-false last g parts.1)

    pub known : Known count slots (nodes tree)
    known = record { numbers = numbers_below; references = every_weaker refers_within (every_contains (nodes tree)) }
