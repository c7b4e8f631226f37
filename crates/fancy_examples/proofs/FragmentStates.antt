-- Points of fragments with the bound on visits, and first ways. Sixty equal letters are left out of the first ways: a list
-- of all ways takes too long to compute.
use Rattle.std.specs.Prelude.{◌≡◌, ℕ, true, List, [], ◌∷◌, Option, Some, None, codes, refl, option_map}
use Rattle.fancy_meaning.specs.Tree.{DefineGroup, Empty, Tree, Group}
use Rattle.fancy_meaning.specs.FragmentStates.{fragment_states, visit_bound}
use Rattle.fancy_meaning.specs.MatchState.{Span}
use Rattle.fancy_meaning.specs.Machine.{Task, first_way}
use Rattle.fancy_meaning.specs.Layout.{layout}
use Rattle.fancy_examples.proofs.Notation.{plain, from, utf8, lit, cat, alt, grp, rep, star, any, row}

-- of the children of a sequence
abbrev points_of : List Tree → ℕ
points_of es = fragment_states (cat es) es

abbrev bound_of : List Tree → ℕ → ℕ
bound_of es = visit_bound (cat es) es

points_of_equal_branches : points_of (star 0 (alt (lit "a" ∷ lit "a" ∷ [])) ∷ lit "b" ∷ []) ≡ 7
unfolding row
points_of_equal_branches = refl

points_of_equal_branches_bound : bound_of (star 0 (alt (lit "a" ∷ lit "a" ∷ [])) ∷ lit "b" ∷ []) 60 ≡ 427
unfolding row
points_of_equal_branches_bound = refl

points_of_an_empty_branch : points_of (star 0 (alt (Empty ∷ lit "a" ∷ [])) ∷ []) ≡ 10
unfolding row
points_of_an_empty_branch = refl

points_of_an_empty_branch_bound : bound_of (star 0 (alt (Empty ∷ lit "a" ∷ [])) ∷ []) 2 ≡ 30
unfolding row
points_of_an_empty_branch_bound = refl

points_of_a_sequence_in_a_loop : points_of (star 0 (cat (alt (lit "a" ∷ grp Empty ∷ []) ∷ rep 0 1 (lit "b") ∷ [])) ∷ []) ≡ 24
unfolding row
points_of_a_sequence_in_a_loop = refl

points_of_a_sequence_in_a_loop_bound : bound_of (star 0 (cat (alt (lit "a" ∷ grp Empty ∷ []) ∷ rep 0 1 (lit "b") ∷ [])) ∷ []) 1 ≡ 48
unfolding row
points_of_a_sequence_in_a_loop_bound = refl

points_of_a_group_in_a_loop : points_of (star 0 (grp (alt (Empty ∷ lit "a" ∷ []))) ∷ lit "b" ∷ []) ≡ 13
unfolding row
points_of_a_group_in_a_loop = refl

points_of_a_group_in_a_loop_bound : bound_of (star 0 (grp (alt (Empty ∷ lit "a" ∷ []))) ∷ lit "b" ∷ []) 2 ≡ 39
unfolding row
points_of_a_group_in_a_loop_bound = refl

points_of_no_node : points_of ([]) ≡ 1
unfolding row
points_of_no_node = refl

points_of_no_node_bound : bound_of ([]) 3 ≡ 4
unfolding row
points_of_no_node_bound = refl

points_of_definitions : points_of (DefineGroup (lit "ab") ∷ []) ≡ 2
unfolding row
points_of_definitions = refl

points_of_counts : points_of (rep 2 3 (lit "a") ∷ []) ≡ 10
unfolding row
points_of_counts = refl

points_of_required_counts : points_of (star 2 (lit "a") ∷ []) ≡ 8
unfolding row
points_of_required_counts = refl

points_of_required_counts_that_may_move : points_of (star 2 (rep 0 1 (lit "a")) ∷ []) ≡ 38
unfolding row
points_of_required_counts_that_may_move = refl

points_of_never : points_of (rep 0 0 (lit "a") ∷ []) ≡ 4
unfolding row
points_of_never = refl

-- the place behind the first way of a fragment, and where it captures groups 1 and 2
abbrev first_on : List Tree → List ℕ → ℕ → Option (ℕ × Option Span × Option Span)
first_on es text i =
    let task : Task = record { program = layout (plain Empty); text = text; options = from i } in
    option_map (λ s. (s.place, s.captures 1, s.captures 2)) (first_way task (record { nodes = es; unicode = true }) i)

first_way_of_a_group : first_on (Group 1 (alt (lit "a" ∷ lit "ab" ∷ [])) ∷ []) (codes "ab") 0 ≡ Some (1, Some (0, 1), None)
unfolding row
first_way_of_a_group = refl

first_way_of_a_loop : first_on (star 0 (Group 1 (rep 0 1 (lit "a"))) ∷ []) (codes "a") 0 ≡ Some (1, Some (1, 1), None)
unfolding row
first_way_of_a_loop = refl

no_way_of_a_letter : first_on (lit "b" ∷ []) (codes "a") 0 ≡ None
unfolding row
no_way_of_a_letter = refl

no_way_past_equal_branches : first_on (star 0 (alt (lit "a" ∷ lit "a" ∷ [])) ∷ lit "b" ∷ []) (codes "aaaaaa") 0 ≡ None
unfolding row
no_way_past_equal_branches = refl

first_way_takes_nothing : first_on (star 0 (alt (Empty ∷ lit "a" ∷ [])) ∷ []) (codes "aa") 0 ≡ Some (0, None, None)
unfolding row
first_way_takes_nothing = refl

first_way_of_a_sequence_in_a_loop : first_on
    (star 0 (cat (alt (lit "a" ∷ Group 1 Empty ∷ []) ∷ rep 0 1 (lit "b") ∷ [])) ∷ []) (codes "a") 0
    ≡ Some (1, Some (1, 1), None)
unfolding row
first_way_of_a_sequence_in_a_loop = refl

first_way_of_a_group_in_a_loop : first_on (star 0 (Group 1 (alt (Empty ∷ lit "a" ∷ []))) ∷ lit "b" ∷ []) (codes "ab") 0 ≡ Some (2, Some (1, 1), None)
unfolding row
first_way_of_a_group_in_a_loop = refl

first_way_from_a_place : first_on (Group 2 any ∷ Group 1 any ∷ []) (utf8 "aéb") 1 ≡ Some (4, Some (3, 4), Some (1, 3))
unfolding row
first_way_from_a_place = refl

first_way_passes_definitions : first_on (DefineGroup (Group 1 any) ∷ any ∷ []) (codes "ab") 0 ≡ Some (1, None, None)
unfolding row
first_way_passes_definitions = refl
