-- Programs as a whole: what they carry besides their instructions, and how long they are.
use Rattle.std.specs.Prelude.{◌≡◌, ℕ, Bool, true, false, [], ◌∷◌, length, Some, refl}
use Rattle.fancy_meaning.specs.Tree.{Tree, KeepOut, Group, DefineGroup}
use Rattle.fancy_meaning.specs.Instr.{Instr, Prog}
use Rattle.fancy_meaning.specs.Fits.{slots_fit}
use Rattle.fancy_meaning.specs.Numbers.{usize_max}
use Rattle.fancy_meaning.specs.Layout.{layout, undelegated_layout}
use Rattle.fancy_examples.proofs.Notation.{plain, anchored, explicit, ascii, taking, with_end_text, analysed_end_text, lit, cat, alt, grp, rep, star, call, ahead, nahead, row}

-- the most that a match takes, groups and slots, and the options
abbrev facts : Prog → (ℕ × ℕ × ℕ) × (Bool × Bool × Bool × Bool)
facts p = ((p.max_size, p.total_groups, p.slots), (p.explicit_group_0, p.find_not_empty, p.end_text, p.unicode))

of_a_letter : facts (layout (plain (lit "a"))) ≡ ((1, 0, 2), (false, false, false, true))
unfolding row
of_a_letter = refl

of_two_groups : facts (layout (plain (cat (grp (lit "a") ∷ grp (star 0 (lit "b")) ∷ [])))) ≡ ((usize_max, 2, 6), (false, false, false, true))
unfolding row
of_two_groups = refl

of_group_0 : facts (layout (explicit (grp (lit "ab")))) ≡ ((2, 1, 2), (true, false, false, true))
unfolding row
of_group_0 = refl

of_group_0_without_group : facts (layout (explicit (lit "ab"))) ≡ ((2, 0, 2), (true, false, false, true))
unfolding row
of_group_0_without_group = refl

of_fresh_slots : facts (layout (plain (cat (grp (ahead (lit "a")) ∷ star 0 (star 0 KeepOut) ∷ []))))
    ≡ ((usize_max, 1, 10), (false, false, false, true))
unfolding row
of_fresh_slots = refl

of_a_flag_slot : facts (layout (with_end_text (grp (lit "a")))) ≡ ((1, 1, 5), (false, false, true, true))
unfolding row
of_a_flag_slot = refl

of_an_analysis_alone : facts (layout (analysed_end_text (grp (lit "a")))) ≡ ((1, 1, 4), (false, false, false, true))
unfolding row
of_an_analysis_alone = refl

of_not_empty : facts (layout (taking (rep 1 2 (lit "a")))) ≡ ((2, 0, 2), (false, true, false, true))
unfolding row
of_not_empty = refl

of_ascii : facts (layout (ascii (lit "a"))) ≡ ((1, 0, 2), (false, false, false, false))
unfolding row
of_ascii = refl

four_instructions : length (layout (anchored (lit "abc"))).body ≡ 4
unfolding row
four_instructions = refl

calls_are_written_to_their_depth : length (undelegated_layout (anchored (grp (alt (cat (lit "a" ∷ call 1 ∷ []) ∷ lit "b" ∷ []))))).body ≡ 124
unfolding row
calls_are_written_to_their_depth = refl

calls_are_written_to_their_depth_with_delegates : length (layout (anchored (grp (alt (cat (lit "a" ∷ call 1 ∷ []) ∷ lit "b" ∷ []))))).body ≡ 124
unfolding row
calls_are_written_to_their_depth_with_delegates = refl

-- the missing group is called at the greatest depth too
call_of_a_missing_group_writes_nothing : length (undelegated_layout (plain (cat (lit "a" ∷ rep 0 1 (call 0) ∷ call 1 ∷ [])))).body ≡ 47
unfolding row
call_of_a_missing_group_writes_nothing = refl

-- ---- the slots that a program needs

-- so many are enough for a delegate of this node
abbrev delegate_fits : Tree → ℕ → Bool
delegate_fits e slots = slots_fit slots false (Instr.Delegate [] (record { nodes = e ∷ []; unicode = true }) (Some (1, 2)))

abbrev group_1 : Tree
group_1 = Group 1 (lit "a")

pair_of_a_group : (delegate_fits group_1 3 ≡ false) × (delegate_fits group_1 4 ≡ true)
pair_of_a_group = (refl, refl)

pair_in_a_loop : (delegate_fits (rep 0 1 group_1) 3 ≡ false) × (delegate_fits (rep 0 1 group_1) 4 ≡ true)
pair_in_a_loop = (refl, refl)

pair_in_a_look_ahead : (delegate_fits (ahead group_1) 3 ≡ false) × (delegate_fits (ahead group_1) 4 ≡ true)
pair_in_a_look_ahead = (refl, refl)

no_pair_in_a_definition : delegate_fits (DefineGroup group_1) 0 ≡ true
no_pair_in_a_definition = refl

no_pair_in_a_loop_that_is_not_entered : delegate_fits (rep 0 0 group_1) 0 ≡ true
no_pair_in_a_loop_that_is_not_entered = refl

no_pair_in_a_negative_look_ahead : delegate_fits (nahead group_1) 0 ≡ true
no_pair_in_a_negative_look_ahead = refl

no_pair_of_an_absent_repeater : slots_fit 0 false (Instr.AbsentRepeater [] (record { nodes = group_1 ∷ []; unicode = true }) (Some (1, 2))) ≡ true
no_pair_of_an_absent_repeater = refl
