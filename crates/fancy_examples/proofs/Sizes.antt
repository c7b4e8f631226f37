-- Sizes: how many characters each kind of node takes.
use Rattle.std.specs.Prelude.{◌≡◌, ℕ, ◌-◌, ◌^◌, Bool, true, false, [], ◌∷◌, Option, Some, None, refl, option_map}
use Rattle.fancy_meaning.specs.Tree.{AbsentClear, AbsentExpression, AbsentRepeater, AbsentStopper, AtomicGroup, Conditional, ContinueFromPreviousMatchEnd, Control, DefineGroup, Empty, Fail, GeneralNewline, KeepOut, LiteralBytes, Tree, WordBoundary}
use Rattle.fancy_meaning.specs.Sizes.{size}
use Rattle.fancy_meaning.specs.Numbers.{usize_max}
use Rattle.fancy_meaning.specs.Numbering.{numbered}
use Rattle.fancy_meaning.specs.Nodes.{target}
use Rattle.fancy_examples.proofs.Notation.{lit, ilit, cat, alt, grp, rep, star, any, assert, set, ref, has, call, ahead, row}

-- least, most and whether it is constant, of the tree itself
abbrev sizes : Tree → ℕ × ℕ × Bool
sizes e = let whole = numbered 1 e in let s = size whole whole in (s.least, s.most, s.is_const)

of_nothing : sizes Empty ≡ (0, 0, true)
unfolding row
of_nothing = refl

of_a_letter : sizes (lit "a") ≡ (1, 1, true)
unfolding row
of_a_letter = refl

of_two_bytes_one_character : sizes (lit "é") ≡ (1, 1, true)
unfolding row
of_two_bytes_one_character = refl

of_a_folded_letter : sizes (ilit "a") ≡ (1, 1, true)
unfolding row
of_a_folded_letter = refl

of_any : sizes any ≡ (1, 1, true)
unfolding row
of_any = refl

of_a_class : sizes (set "[a-c]") ≡ (1, 1, true)
unfolding row
of_a_class = refl

of_a_newline : sizes (GeneralNewline true) ≡ (1, 2, false)
unfolding row
of_a_newline = refl

of_three_bytes : sizes (LiteralBytes (1 ∷ 2 ∷ 233 ∷ [])) ≡ (3, 3, true)
unfolding row
of_three_bytes = refl

of_an_assertion : sizes (assert WordBoundary) ≡ (0, 0, true)
unfolding row
of_an_assertion = refl

of_a_look_ahead : sizes (ahead (lit "abc")) ≡ (0, 0, true)
unfolding row
of_a_look_ahead = refl

of_a_kept_start : sizes KeepOut ≡ (0, 0, true)
unfolding row
of_a_kept_start = refl

of_continuing : sizes ContinueFromPreviousMatchEnd ≡ (0, 0, true)
unfolding row
of_continuing = refl

of_an_existence_condition : sizes (has 1) ≡ (0, 0, true)
unfolding row
of_an_existence_condition = refl

of_a_verb : sizes (Control Fail) ≡ (0, 0, true)
unfolding row
of_a_verb = refl

of_definitions : sizes (DefineGroup (grp (lit "abc"))) ≡ (0, 0, true)
unfolding row
of_definitions = refl

of_a_sequence : sizes (cat (lit "a" ∷ lit "b" ∷ any ∷ [])) ≡ (3, 3, true)
unfolding row
of_a_sequence = refl

of_no_sequence : sizes (cat []) ≡ (0, 0, true)
unfolding row
of_no_sequence = refl

of_branches_of_one_size : sizes (alt (lit "ab" ∷ lit "cd" ∷ [])) ≡ (2, 2, true)
unfolding row
of_branches_of_one_size = refl

of_branches_of_two_sizes : sizes (alt (lit "ab" ∷ lit "c" ∷ [])) ≡ (1, 2, false)
unfolding row
of_branches_of_two_sizes = refl

of_three_branches : sizes (alt (lit "ab" ∷ lit "c" ∷ lit "def" ∷ [])) ≡ (1, 3, false)
unfolding row
of_three_branches = refl

of_constant_and_varying_branches : sizes (alt (lit "a" ∷ GeneralNewline true ∷ [])) ≡ (1, 2, false)
unfolding row
of_constant_and_varying_branches = refl

of_three_to_five : sizes (rep 3 5 (alt (lit "ab" ∷ lit "c" ∷ []))) ≡ (3, 10, false)
unfolding row
of_three_to_five = refl

of_exactly_three : sizes (rep 3 3 (lit "ab")) ≡ (6, 6, true)
unfolding row
of_exactly_three = refl

of_never : sizes (rep 0 0 (lit "ab")) ≡ (0, 0, true)
unfolding row
of_never = refl

of_one_or_more : sizes (star 1 (lit "ab")) ≡ (2, usize_max, false)
unfolding row
of_one_or_more = refl

of_one_or_more_of_nothing : sizes (star 1 Empty) ≡ (0, usize_max, false)
unfolding row
of_one_or_more_of_nothing = refl

of_two_of_what_has_no_bound : sizes (rep 2 2 (star 0 (lit "a"))) ≡ (0, usize_max, false)
unfolding row
of_two_of_what_has_no_bound = refl

-- no bound of a part stays none
of_never_without_bound : sizes (rep 0 0 (star 0 (lit "a"))) ≡ (0, usize_max, false)
unfolding row
of_never_without_bound = refl

of_a_group : sizes (grp (lit "ab")) ≡ (2, 2, true)
unfolding row
of_a_group = refl

of_an_atomic_group : sizes (AtomicGroup (alt (lit "a" ∷ lit "bc" ∷ []))) ≡ (1, 2, false)
unfolding row
of_an_atomic_group = refl

-- the condition and the true branch, or the false branch
of_a_conditional : sizes (Conditional (lit "ab") (lit "c") (lit "d")) ≡ (1, 3, false)
unfolding row
of_a_conditional = refl

of_a_constant_conditional : sizes (Conditional (lit "a") (lit "b") (lit "cd")) ≡ (2, 2, true)
unfolding row
of_a_constant_conditional = refl

of_a_conditional_by_existence : sizes (cat (grp (lit "a") ∷ Conditional (has 1) (lit "b") Empty ∷ [])) ≡ (1, 2, false)
unfolding row
of_a_conditional_by_existence = refl

of_an_absent_repeater : sizes (AbsentRepeater (lit "abc")) ≡ (0, usize_max, false)
unfolding row
of_an_absent_repeater = refl

of_an_absent_expression : sizes (AbsentExpression (lit "a") (lit "bc")) ≡ (2, 2, false)
unfolding row
of_an_absent_expression = refl

of_an_absent_stopper : sizes (AbsentStopper (lit "a")) ≡ (0, 0, true)
unfolding row
of_an_absent_stopper = refl

of_an_absent_clear : sizes AbsentClear ≡ (0, 0, true)
unfolding row
of_an_absent_clear = refl

of_a_reference : sizes (cat (grp (alt (lit "a" ∷ lit "bc" ∷ [])) ∷ ref 1 ∷ [])) ≡ (2, 4, false)
unfolding row
of_a_reference = refl

of_a_reference_before_its_group : sizes (cat (ref 1 ∷ grp (lit "ab") ∷ [])) ≡ (4, 4, true)
unfolding row
of_a_reference_before_its_group = refl

of_references_in_rounds : sizes (cat (grp (cat (ref 2 ∷ lit "a" ∷ [])) ∷ grp (lit "bc") ∷ [])) ≡ (5, 5, true)
unfolding row
of_references_in_rounds = refl

of_a_call : sizes (cat (grp (alt (lit "a" ∷ lit "bc" ∷ [])) ∷ call 1 ∷ [])) ≡ (2, 4, false)
unfolding row
of_a_call = refl

of_a_call_of_itself : sizes (grp (alt (cat (lit "a" ∷ call 1 ∷ []) ∷ lit "b" ∷ []))) ≡ (1, usize_max, false)
unfolding row
of_a_call_of_itself = refl

of_a_call_of_the_whole : sizes (alt (cat (lit "a" ∷ call 0 ∷ []) ∷ lit "bc" ∷ [])) ≡ (1, usize_max, false)
unfolding row
of_a_call_of_the_whole = refl

of_a_call_without_group : sizes (call 7) ≡ (0, usize_max, false)
unfolding row
of_a_call_without_group = refl

of_a_reference_to_none : sizes (ref 0) ≡ (0, usize_max, false)
unfolding row
of_a_reference_to_none = refl

of_a_count_that_saturates : sizes (star (2 ^ 64 - 2) (lit "ab")) ≡ (usize_max, usize_max, false)
unfolding row
of_a_count_that_saturates = refl

of_a_most_that_saturates : sizes (rep 0 (2 ^ 64 - 2) (lit "ab")) ≡ (0, usize_max, false)
unfolding row
of_a_most_that_saturates = refl

of_a_sum_that_saturates : sizes (cat (rep (2 ^ 64 - 2) (2 ^ 64 - 2) (lit "a") ∷ lit "a" ∷ lit "b" ∷ [])) ≡ (usize_max, usize_max, true)
unfolding row
of_a_sum_that_saturates = refl

-- the size of a group's body
abbrev body_sizes : ℕ → Tree → Option (ℕ × ℕ × Bool)
body_sizes g e = let whole = numbered 1 e in option_map (λ b. let s = size whole b in (s.least, s.most, s.is_const)) (target whole g)

of_the_first_group : body_sizes 1 (cat (grp (cat (ref 2 ∷ lit "a" ∷ [])) ∷ grp (lit "bc") ∷ [])) ≡ Some (3, 3, true)
unfolding row
of_the_first_group = refl

of_no_group : body_sizes 3 (cat (grp (cat (ref 2 ∷ lit "a" ∷ [])) ∷ grp (lit "bc") ∷ [])) ≡ None
unfolding row
of_no_group = refl
