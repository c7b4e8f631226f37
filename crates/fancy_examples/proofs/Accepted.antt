-- Trees that their analysis accepts, and trees that never end.
use Rattle.std.proofs.Common.{◌≡◌, ℕ, Bool, true, false, [], ◌∷◌, refl, subst}
use Rattle.std.specs.Prelude.{◌==◌, ◌||◌}
use Rattle.std.proofs.lemmas.Bool.{eqb-true}
use Rattle.fancy_meaning.specs.Tree.{Tree}
use Rattle.fancy_meaning.specs.Numbering.{numbered}
use Rattle.fancy_meaning.specs.WellFormed.{Has, refers}
use Rattle.fancy_meaning.specs.Recursion.{CanEnd, ends_with_parts, one_ends, target_ends, no_target, none_left, and_more, this_one, a_later}
use Rattle.fancy_meaning.specs.AnalysisRefusals.{CompileError, AnalysisRefuses, before_end, never_ends, is_no_group}
use Rattle.fancy_examples.proofs.Notation.{parsed, no_options, explicit_options, lit, cat, alt, grp, ref, has, call, row}
use Rattle.fancy_examples.proofs.Acceptance.{no_rising_cycle, no_falling_cycle, reads_nothing, reads_before_calls, not_refused_before_end}

abbrev Accepted : Tree → Type 0
Accepted e = (error : CompileError) → ¬ AnalysisRefuses (parsed e) no_options error

-- ---- a call of no group

no_group_is_analysed : Accepted (call 7)
unfolding row
no_group_is_analysed error (before_end r) =
    not_refused_before_end (call 7) refl refl refl (reads_nothing _ refl) (λ g t. cc (t)) (no_rising_cycle _ refl) error r
no_group_is_analysed error (never_ends t n r) = n (no_target refl)

-- ---- a call of an outer group, before anything is taken, in a group that is not reached

abbrev not_reached : Tree
not_reached = grp (cat (grp (alt (call 1 ∷ lit "x" ∷ [])) ∷ lit "y" ∷ []))

not_reached_ends : CanEnd (numbered 1 not_reached) (numbered 1 not_reached)
unfolding row
not_reached_ends =
    ends_with_parts tt (and_more (ends_with_parts tt
    (and_more (ends_with_parts tt (and_more (one_ends (a_later (this_one (ends_with_parts tt none_left)))) none_left))
    (and_more (ends_with_parts tt none_left) none_left))) none_left)

not_reached_is_analysed : Accepted not_reached
unfolding row
not_reached_is_analysed error (before_end r) =
    not_refused_before_end not_reached refl refl refl (reads_nothing _ refl) (λ g t. cc (t)) (no_falling_cycle _ refl) error r
not_reached_is_analysed error (never_ends t n r) = n not_reached_ends

-- ---- two groups that call each other behind a letter

abbrev each_other : Tree
each_other = cat (call 1 ∷ call 2 ∷ grp (alt (cat (lit "x" ∷ call 2 ∷ []) ∷ lit "a" ∷ [])) ∷ grp (cat (lit "y" ∷ call 1 ∷ [])) ∷ [])

first_ends : CanEnd (numbered 1 each_other) (alt (cat (lit "x" ∷ call 2 ∷ []) ∷ lit "a" ∷ []))
first_ends = one_ends (a_later (this_one (ends_with_parts tt none_left)))

first_call_ends : CanEnd (numbered 1 each_other) (call 1)
unfolding row
first_call_ends = target_ends refl first_ends

second_ends : CanEnd (numbered 1 each_other) (cat (lit "y" ∷ call 1 ∷ []))
second_ends = ends_with_parts tt (and_more (ends_with_parts tt none_left) (and_more first_call_ends none_left))

each_other_ends : CanEnd (numbered 1 each_other) (numbered 1 each_other)
unfolding row
each_other_ends =
    ends_with_parts tt (and_more first_call_ends (and_more (target_ends refl second_ends)
    (and_more (ends_with_parts tt (and_more first_ends none_left)) (and_more (ends_with_parts tt (and_more second_ends none_left)) none_left))))

each_other_is_analysed : Accepted each_other
unfolding row
each_other_is_analysed error (before_end r) =
    not_refused_before_end each_other refl refl refl (reads_nothing _ refl) (λ g t. cc (t)) (no_rising_cycle _ refl) error r
each_other_is_analysed error (never_ends t n r) = n each_other_ends

-- ---- a reference before the call of its group

abbrev read_first : Tree
read_first = grp (alt (cat (lit "a" ∷ ref 1 ∷ call 1 ∷ []) ∷ lit "b" ∷ []))

reads_group_1 : (g : ℕ) → Has (numbered 1 read_first) (refers g) → is_no_group (parsed read_first) no_options g ≡ false
unfolding row
reads_group_1 g t = go (1 == g) refl t
  where
    go : (b : Bool) → (1 == g) ≡ b → (b || false) ≡ true → is_no_group (parsed read_first) no_options g ≡ false
    go true e t = subst (λ n. is_no_group (parsed read_first) no_options n ≡ false) (eqb-true 1 g e) refl
    go false e t = cc (t)

read_first_ends : CanEnd (numbered 1 read_first) (numbered 1 read_first)
unfolding row
read_first_ends = ends_with_parts tt (and_more (one_ends (a_later (this_one (ends_with_parts tt none_left)))) none_left)

read_first_is_analysed : Accepted read_first
unfolding row
read_first_is_analysed error (before_end r) =
    not_refused_before_end read_first refl refl refl (reads_before_calls _ refl) reads_group_1 (no_rising_cycle _ refl) error r
read_first_is_analysed error (never_ends t n r) = n read_first_ends

-- ---- group 0

existence_of_group_0 : is_no_group (parsed (has 0)) explicit_options 0 ≡ false
unfolding row
existence_of_group_0 = refl

no_existence_of_group_0 : is_no_group (parsed (has 0)) no_options 0 ≡ true
unfolding row
no_existence_of_group_0 = refl
