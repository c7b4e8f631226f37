-- Trees that may be handed in, and trees that may not.
use Rattle.std.proofs.Common.{◌-◌, ◌^◌, true, false, [], ◌∷◌, Some, refl, arith}
use Rattle.fancy_meaning.specs.Tree.{Literal, Delegate, Alt, none}
use Rattle.fancy_meaning.specs.WellFormed.{IsWellFormed}
use Rattle.fancy_examples.proofs.Notation.{parsed, lit, cat, grp, ref, call, star, rep, row}

alternation_of_nothing : ¬ IsWellFormed (parsed (cat (lit "a" ∷ Alt none ∷ [])))
unfolding row
alternation_of_nothing w = w.fine (Alt none) (2, omega arith, refl)

class_without_text : ¬ IsWellFormed (parsed (Delegate [] false))
unfolding row
class_without_text w = w.fine (Delegate [] false) (0, omega arith, refl)

bounds_out_of_order : ¬ IsWellFormed (parsed (rep 3 2 (lit "a")))
unfolding row
bounds_out_of_order w = absurd (omega (arith, (w.fine (rep 3 2 (lit "a")) (0, omega arith, refl)).1.0))

count_too_large : ¬ IsWellFormed (parsed (star (2 ^ 64 - 1) (lit "a")))
unfolding row
count_too_large w = absurd (omega (arith, (w.fine (star (2 ^ 64 - 1) (lit "a")) (0, omega arith, refl)).0))

no_character : ¬ IsWellFormed (parsed (Literal 0xD800 false))
unfolding row
no_character w = cc (w.fine (Literal 0xD800 false) (0, omega arith, refl))

one_group_too_many : ¬ IsWellFormed (record (parsed (grp (lit "a"))) { total_groups = 2 })
unfolding row
one_group_too_many w = cc (w.groups)

call_that_is_not_said : ¬ IsWellFormed (record (parsed (call 0)) { contains_subroutines = false })
unfolding row
call_that_is_not_said w = cc (w.calls refl)

call_that_is_not_there : ¬ IsWellFormed (record (parsed (lit "a")) { contains_subroutines = true })
unfolding row
call_that_is_not_there w = cc (w.no_calls refl)

reference_that_is_not_said : ¬ IsWellFormed (record (parsed (cat (grp (lit "a") ∷ ref 1 ∷ []))) { backrefs = [] })
unfolding row
reference_that_is_not_said w = absurd (omega (arith, (w.backrefs 1 false (3, omega arith, refl) (omega arith)).1))

reference_that_is_not_there : ¬ IsWellFormed (record (parsed (grp (lit "a"))) { backrefs = 1 ∷ [] })
unfolding row
reference_that_is_not_there w = cc (w.only_references 1 (0, omega arith, refl))

reference_in_range : ¬ IsWellFormed (record (parsed (cat (grp (lit "a") ∷ ref 1 ∷ []))) { out_of_range_backref = Some 1 })
unfolding row
reference_in_range w = absurd (omega (arith, w.out_of_range.1))
