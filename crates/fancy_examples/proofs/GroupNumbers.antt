-- Numbers of groups, and the look-around that an assertion stands in.
use Rattle.std.specs.Prelude.{◌≡◌, [], ◌∷◌, Some, None, refl}
use Rattle.fancy_meaning.specs.Tree.{AbsentExpression, Conditional, DefineGroup, Empty, EndText, WordBoundary, Group, Assert, NoLook, InLookAhead, InLookBehind, AbsentExpression}
use Rattle.fancy_meaning.specs.Numbering.{numbered}
use Rattle.fancy_meaning.specs.Nodes.{read_groups, target}
use Rattle.fancy_examples.proofs.Notation.{lit, cat, alt, grp, rep, star, assert, ref, iref, has, call, ahead, nahead, behind, nbehind, row}

groups_in_order : numbered 1
    (cat (grp (grp (lit "a")) ∷ alt (lit "b" ∷ grp (lit "c") ∷ []) ∷ star 0 (grp (lit "d")) ∷ []))
    ≡ cat (Group 1 (Group 2 (lit "a")) ∷ alt (lit "b" ∷ Group 3 (lit "c") ∷ []) ∷ star 0 (Group 4 (lit "d")) ∷ [])
unfolding row
groups_in_order = refl

groups_from_0 : numbered 0 (cat (grp Empty ∷ grp Empty ∷ [])) ≡ cat (Group 0 Empty ∷ Group 1 Empty ∷ [])
unfolding row
groups_from_0 = refl

condition_then_branches : numbered 1
    (Conditional (grp (lit "a")) (cat (grp (lit "b") ∷ grp Empty ∷ [])) (grp (lit "c")))
    ≡ Conditional (Group 1 (lit "a")) (cat (Group 2 (lit "b") ∷ Group 3 Empty ∷ [])) (Group 4 (lit "c"))
unfolding row
condition_then_branches = refl

absent_then_expression : numbered 1 (cat (AbsentExpression (grp (lit "a")) (grp (lit "b")) ∷ grp Empty ∷ []))
    ≡ cat (AbsentExpression (Group 1 (lit "a")) (Group 2 (lit "b")) ∷ Group 3 Empty ∷ [])
unfolding row
absent_then_expression = refl

definitions_and_looks_count : numbered 1
    (cat (DefineGroup (grp Empty) ∷ nahead (grp Empty) ∷ rep 0 0 (grp Empty) ∷ grp Empty ∷ []))
    ≡ cat (DefineGroup (Group 1 Empty) ∷ nahead (Group 2 Empty) ∷ rep 0 0 (Group 3 Empty) ∷ Group 4 Empty ∷ [])
unfolding row
definitions_and_looks_count = refl

innermost_look : numbered 1
    (cat
    (assert WordBoundary
    ∷ ahead (cat (assert WordBoundary ∷ behind (grp (assert WordBoundary)) ∷ assert EndText ∷ []))
    ∷ nbehind (nahead (assert EndText)) ∷ []))
    ≡ cat
    (Assert NoLook WordBoundary
    ∷ ahead
    (cat
    (Assert InLookAhead WordBoundary ∷ behind (Group 1 (Assert InLookBehind WordBoundary))
    ∷ Assert InLookAhead EndText ∷ [])) ∷ nbehind (nahead (Assert InLookAhead EndText)) ∷ [])
unfolding row
innermost_look = refl

read_in_order : read_groups (cat (ref 2 ∷ DefineGroup (iref 1) ∷ has 3 ∷ call 4 ∷ [])) ≡ 2 ∷ 1 ∷ 3 ∷ []
unfolding row
read_in_order = refl

whole_is_called_by_0 : target (numbered 1 (grp (lit "a"))) 0 ≡ Some (Group 1 (lit "a"))
unfolding row
whole_is_called_by_0 = refl

body_is_called_by_number : target (numbered 1 (cat (grp (lit "a") ∷ grp (lit "b") ∷ []))) 2 ≡ Some (lit "b")
unfolding row
body_is_called_by_number = refl

no_group_is_called : target (numbered 1 (grp (lit "a"))) 2 ≡ None
unfolding row
no_group_is_called = refl
