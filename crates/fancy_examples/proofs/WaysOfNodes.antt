-- The ways of each construct: the examples that stand beside the definitions in `Ways`.
use Rattle.std.specs.Prelude.{◌≡◌, ℕ, true, List, [], ◌∷◌, map, Some, codes, refl}
use Rattle.fancy_meaning.specs.Tree.{Tree, AbsentRepeater, AtomicGroup, Conditional, ContinueFromPreviousMatchEnd, Control, DefineGroup, EndText, Fail, GeneralNewline, KeepOut}
use Rattle.fancy_meaning.specs.MatchState.{MatchState}
use Rattle.fancy_meaning.specs.Answer.{search_of, ways_from}
use Rattle.fancy_examples.proofs.Notation.{plain, from, lit, cat, alt, grp, rep, star, lazy_star, assert, ref, has, call, ahead, nahead, behind, nbehind, row}

-- the ways of a tree from the start of a text
abbrev ways_of : Tree → List ℕ → List MatchState
ways_of e text = ways_from (search_of (plain e) text (from 0)) 0

abbrev places : Tree → List ℕ → List ℕ
places e text = map (λ s. s.place) (ways_of e text)

group_moves : places (grp (lit "a")) (codes "ab") ≡ 1 ∷ []
unfolding row
group_moves = refl

group_is_captured : map (λ s. s.captures 1) (ways_of (grp (lit "a")) (codes "ab")) ≡ Some (0, 1) ∷ []
unfolding row
group_is_captured = refl

look_ahead_stays : places (ahead (alt (lit "a" ∷ lit "ab" ∷ []))) (codes "ab") ≡ 0 ∷ 0 ∷ []
unfolding row
look_ahead_stays = refl

nothing_is_ahead : places (nahead (lit "a")) (codes "b") ≡ 0 ∷ []
unfolding row
nothing_is_ahead = refl

something_is_ahead : places (nahead (lit "a")) (codes "a") ≡ []
unfolding row
something_is_ahead = refl

first_way_alone : places (AtomicGroup (alt (lit "a" ∷ lit "ab" ∷ []))) (codes "ab") ≡ 1 ∷ []
unfolding row
first_way_alone = refl

true_branch : places (Conditional (lit "a") (lit "b") (lit "c")) (codes "ab") ≡ 2 ∷ []
unfolding row
true_branch = refl

false_branch : places (Conditional (lit "a") (lit "b") (lit "c")) (codes "c") ≡ 1 ∷ []
unfolding row
false_branch = refl

letter_moves : places (lit "a") (codes "ab") ≡ 1 ∷ []
unfolding row
letter_moves = refl

text_end_holds : places (cat (lit "a" ∷ assert EndText ∷ [])) (codes "a") ≡ 1 ∷ []
unfolding row
text_end_holds = refl

text_end_is_marked : map (λ s. s.text_end) (ways_of (cat (lit "a" ∷ assert EndText ∷ [])) (codes "a")) ≡ true ∷ []
unfolding row
text_end_is_marked = refl

reference_moves : places (cat (grp (alt (lit "a" ∷ lit "ab" ∷ [])) ∷ ref 1 ∷ [])) (codes "abab") ≡ 4 ∷ []
unfolding row
reference_moves = refl

ends_here_twice : places (cat (lit "aa" ∷ behind (star 1 (lit "a")) ∷ [])) (codes "aa") ≡ 2 ∷ 2 ∷ []
unfolding row
ends_here_twice = refl

nothing_is_behind : places (cat (lit "a" ∷ nbehind (lit "b") ∷ [])) (codes "a") ≡ 1 ∷ []
unfolding row
nothing_is_behind = refl

absent_goes_back : places (AbsentRepeater (lit "b")) (codes "aab") ≡ 2 ∷ 1 ∷ 0 ∷ []
unfolding row
absent_goes_back = refl

newline_of_two : places (GeneralNewline true) (13 ∷ 10 ∷ []) ≡ 2 ∷ []
unfolding row
newline_of_two = refl

continued_here : places ContinueFromPreviousMatchEnd (codes "a") ≡ 0 ∷ []
unfolding row
continued_here = refl

kept_from_here : map (λ s. s.kept) (ways_of (cat (lit "a" ∷ KeepOut ∷ [])) (codes "a")) ≡ 1 ∷ []
unfolding row
kept_from_here = refl

set_in_one_way : places (cat (rep 0 1 (grp (lit "a")) ∷ has 1 ∷ [])) (codes "a") ≡ 1 ∷ []
unfolding row
set_in_one_way = refl

sequence_goes_through_both :
    places (cat (alt (lit "a" ∷ lit "ab" ∷ []) ∷ alt (lit "b" ∷ lit "bc" ∷ []) ∷ [])) (codes "abc") ≡ 2 ∷ 3 ∷ []
unfolding row
sequence_goes_through_both = refl

branches_in_turn : places (alt (lit "a" ∷ lit "ab" ∷ [])) (codes "ab") ≡ 1 ∷ 2 ∷ []
unfolding row
branches_in_turn = refl

call_moves : places (cat (grp (lit "a") ∷ call 1 ∷ [])) (codes "aa") ≡ 2 ∷ []
unfolding row
call_moves = refl

call_is_captured : map (λ s. s.captures 1) (ways_of (cat (grp (lit "a") ∷ call 1 ∷ [])) (codes "aa")) ≡ Some (1, 2) ∷ []
unfolding row
call_is_captured = refl

greedy_loop : places (star 0 (lit "a")) (codes "aa") ≡ 2 ∷ 1 ∷ 0 ∷ []
unfolding row
greedy_loop = refl

lazy_loop : places (lazy_star 0 (lit "a")) (codes "aa") ≡ 0 ∷ 1 ∷ 2 ∷ []
unfolding row
lazy_loop = refl

definition_stays : places (DefineGroup (lit "a")) (codes "a") ≡ 0 ∷ []
unfolding row
definition_stays = refl

fail_has_no_way : places (Control Fail) (codes "a") ≡ []
unfolding row
fail_has_no_way = refl
