-- Where the two differ, computed: a greedy loop without a bound, a later round of whose body reads nothing before one
-- that reads, and one whose later round reads nothing and sets a group.
use Rattle.std.proofs.Common.{◌≡◌, ℕ, true, false, List, [], ◌∷◌, Option, Some, None, option_map, refl}
use Rattle.std.specs.Str.{chars}
use Rattle.std.specs.Char.{encode_utf8}
use Rattle.regex_class.specs.Ranges.{in_range, in_ranges}
use Rattle.regex_hir.specs.Text.{char_at, has_bytes_at, is_boundary}
use Rattle.regex_hir.specs.Re.{Re, accept, char_in, empty, group, rounds, attempt}
use Rattle.regex_hir.specs.Meaning.{alt_all, repeat}
use Rattle.regex_hir.specs.Find.{find_str, first_from, slot_of}
use Rattle.fancy_meaning.specs.Tree.{Tree, Alt, Empty, Group, Literal, Repeat, trees}
use Rattle.fancy_meaning.specs.MatchState.{MatchState, first_state, preferred, fails}
use Rattle.fancy_meaning.specs.Ways.{Setting, ways_with}
use Rattle.fancy_agreement.specs.First.{leaves_last}

computing : Unit {0}
unfolding attempt rounds repeat first_from find_str slot_of has_bytes_at char_at is_boundary in_range in_ranges chars encode_utf8
computing = tt

abbrev in_text : List ℕ → Setting
in_text text = record { text = text; pos = 0; continued = false; unicode = true }

abbrev first_way : Tree → List ℕ → Option MatchState
first_way e text = preferred (ways_with (in_text text) (λ g. fails) e) (first_state 0)

abbrev letter : ℕ → Tree
letter c = Literal c false

abbrev one : ℕ → Re
one c = char_in ((c, c) ∷ [])

-- `(?:b||a)*` on "ba": we answer b, the kit ba
abbrev body : Re
body = alt_all (one 98 ∷ empty ∷ one 97 ∷ [])

ours_stops : option_map (λ s. s.place) (first_way (Repeat 0 None true (Alt (trees (letter 98 ∷ Empty ∷ letter 97 ∷ [])))) (98 ∷ 97 ∷ []))
    ≡ Some 1
unfolding computing
ours_stops = refl

kit_goes_on : option_map (λ t. t.end) (attempt (98 ∷ 97 ∷ []) (repeat 0 None true body) accept 0) ≡ Some 2
unfolding computing
kit_goes_on = refl

-- the test refuses it, and passes the same with the empty branch last
refused : leaves_last body ≡ false
refused = refl

passed : leaves_last (alt_all (one 98 ∷ one 97 ∷ empty ∷ [])) ≡ true
passed = refl

-- `(a*)*` on "a": we answer that group 1 is at 1 to 1, the kit that it is at 0 to 1
ours_sets : option_map (λ s. s.captures 1) (first_way (Repeat 0 None true (Group 1 (Repeat 0 None true (letter 97)))) (97 ∷ []))
    ≡ Some (Some (1, 1))
unfolding computing
ours_sets = refl

kit_keeps : option_map (λ m. slot_of m 2) (find_str (repeat 0 None true (group 1 (repeat 0 None true (one 97)))) (97 ∷ []) 0)
    ≡ Some (Some 0)
unfolding computing
kit_keeps = refl
