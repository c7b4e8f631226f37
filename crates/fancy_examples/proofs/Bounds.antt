-- Runs of easy trees within their bounds.
use Rattle.std.specs.Prelude.{◌≡◌, ℕ, ◌*◌, false, List, [], ◌∷◌, length, Option, Some, None, codes, refl}
use Rattle.fancy_meaning.specs.Tree.{Empty, EndText, Tree}
use Rattle.fancy_meaning.specs.Answer.{starts, search_of}
use Rattle.fancy_meaning.specs.Hard.{is_root_hard}
use Rattle.fancy_meaning.specs.Config.{outcome_of}
use Rattle.fancy_examples.proofs.Notation.{plain, from, with_limits, found, utf8, lit, cat, alt, grp, rep, star, any, assert, row}

-- with a backtrack for each tried start, and eight instructions, an easy tree answers as before
abbrev Bounded : Tree → List ℕ → Option (List ℕ) → Type 0
Bounded e text numbers =
    let p = plain e in
    let n = length (starts (search_of p text (from 0))) in
    (is_root_hard p.analysis ≡ false) × (found p text (with_limits n (8 * n)) ≡ outcome_of numbers)

first_path_in_bounds : Bounded (cat (lit "a" ∷ grp (alt (lit "b" ∷ lit "bc" ∷ [])) ∷ lit "d" ∷ [])) (codes "abcd") (Some (0 ∷ 4 ∷ 1 ∷ 3 ∷ []))
unfolding row
first_path_in_bounds = (refl, refl)

no_path_in_bounds : Bounded (cat (lit "a" ∷ grp (alt (lit "b" ∷ lit "bc" ∷ [])) ∷ lit "d" ∷ [])) (codes "bcd") None
unfolding row
no_path_in_bounds = (refl, refl)

letter_in_bounds : Bounded (lit "b") (codes "aab") (Some (2 ∷ 3 ∷ []))
unfolding row
letter_in_bounds = (refl, refl)

no_letter_in_bounds : Bounded (lit "b") (codes "aa") None
unfolding row
no_letter_in_bounds = (refl, refl)

nothing_in_bounds : Bounded Empty [] (Some (0 ∷ 0 ∷ []))
unfolding row
nothing_in_bounds = (refl, refl)

counts_in_bounds : Bounded (rep 2 2 (lit "ab")) (codes "ababab") (Some (0 ∷ 4 ∷ []))
unfolding row
counts_in_bounds = (refl, refl)

empty_iteration_in_bounds : Bounded (star 0 (grp (rep 0 1 (lit "a")))) (codes "a") (Some (0 ∷ 1 ∷ 1 ∷ 1 ∷ []))
unfolding row
empty_iteration_in_bounds = (refl, refl)

branches_in_bounds : Bounded (alt (lit "b" ∷ lit "bc" ∷ [])) (codes "aab") (Some (2 ∷ 3 ∷ []))
unfolding row
branches_in_bounds = (refl, refl)

two_bytes_in_bounds : Bounded (lit "é") (utf8 "aéé") (Some (1 ∷ 3 ∷ []))
unfolding row
two_bytes_in_bounds = (refl, refl)

long_way_in_bounds : Bounded (cat (star 0 (alt (lit "a" ∷ lit "b" ∷ [])) ∷ lit "c" ∷ [])) (codes "ababc") (Some (0 ∷ 5 ∷ []))
unfolding row
long_way_in_bounds = (refl, refl)

text_end_in_bounds : Bounded (cat (any ∷ assert EndText ∷ [])) (codes "ab") (Some (1 ∷ 2 ∷ []))
unfolding row
text_end_in_bounds = (refl, refl)
