-- Where no `\K` is in the tree, no way is longer than one that takes as many characters as the tree's size allows.
use Rattle.std.proofs.Common.{◌≡◌, ⊎_elim, ℕ, zero, suc, ◌-◌, ◌≤◌, ◌<◌, true, false, if◌then◌else◌, List, ◌∷◌, length, filter, Contains, arith}
use Rattle.std.specs.List.{list_any}
use Rattle.std.proofs.lemmas.Bool.{cases_lt}
use Rattle.fancy_meaning.specs.Numbers.{usize_max}
use Rattle.fancy_meaning.specs.Tree.{Tree}
use Rattle.fancy_meaning.specs.Nodes.{nodes, is_read, is_keep_out}
use Rattle.fancy_meaning.specs.OpenCalls.{no_calls}
use Rattle.fancy_meaning.specs.Places.{range_from, is_place, chars_between}
use Rattle.fancy_meaning.specs.MatchState.{MatchState, first_state}
use Rattle.fancy_meaning.specs.Ways.{Setting, ways}
use Rattle.fancy_meaning.specs.Answer.{reported}
use Rattle.fancy_meaning.specs.Sizes.{size}
use Rattle.fancy_meaning.specs.Premises.{Analysed, tree_of, IsText}
use Rattle.fancy_laws.proofs.Every.{every_contained}
use Rattle.fancy_laws.proofs.Characters.{chars_add, some_char}
use Rattle.fancy_laws.proofs.Moves.{is_place_parts}
use Rattle.fancy_laws.proofs.NodesBelow.{itself_contained}
use Rattle.fancy_laws.proofs.Orderly.{analysed_is_orderly}
use Rattle.fancy_laws.proofs.SizedWays.{IsSizedWay, first_is_sound}
use Rattle.fancy_laws.proofs.SizesHold.{ways_have_sizes}

few_pass : (text : List ℕ) (n i : ℕ) → length (filter (is_place text) (range_from i n)) ≤ n
few_pass text zero i = omega arith
few_pass text (suc n) i =
    let rest = few_pass text n (suc i) in
    elim (is_place text i) as
    (λ v. length (if v then i ∷ filter (is_place text) (range_from (suc i) n) else filter (is_place text) (range_from (suc i) n)) ≤ suc n) [
      | true ↦ omega (arith, rest)
      | false ↦ omega (arith, rest)
    ]

-- there are no more characters than bytes
pub chars_at_most : (text : List ℕ) (i j : ℕ) → chars_between text i j ≤ j - i
unfolding chars_between
chars_at_most text i j = few_pass text (j - i) (suc i)

module _ (q : Setting) (a : Analysed) (is : IsText q.text) (start : ℕ) (at : is_place q.text start ≡ true) where
  abbrev whole : Tree
  whole = tree_of a

  abbrev ways_there : List MatchState
  ways_there = ways q whole whole no_calls (first_state start)

  sized : (s : MatchState) → Contains ways_there s →
      IsSizedWay q whole (is_read whole) (size whole whole) (first_state start) s
  sized s c =
      every_contained s
      (ways_have_sizes q whole is.utf8 (analysed_is_orderly a) whole no_calls (itself_contained whole) (first_state start)
      (first_is_sound q whole start at)) c

  -- each way ends in the text, and no text is so long
  pub way_is_small : (s : MatchState) → Contains ways_there s → s.place < usize_max
  way_is_small s c =
      let within = (is_place_parts q.text s.place ((sized s c).sound).place).0 in
      let fits = is.fits in
      omega (arith, within, fits)

  -- of two ways neither goes past the other that takes as many characters as the size allows
  goes_no_further : (s t : MatchState) → Contains ways_there s → Contains ways_there t →
      chars_between q.text start s.place ≡ (size whole whole).most → t.place ≤ s.place
  goes_no_further s t cs ct all =
      let one = sized s cs in
      let other = sized t ct in
      let within = (is_place_parts q.text t.place (other.sound).place).0 in
      let fits = is.fits in
      ⊎_elim {C = t.place ≤ s.place}
      (λ lt.
      let sum = chars_add q.text start s.place t.place one.on (omega (arith, lt)) in
      let some = some_char q.text s.place t.place lt (other.sound).place in
      let few = chars_at_most q.text start t.place in
      ⊎_elim {C = t.place ≤ s.place} (λ unbounded. absurd (omega (arith, sum, some, few, all, unbounded, within, fits)))
      (λ le. absurd (omega (arith, sum, some, all, le))) (other.sized).at_most)
      (λ ge. omega (arith, ge))
      (cases_lt s.place t.place)

  pub none_is_longer : list_any is_keep_out (nodes whole) ≡ false → (s t : MatchState) → Contains ways_there s →
      Contains ways_there t → chars_between q.text start s.place ≡ (size whole whole).most → reported t ≤ reported s
  none_is_longer none s t cs ct all =
      let le = goes_no_further s t cs ct all in
      let kept = (sized s cs).kept none in
      let kept' = (sized t ct).kept none in
      omega (arith, le, kept, kept')
