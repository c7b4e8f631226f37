-- A sequence of plain literals finds the first place of their bytes.
use Rattle.std.proofs.Common.{◌≡◌, ℕ, zero, suc, ◌+◌, ◌<◌, ◌≤◌, min, Bool, true, false, not, ◌&&◌, ◌==◌, if◌then◌else◌, List, [], ◌∷◌, length, map, filter, filter_map, Option, Some, None, option_map, encode_utf8_all, refl, sym, ap, ◌∙◌, subst, arith, ne_eqb}
use Rattle.std.specs.Prelude.{slice_get}
use Rattle.std.specs.List.{cons_option, list_any}
use Rattle.std.proofs.Math.Path.{fun_ext}
use Rattle.std.specs.Char.{IsScalar}
use Rattle.std.proofs.lemmas.Bool.{and_from}
use Rattle.regex_hir.specs.Text.{has_bytes_at}
use Rattle.fancy_meaning.specs.Answer.{Search, answer, as_numbers, attempt, chosen, is_admitted, is_empty_at_end, ways_from}
use Rattle.fancy_meaning.specs.Batches.{all_joined, each_literal, literal_chars}
use Rattle.fancy_meaning.specs.MatchState.{MatchState, Ways, first_state, moved_to}
use Rattle.fancy_meaning.specs.Chars.{literal_takes}
use Rattle.fancy_meaning.specs.Moves.{Move, past_bytes, past_chars}
use Rattle.fancy_meaning.specs.Nodes.{as_group, group_count, groups, nodes_of_each}
use Rattle.fancy_meaning.specs.OpenCalls.{free_calls, no_calls}
use Rattle.fancy_meaning.specs.Places.{places_from}
use Rattle.fancy_meaning.specs.Tree.{Tree, trees}
use Rattle.fancy_meaning.specs.Ways.{Setting, called, ways_with}
use Rattle.fancy_composed.proofs.Parts.{at_place, moves_at}
use Rattle.fancy_delegation.proofs.Literals.{literal_ways}
use Rattle.fancy_headline.proofs.Literals.{bytes_of_all}
use Rattle.fancy_laws.proofs.Every.{Every, no_item, item}
use Rattle.fancy_pattern.specs.Escape.{literals}
use Rattle.fancy_pattern.specs.Grammar.{joined}

-- the tree that a text spells
abbrev pub spelled : Bool → List ℕ → Tree
spelled casei cs = joined (literals casei cs)

-- its characters, each with whether it is folded
abbrev pairs : Bool → List ℕ → List (ℕ × Bool)
pairs casei cs = map (λ c. (c, casei)) cs

-- past all of them
abbrev pub past_literals_of : Setting → Bool → List ℕ → Move
past_literals_of q casei cs = past_chars q.text (map (λ c. literal_takes q.unicode c.0 c.1) (pairs casei cs))

all_pairs : (casei : Bool) (cs : List ℕ) → all_joined (each_literal (trees (literals casei cs))) ≡ Some (pairs casei cs)
all_pairs casei [] = refl
all_pairs casei (c ∷ cs) = ap (option_map (λ ds. (c, casei) ∷ ds)) (all_pairs casei cs)

chars_of : (casei : Bool) (c : ℕ) (cs : List ℕ) → literal_chars (spelled casei (c ∷ cs)) ≡ Some (pairs casei (c ∷ cs))
chars_of casei c [] = refl
chars_of casei c (d ∷ cs) = all_pairs casei (c ∷ d ∷ cs)

none_folded : (cs : List ℕ) → list_any (λ c. c.1) (pairs false cs) ≡ false
none_folded [] = refl
none_folded (c ∷ cs) = none_folded cs

plain_chars : (cs : List ℕ) → map (λ c. c.0) (pairs false cs) ≡ cs
plain_chars [] = refl
plain_chars (c ∷ cs) = ap (λ l. c ∷ l) (plain_chars cs)

all_scalar : (cs : List ℕ) → Every IsScalar cs → Every (λ c. IsScalar c.0) (pairs false cs)
all_scalar [] no_item = no_item
all_scalar (c ∷ cs) (item k ks) = item k (all_scalar cs ks)

-- its way goes past the characters
pub literals_way : (q : Setting) (call : ℕ → Ways) (casei : Bool) (cs : List ℕ) (s : MatchState) →
    ways_with q call (spelled casei cs) s ≡ at_place s (past_literals_of q casei cs s.place)
literals_way q call casei [] s = refl
literals_way q call casei (c ∷ cs) s =
    literal_ways q call (spelled casei (c ∷ cs)) (pairs casei (c ∷ cs)) (chars_of casei c cs) s
    ∙ moves_at q (past_literals_of q casei (c ∷ cs)) s (past_literals_of q casei (c ∷ cs) s.place) refl

-- unfolded, past the bytes, where they are
pub bytes_way : (q : Setting) (call : ℕ → Ways) (cs : List ℕ) → Every IsScalar cs → (s : MatchState) →
    ways_with q call (spelled false cs) s ≡ at_place s (past_bytes q.text (encode_utf8_all cs) s.place)
bytes_way q call cs k s =
    literals_way q call false cs s
    ∙ ap (at_place s)
    (sym (bytes_of_all q.unicode q.text (pairs false cs) s.place (none_folded cs) (all_scalar cs k))
    ∙ ap (λ l. past_bytes q.text (encode_utf8_all l) s.place) (plain_chars cs))

-- ---- an attempt

chosen_if : (longest there : Bool) (test : MatchState → Bool) (s : MatchState) (j : ℕ) → test (moved_to j s) ≡ true →
    chosen longest (filter test (at_place s (if there then Some j else None))) ≡ (if there then Some (moved_to j s) else None)
chosen_if false false test s j e = refl
chosen_if true false test s j e = refl
chosen_if false true test s j e = ap (λ b. chosen false (if b then moved_to j s ∷ [] else [])) e
chosen_if true true test s j e = ap (λ b. chosen true (if b then moved_to j s ∷ [] else [])) e

-- the first of the starts that pass, with what is made of it
first_made : {A B : Type 0} (f : ℕ → Option A) (test : ℕ → Bool) (made : ℕ → A) (numbers : A → B) (is : List ℕ) →
    ((i : ℕ) → f i ≡ (if test i then Some (made i) else None)) →
    option_map numbers (slice_get (filter_map f is) 0) ≡ option_map (λ i. numbers (made i)) (slice_get (filter test is) 0)
first_made f test made numbers [] e = refl
first_made {A = A} f test made numbers (i ∷ is) e =
    ap (λ o. option_map numbers (slice_get (cons_option o (filter_map f is)) 0)) (e i)
    ∙ by_test (test i) (first_made f test made numbers is e)
  where
    by_test : (b : Bool) →
        option_map numbers (slice_get (filter_map f is) 0) ≡ option_map (λ j. numbers (made j)) (slice_get (filter test is) 0) →
        option_map numbers (slice_get (cons_option (if b then Some (made i) else None) (filter_map f is)) 0)
        ≡ option_map (λ j. numbers (made j)) (slice_get (if b then i ∷ filter test is else filter test is) 0)
    by_test true rest = refl
    by_test false rest = rest

-- ---- numbers

no_groups_in : (cs : List ℕ) → filter_map as_group (nodes_of_each (trees (literals false cs))) ≡ []
no_groups_in [] = refl
no_groups_in (c ∷ cs) = no_groups_in cs

no_groups : (cs : List ℕ) → group_count (spelled false cs) ≡ 0
unfolding group_count groups
no_groups [] = refl
no_groups (c ∷ []) = refl
no_groups (c ∷ d ∷ cs) = ap length (no_groups_in (c ∷ d ∷ cs))

two_numbers : (n i j : ℕ) → n ≡ 0 → i ≤ j → as_numbers n (moved_to j (first_state i)) ≡ i ∷ j ∷ []
unfolding as_numbers
two_numbers zero i j e le = let least : min i j ≡ i = omega (arith, le) in ap (λ k. k ∷ j ∷ []) least
two_numbers (suc n) i j e le = absurd (omega (arith, e))

-- ---- the answer

-- what calls give in the whole tree
abbrev pub called_in : Search → ℕ → Ways
called_in q = called q.setting q.tree (free_calls q.tree no_calls) no_calls

module _ (q : Search) (cs : List ℕ) (is : q.tree ≡ spelled false cs) (scalars : Every IsScalar cs)
    (tries_all : q.anchored ≡ false) (may_end : q.end_text ≡ false)
    (allowed : q.not_empty ≡ true → 0 < length (encode_utf8_all cs)) where
  abbrev bytes : List ℕ
  bytes = encode_utf8_all cs

  admitted : (i : ℕ) → is_admitted q i (moved_to (i + length bytes) (first_state i)) ≡ true
  admitted i =
      and_from _ _ (some_taken q.not_empty allowed)
      (ap (λ b. not (b && is_empty_at_end q i (moved_to (i + length bytes) (first_state i)) && not false)) may_end)
    where
      some_taken : (b : Bool) → (b ≡ true → 0 < length bytes) → not (b && (i + length bytes == i)) ≡ true
      some_taken false h = refl
      some_taken true h = let some = h refl in ap not (ne_eqb (i + length bytes) i (λ e. omega (arith, e, some)))

  attempt_is : (i : ℕ) → attempt q i
      ≡ (if has_bytes_at q.text i bytes then Some (moved_to (i + length bytes) (first_state i)) else None)
  attempt_is i =
      ap (λ ss. chosen q.leftmost_longest (filter (is_admitted q i) ss))
      (subst (λ t. ways_from q i ≡ ways_with q.setting (called_in q) t (first_state i)) is refl
      ∙ bytes_way q.setting (called_in q) cs scalars (first_state i))
      ∙ chosen_if q.leftmost_longest (has_bytes_at q.text i bytes) (is_admitted q i) (first_state i) (i + length bytes) (admitted i)

  pub answer_is_first : answer q
      ≡ option_map (λ i. i ∷ (i + length bytes) ∷ []) (slice_get (filter (λ i. has_bytes_at q.text i bytes) (places_from q.text q.pos)) 0)
  unfolding answer
  answer_is_first =
      ap
      (λ b. option_map (as_numbers (group_count q.tree))
      (slice_get (filter_map (attempt q) (if b then q.pos ∷ [] else places_from q.text q.pos)) 0))
      tries_all
      ∙ first_made (attempt q) (λ i. has_bytes_at q.text i bytes) (λ i. moved_to (i + length bytes) (first_state i))
      (as_numbers (group_count q.tree)) (places_from q.text q.pos) attempt_is
      ∙ ap (λ (f : ℕ → List ℕ). option_map f (slice_get (filter (λ i. has_bytes_at q.text i bytes) (places_from q.text q.pos)) 0))
      (fun_ext (λ i. two_numbers (group_count q.tree) i (i + length bytes) (ap group_count is ∙ no_groups cs) (omega arith)))
