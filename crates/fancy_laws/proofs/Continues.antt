-- Where a tree has a marked `\G`, no other start has a way.
use Rattle.std.proofs.Common.{◌≡◌, ◌≢◌, ℕ, ◌<◌, ◌≤◌, ⊎_elim, true, ◌&&◌, ◌==◌, List, [], ◌∷◌, Contains, IsTrue, refl, sym, subst, ◌∙◌, arith, eqb-true}
use Rattle.std.proofs.lemmas.Bool.{and_parts, false≢true, cases_lt}
use Rattle.fancy_meaning.specs.Tree.{Tree, Trees, none, more, ContinueFromPreviousMatchEnd, Group, Concat}
use Rattle.fancy_meaning.specs.Nodes.{nodes, nodes_of_each, is_read}
use Rattle.fancy_meaning.specs.OpenCalls.{Depths, no_calls, free_calls}
use Rattle.fancy_meaning.specs.Places.{is_place}
use Rattle.fancy_meaning.specs.MatchState.{MatchState, Ways, with_span, in_order, first_state}
use Rattle.fancy_meaning.specs.Ways.{Setting, each_ways, called, ways}
use Rattle.fancy_meaning.specs.Answer.{Search, ways_from}
use Rattle.fancy_meaning.specs.Sizes.{size}
use Rattle.fancy_meaning.specs.Premises.{IsSoundState, Analysed, tree_of, IsText}
use Rattle.fancy_meaning.specs.Marks.{is_continue, takes_nothing, has_marked_continue}
use Rattle.fancy_laws.proofs.Every.{Every, item, every_flat_map, every_map, every_anything, every_weaker}
use Rattle.fancy_laws.proofs.WaysOf.{every_stays_if}
use Rattle.fancy_laws.proofs.Characters.{some_char}
use Rattle.fancy_laws.proofs.Marks.{first_has_continue, any_cases}
use Rattle.fancy_laws.proofs.NodesBelow.{itself_contained, Includes, includes_rest, includes_left, includes_right}
use Rattle.fancy_laws.proofs.Orderly.{IsOrderly, analysed_is_orderly}
use Rattle.fancy_laws.proofs.SizedWays.{IsSizedWay, first_is_sound}
use Rattle.fancy_laws.proofs.SizesHold.{ways_have_sizes}

-- a list of which each item is refuted is empty
pub nothing_there : {A : Type 0} {P : A → Type 0} (xs : List A) → Every P xs → ((x : A) → P x → ⊥) → xs ≡ []
nothing_there [] h no_way = refl
nothing_there (x ∷ xs) (item p h) no_way = absurd (no_way x p)

module _ (q : Setting) (whole : Tree) (depths : Depths)
    (sizes : (e : Tree) → Contains (nodes whole) e → (s : MatchState) → IsSoundState q whole s →
    Every (IsSizedWay q whole (is_read whole) (size whole e) s) (ways q whole e depths s)) where
  -- a way that takes no characters ends where it began
  no_move : (e : Tree) (s t : MatchState) → takes_nothing whole e ≡ true → IsSizedWay q whole (is_read whole) (size whole e) s t →
      t.place ≡ s.place
  no_move e s t nothing way = ⊎_elim
      (λ (lt : s.place < t.place). absurd
      (omega (
        arith,
        some_char q.text s.place t.place lt (way.sound).place,
        eqb-true (size whole e).most 0 nothing,
        (way.sized).at_most,
      )))
      (λ (ge : t.place ≤ s.place). omega (arith, ge, way.on))
      (cases_lt s.place t.place)

  mutual
    begins : (e : Tree) → Includes (nodes whole) (nodes e) → has_marked_continue whole e ≡ true →
        (s : MatchState) → IsSoundState q whole s →
        Every (λ t. s.place ≡ q.pos) (ways q whole e depths s)
    begins ContinueFromPreviousMatchEnd part is s sound =
        every_stays_if (λ t. q.continued && t.place == q.pos) s
        (λ e. eqb-true s.place q.pos (and_parts q.continued (s.place == q.pos) e).1)
    begins (Group g e) part is s sound =
        every_map {P = λ t. s.place ≡ q.pos} (λ t. with_span g (s.place, t.place) t) (λ t at. at)
        (begins e (includes_rest (nodes whole) (Group g e) (nodes e) part) is s sound)
    begins (Concat es) part is s sound =
        each_begins es (includes_rest (nodes whole) (Concat es) (nodes_of_each es) part) is s sound
    begins e part is s sound = absurd (false≢true is)

    each_begins : (es : Trees) → Includes (nodes whole) (nodes_of_each es) →
        first_has_continue whole es ≡ true → (s : MatchState) → IsSoundState q whole s →
        Every (λ t. s.place ≡ q.pos) (in_order (each_ways q (called q whole (free_calls whole depths) depths) es) s)
    each_begins none part is s sound = absurd (false≢true is)
    each_begins (more e es) part is s sound =
        let mine : Includes (nodes whole) (nodes e) = includes_left (nodes whole) (nodes e) (nodes_of_each es) part in
        let rest : Ways = in_order (each_ways q (called q whole (free_calls whole depths) depths) es) in
        ⊎_elim
        (λ first. every_flat_map {P = λ t. s.place ≡ q.pos} rest (λ t at. every_anything (rest t) (λ u. at))
        (begins e mine first s sound))
        (λ (both : (takes_nothing whole e ≡ true) × (first_has_continue whole es ≡ true)).
        every_flat_map {P = IsSizedWay q whole (is_read whole) (size whole e) s} rest
        (λ t way. every_weaker (λ u at. sym (no_move e s t both.0 way) ∙ at)
        (each_begins es (includes_right (nodes whole) (nodes e) (nodes_of_each es) part) both.1 t way.sound))
        (sizes e (mine e (itself_contained e)) s sound))
        (any_cases whole is_continue e es is)

pub continued_ways : (q : Search) (a : Analysed) (start : ℕ) → q.tree ≡ tree_of a → IsText q.text →
    IsTrue (is_place q.text start) →
    has_marked_continue q.tree q.tree ≡ true → start ≢ q.pos → ways_from q start ≡ []
continued_ways q a start same text at is other =
    let orderly : IsOrderly q.tree = subst IsOrderly (sym same) (analysed_is_orderly a) in
    nothing_there (ways_from q start)
    (begins q.setting q.tree no_calls (λ e c. ways_have_sizes q.setting q.tree text.utf8 orderly e no_calls c) q.tree
    (λ x c. c) is (first_state start) (first_is_sound q.setting q.tree start at))
    (λ t here. other here)
