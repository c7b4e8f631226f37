-- Which look-arounds ask for the branches of their body, and which for its ways alone.
use Rattle.std.proofs.Common.{◌≡◌, ℕ, Bool, true, false, ◌||◌, not, List, [], ◌∷◌, ◌++◌, map, filter, flat_map, is_some, if◌then◌else◌, ◌==◌, refl, sym, ap, ap₂, ◌∙◌}
use Rattle.std.specs.Prelude.{slice_get}
use Rattle.std.proofs.Math.Path.{fun_ext}
use Rattle.std.proofs.lemmas.List.Elements.{filter-append}
use Rattle.fancy_meaning.specs.Tree.{Tree, LookAround, LookAhead, LookAheadNeg, LookBehindNeg}
use Rattle.fancy_meaning.specs.Places.{places_back}
use Rattle.fancy_meaning.specs.MatchState.{MatchState, Ways, one_of, has_way, moved_to}
use Rattle.fancy_meaning.specs.Ways.{Setting, ahead, unless, ends_here, ways_with}
use Rattle.fancy_laws.proofs.Looks.{has_branches}

-- the list has an item
abbrev has_one : List MatchState → Bool
has_one ss = is_some (slice_get ss 0)

one_of_both : (ss ts : List MatchState) → has_one (ss ++ ts) ≡ (has_one ss || has_one ts)
one_of_both [] ts = refl
one_of_both (s ∷ ss) ts = refl

either_order : (a b c d : Bool) → ((a || b) || (c || d)) ≡ ((a || c) || (b || d))
either_order true b c d = refl
either_order false true true d = refl
either_order false true false d = refl
either_order false false c d = refl

-- what is found at each place, or among both at each place
found_in_either : (f g : ℕ → List MatchState) (is : List ℕ) →
    has_one (flat_map (λ i. f i ++ g i) is) ≡ (has_one (flat_map f is) || has_one (flat_map g is))
found_in_either f g [] = refl
found_in_either f g (i ∷ is) =
    one_of_both (f i ++ g i) (flat_map (λ j. f j ++ g j) is)
    ∙ ap₂ (λ a b. a || b) (one_of_both (f i) (g i)) (found_in_either f g is)
    ∙ either_order (has_one (f i)) (has_one (g i)) (has_one (flat_map f is)) (has_one (flat_map g is))
    ∙ sym (ap₂ (λ a b. a || b) (one_of_both (f i) (flat_map f is)) (one_of_both (g i) (flat_map g is)))

found_nowhere : (is : List ℕ) → has_one (flat_map (λ i. []) is) ≡ false
found_nowhere [] = refl
found_nowhere (i ∷ is) = found_nowhere is

module _ (q : Setting) where
  -- whether a way ends here, of branches in turn and of all at each place
  ends_of_branches : (ws : List Ways) (s : MatchState) →
      has_way (one_of (map (ends_here q) ws)) s ≡ has_way (ends_here q (one_of ws)) s
  ends_of_branches [] s = sym (found_nowhere (places_back q.text s.place))
  ends_of_branches (w ∷ ws) s =
      let here : MatchState → Bool = λ t. t.place == s.place in
      one_of_both (ends_here q w s) (one_of (map (ends_here q) ws) s)
      ∙ ap (λ b. has_one (ends_here q w s) || b) (ends_of_branches ws s)
      ∙ sym (found_in_either (λ i. filter here (w (moved_to i s))) (λ i. filter here (one_of ws (moved_to i s)))
      (places_back q.text s.place))
      ∙ ap (λ f. has_one (flat_map f (places_back q.text s.place)))
      (fun_ext (λ i. sym (filter-append here (w (moved_to i s)) (one_of ws (moved_to i s)))))

  module _ (call : ℕ → Ways) (e : Tree) where
    -- the branches of a body in turn are its ways
    branches_are_ways : one_of ((has_branches q call e).branches) ≡ ways_with q call e
    branches_are_ways = fun_ext (has_branches q call e).in_turn

    pub ahead_of : ways_with q call (LookAround LookAhead e) ≡ ahead (ways_with q call e)
    ahead_of = (has_branches q call e).of_look LookAhead ∙ ap ahead branches_are_ways

    pub not_ahead_of : ways_with q call (LookAround LookAheadNeg e) ≡ unless (ways_with q call e)
    not_ahead_of = (has_branches q call e).of_look LookAheadNeg ∙ ap unless branches_are_ways

    pub not_behind_of : ways_with q call (LookAround LookBehindNeg e) ≡ unless (ends_here q (ways_with q call e))
    not_behind_of =
        (has_branches q call e).of_look LookBehindNeg
        ∙ fun_ext
        (λ s. ap (λ b. if not b then s ∷ [] else []) (ends_of_branches ((has_branches q call e).branches) s))
        ∙ ap (λ w. unless (ends_here q w)) branches_are_ways
