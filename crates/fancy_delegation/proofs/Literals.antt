-- Neighbours that are all literal take their characters one after the other.
use Rattle.std.proofs.Common.{◌≡◌, ℕ, Bool, List, [], ◌∷◌, ◌++◌, map, flat_map, Option, Some, None, option_and_then, refl, sym, ap, ◌∙◌, append-nil}
use Rattle.std.specs.Prelude.{option_map}
use Rattle.std.proofs.lemmas.List.{map-append}
use Rattle.fancy_meaning.specs.Tree.{Tree, Trees, none, more, Literal, Concat}
use Rattle.fancy_meaning.specs.Chars.{literal_takes}
use Rattle.fancy_meaning.specs.Moves.{Move, past_char, past_chars}
use Rattle.fancy_meaning.specs.MatchState.{MatchState, Ways, in_order, moved_to}
use Rattle.fancy_meaning.specs.Ways.{Setting, moves, ways_with, each_ways}
use Rattle.fancy_meaning.specs.Batches.{all_joined, literal_chars, each_literal}
use Rattle.fancy_delegation.proofs.Binding.{flat_map_same}

past_chars_append : (text : List ℕ) (xs ys : List (ℕ → Bool)) (i : ℕ) →
    past_chars text (xs ++ ys) i ≡ option_and_then (past_chars text ys) (past_chars text xs i)
past_chars_append text [] ys i = refl
past_chars_append text (x ∷ xs) ys i = here (past_chars_append text xs ys) (past_char text x i)
  where
    here : ((j : ℕ) → past_chars text (xs ++ ys) j ≡ option_and_then (past_chars text ys) (past_chars text xs j)) →
        (o : Option ℕ) → option_and_then (past_chars text (xs ++ ys)) o
        ≡ option_and_then (past_chars text ys) (option_and_then (past_chars text xs) o)
    here rest None = refl
    here rest (Some j) = rest j

module _ (q : Setting) (call : ℕ → Ways) where
  -- past these characters, each folded or not
  abbrev pub past_literals : List (ℕ × Bool) → Move
  past_literals cs = past_chars q.text (map (λ c. literal_takes q.unicode c.0 c.1) cs)

  moves_same : (m n : Move) (s : MatchState) → m s.place ≡ n s.place → moves q m s ≡ moves q n s
  moves_same m n s e = ap (λ o. moves q (λ i. o) s) e

  moves_both : (m : Move) (s : MatchState) (o : Option ℕ) → flat_map (moves q m) (moves q (λ i. o) s) ≡ moves q (λ i. option_and_then m o) s
  moves_both m s None = refl
  moves_both m s (Some i) = append-nil (moves q m (moved_to i s))

  one_after_other : (cs ds : List (ℕ × Bool)) (s : MatchState) →
      flat_map (moves q (past_literals ds)) (moves q (past_literals cs) s) ≡ moves q (past_literals (cs ++ ds)) s
  one_after_other cs ds s =
      moves_both (past_literals ds) s (past_literals cs s.place)
      ∙ moves_same (λ i. option_and_then (past_literals ds) (past_literals cs s.place)) (past_literals (cs ++ ds)) s
      (sym (ap (λ ts. past_chars q.text ts s.place) (map-append (λ c. literal_takes q.unicode c.0 c.1) cs ds)
      ∙ past_chars_append q.text (map (λ c. literal_takes q.unicode c.0 c.1) cs)
      (map (λ c. literal_takes q.unicode c.0 c.1) ds) s.place))

  one_alone : (o : Option ℕ) → o ≡ option_and_then (λ j. Some j) o
  one_alone None = refl
  one_alone (Some j) = refl

  -- the characters of the first, and of the rest
  record Joined (o : Option (List (ℕ × Bool))) (os : List (Option (List (ℕ × Bool)))) (cs : List (ℕ × Bool)) : Type 0 where
    front : List (ℕ × Bool)
    rest : List (ℕ × Bool)
    of_first : o ≡ Some front
    of_rest : all_joined os ≡ Some rest
    both : front ++ rest ≡ cs

  joined_tells : (o : Option (List (ℕ × Bool))) (os : List (Option (List (ℕ × Bool)))) (cs : List (ℕ × Bool)) →
      all_joined (o ∷ os) ≡ Some cs → Joined o os cs
  joined_tells None os cs e = cc
  joined_tells (Some front) os cs e = here (all_joined os) refl e
    where
      here : (r : Option (List (ℕ × Bool))) → all_joined os ≡ r → option_map (λ ds. front ++ ds) r ≡ Some cs → Joined (Some front) os cs
      here None q e = cc
      here (Some rest) q e = record { front = front; rest = rest; of_first = refl; of_rest = q; both = cc }

  mutual
    pub literal_ways : (e : Tree) (cs : List (ℕ × Bool)) → literal_chars e ≡ Some cs → (s : MatchState) →
        ways_with q call e s ≡ moves q (past_literals cs) s
    literal_ways (Literal c casei) cs e s =
        moves_same (past_char q.text (literal_takes q.unicode c casei)) (past_literals ((c, casei) ∷ [])) s
        (one_alone (past_char q.text (literal_takes q.unicode c casei) s.place))
        ∙ ap (λ l. moves q (past_literals l) s) (let same : (c, casei) ∷ [] ≡ cs = cc in same)
    literal_ways (Concat es) cs e s = each_literal_way es cs e s
    literal_ways e cs q s = cc

    pub each_literal_way : (es : Trees) (cs : List (ℕ × Bool)) → all_joined (each_literal es) ≡ Some cs →
        (s : MatchState) → in_order (each_ways q call es) s ≡ moves q (past_literals cs) s
    each_literal_way none cs e s = let none_left : [] ≡ cs = cc in ap (λ l. moves q (past_literals l) s) none_left
    each_literal_way (more e es) cs q' s =
        let j = joined_tells (literal_chars e) (each_literal es) cs q' in
        ap (flat_map (in_order (each_ways q call es))) (literal_ways e j.front j.of_first s)
        ∙ flat_map_same (in_order (each_ways q call es)) (moves q (past_literals j.rest))
        (each_literal_way es j.rest j.of_rest) (moves q (past_literals j.front) s)
        ∙ one_after_other j.front j.rest s ∙ ap (λ l. moves q (past_literals l) s) j.both
