-- The longest match beside the first, start by start.
use Rattle.std.proofs.Common.{◌≡◌, inl, ℕ, ◌≤◌, ◌-◌, min, true, false, List, [], ◌∷◌, length, filter, flat_map, Option, Some, None, refl, sym, subst, arith}
use Rattle.fancy_meaning.specs.Nodes.{group_count}
use Rattle.fancy_meaning.specs.Places.{range_from}
use Rattle.fancy_meaning.specs.MatchState.{MatchState}
use Rattle.fancy_meaning.specs.Answer.{Search, span_numbers, as_numbers, reported, chosen, starts, is_admitted, ways_from, attempt, answer}
use Rattle.fancy_laws.proofs.Every.{every_contained}
use Rattle.fancy_laws.proofs.Chosen.{none_longer}
use Rattle.fancy_laws.proofs.NodesBelow.{first_contained}
use Rattle.fancy_starts.specs.Matches.{has_keep_out, Found, match_of, for_first, for_longest}
use Rattle.fancy_starts.specs.Starts.{IsAtLeastAsLong, SpanIsAtLeastAsLong, EndsNoEarlier}
use Rattle.fancy_starts.proofs.Firsts.{first_of, next_of}
use Rattle.fancy_starts.proofs.Matches.{numbers_of, answer_is, Begins, begins, numbers_begin, numbers_from_start}

-- none of both, or the second one at least as long
abbrev AreBeside : Option MatchState → Option MatchState → Type 0
AreBeside None None = Unit {0}
AreBeside (Some s) (Some t) = reported s ≤ reported t
AreBeside o p = ⊥

first_and_longest : (ss : List MatchState) → AreBeside (chosen false ss) (chosen true ss)
first_and_longest [] = tt
first_and_longest (s ∷ ss) = every_contained s (none_longer s ss) (first_contained s ss)

module _ (f g : ℕ → Option MatchState) (beside : (i : ℕ) → AreBeside (f i) (g i)) where
  at_same_start : (is : List ℕ) → IsAtLeastAsLong (first_of f is) (first_of g is)
  at_same_start [] = tt
  at_same_start (i ∷ is) = by_first (f i) (g i) (beside i) (at_same_start is)
    where
      by_first : (o p : Option MatchState) → AreBeside o p → IsAtLeastAsLong (first_of f is) (first_of g is) →
          IsAtLeastAsLong (next_of f o i is) (next_of g p i is)
      by_first None None b rest = rest
      by_first (Some s) (Some t) b rest = (refl, b)
      by_first None (Some t) b rest = absurd b
      by_first (Some s) None b rest = absurd b

pub longest_beside : (q : Search) → IsAtLeastAsLong (match_of (for_first q)) (match_of (for_longest q))
longest_beside q =
    at_same_start (attempt (for_first q)) (attempt (for_longest q))
    (λ i. first_and_longest (filter (is_admitted q i) (ways_from q i))) (starts q)

-- ---- as numbers

module _ (q : Search) where
  abbrev numbers : Found → List ℕ
  numbers m = as_numbers (group_count q.tree) m.1

  abbrev groups_of : Found → List ℕ
  groups_of m = flat_map (λ g. span_numbers ((m.1).captures g)) (range_from 1 (group_count q.tree))

  spans : (o p : Option Found) → IsAtLeastAsLong o p → SpanIsAtLeastAsLong (numbers_of q o) (numbers_of q p)
  spans None None h = tt
  spans (Some m) (Some n) h =
      let s : MatchState = m.1 in
      let t : MatchState = n.1 in
      let le : s.place - s.kept ≤ t.place - t.kept = h.1 in
      let out : s.place - min s.kept s.place ≤ t.place - min t.kept t.place = omega (arith, le) in
      subst (λ l. SpanIsAtLeastAsLong (Some l) (Some (numbers n))) (sym (numbers_begin (group_count q.tree) m.1))
      (subst (λ l. SpanIsAtLeastAsLong (Some (min s.kept s.place ∷ s.place ∷ groups_of m)) (Some l))
      (sym (numbers_begin (group_count q.tree) n.1)) out)
  spans None (Some n) h = absurd h
  spans (Some m) None h = absurd h

  pub longest_answer_beside : SpanIsAtLeastAsLong (answer (for_first q)) (answer (for_longest q))
  longest_answer_beside =
      subst (λ o. SpanIsAtLeastAsLong o (answer (for_longest q))) (sym (answer_is (for_first q)))
      (subst (SpanIsAtLeastAsLong (numbers_of q (match_of (for_first q)))) (sym (answer_is (for_longest q)))
      (spans (match_of (for_first q)) (match_of (for_longest q)) (longest_beside q)))

  ends : (o p : Option Found) → ((m : Found) → o ≡ Some m → Begins m) → ((n : Found) → p ≡ Some n → Begins n) →
      IsAtLeastAsLong o p → EndsNoEarlier (numbers_of q o) (numbers_of q p)
  ends None None b d h = tt
  ends (Some m) (Some n) b d h =
      let bm : Begins m = b m refl in
      let bn : Begins n = d n refl in
      let same : m.0 ≡ n.0 = h.0 in
      let le : (m.1).place - (m.1).kept ≤ (n.1).place - (n.1).kept = h.1 in
      let out : (m.1).place ≤ (n.1).place = omega (arith, le, same, bm.kept, bm.forward, bn.kept, bn.forward) in
      subst (λ l. EndsNoEarlier (Some l) (Some (numbers n))) (sym (numbers_from_start (group_count q.tree) m bm))
      (subst (λ l. EndsNoEarlier (Some (m.0 ∷ (m.1).place ∷ groups_of m)) (Some l))
      (sym (numbers_from_start (group_count q.tree) n bn)) (same, out))
  ends None (Some n) b d h = absurd h
  ends (Some m) None b d h = absurd h

  pub longest_ends : q.pos ≤ length q.text → has_keep_out q.tree ≡ false →
      EndsNoEarlier (answer (for_first q)) (answer (for_longest q))
  longest_ends le free =
      subst (λ o. EndsNoEarlier o (answer (for_longest q))) (sym (answer_is (for_first q)))
      (subst (EndsNoEarlier (numbers_of q (match_of (for_first q)))) (sym (answer_is (for_longest q)))
      (ends (match_of (for_first q)) (match_of (for_longest q))
      (λ m e. begins (for_first q) m (inl le) free e) (λ n e. begins (for_longest q) n (inl le) free e) (longest_beside q)))
