-- The loops of the kit go through the ways of loops.
use Rattle.std.proofs.Common.{◌≡◌, ℕ, zero, suc, ◌+◌, ◌-◌, ◌<◌, ◌≤◌, Bool, true, false, if◌then◌else◌, List, [], ◌∷◌, length, flat_map, Option, Some, None, nat_lt, refl, sym, ap, ap₂, ◌∙◌, arith, inl, inr, eq-eqb, ne_eqb, lt-ltb, le-ltb}
use Rattle.std.proofs.lemmas.Bool.{cases_lt, cond-true, cond-false}
use Rattle.regex_hir.specs.Re.{Re, Rest, Trace, cat, plus, attempt, more_rounds}
use Rattle.regex_hir.specs.Meaning.{at_least, copies, optional, repeat, up_to}
use Rattle.regex_hir.proofs.AttemptLemmas.{more_rounds_unfold}
use Rattle.fancy_meaning.specs.Tree.{Tree, Repeat}
use Rattle.fancy_meaning.specs.MatchState.{MatchState, Ways}
use Rattle.fancy_meaning.specs.Loops.{at_most, if_moved, prefer, required, unbounded}
use Rattle.fancy_meaning.specs.Numbering.{numbered_within}
use Rattle.fancy_meaning.specs.Ways.{ways_with}
use Rattle.fancy_laws.proofs.Every.{every_weaker}
use Rattle.fancy_agreement.specs.First.{LeavesLast, Means, TakesFirstWay, first_some}
use Rattle.fancy_agreement.proofs.FirstSome.{first_append, first_flat_map, first_one, first_same, or_else, others_again, others_skipped, pick}
use Rattle.fancy_agreement.proofs.NodeLaws.{each_goes_on, stays_first, then_first}

pub first_prefer : {B : Type 0} (greedy : Bool) (f : MatchState → Option B) (on off : List MatchState) →
    first_some f (prefer greedy on off) ≡ pick greedy (first_some f on) (first_some f off)
first_prefer true f on off = first_append f on off
first_prefer false f on off = first_append f off on

pub attempt_optional : (text : List ℕ) (greedy : Bool) (a : Re) (k : Rest) (i : ℕ) →
    attempt text (optional greedy a) k i ≡ pick greedy (attempt text a k i) (k i)
unfolding attempt
attempt_optional text true a k i = refl
attempt_optional text false a k i = refl

pub attempt_plus : (text : List ℕ) (greedy : Bool) (a : Re) (k : Rest) (i : ℕ) →
    attempt text (plus greedy a) k i
    ≡ attempt text a (λ j. if nat_lt i j then more_rounds text greedy (attempt text a) k j else k j) i
unfolding attempt
attempt_plus text greedy a k i = refl

module _ (text : List ℕ) (a : Re) (body : Ways) (greedy : Bool) (first : TakesFirstWay text a body) where
  -- ---- a bound

  pub at_most_first : (n : ℕ) → TakesFirstWay text (up_to greedy n a) (at_most n greedy body)
  at_most_first zero s k within = stays_first text s k within
  at_most_first (suc n) s k within =
      attempt_optional text greedy (cat a (up_to greedy n a)) k s.place
      ∙ ap₂ (pick greedy) (then_first text a (up_to greedy n a) body (at_most n greedy body) first (at_most_first n) s k within)
      (sym (first_one (λ t. k t.place) s))
      ∙ sym (first_prefer greedy (λ t. k t.place) (flat_map (at_most n greedy body) (body s)) (s ∷ []))

  pub required_first : (b : Re) (rest : Ways) → TakesFirstWay text b rest → (n : ℕ) →
      TakesFirstWay text (copies n a b) (required n body rest)
  required_first b rest after zero = after
  required_first b rest after (suc n) =
      then_first text a (copies n a b) body (required n body rest) first (required_first b rest after n)

  -- ---- no bound

  module _ (order : greedy ≡ true → LeavesLast a) where
    abbrev more : Rest → Rest
    more k = more_rounds text greedy (attempt text a) k

    -- after an iteration: once more where it moved, and otherwise what c is
    abbrev then_more : MatchState → Rest → Option Trace → MatchState → Option Trace
    then_more s k = or_else (λ t. nat_lt s.place t.place) (λ t. more k t.place)

    more_is : (s : MatchState) (k : Rest) → s.place ≤ length text →
        more k s.place ≡ pick greedy (first_some (then_more s k None) (body s)) (k s.place)
    more_is s k within =
        more_rounds_unfold text greedy a k s.place
        ∙ ap (λ o. pick greedy o (k s.place))
        (first s (λ j. if nat_lt s.place j then more k j else None) within)

    kept : (s : MatchState) (k : Rest) → s.place ≤ length text → greedy ≡ true →
        (t : Trace) → first_some (then_more s k None) (body s) ≡ Some t → first_some (then_more s k (k s.place)) (body s) ≡ Some t
    kept s k within g t e =
        sym (first s (λ j. if nat_lt s.place j then more k j else k s.place) within)
        ∙ (order g).at text s.place (more k) (k s.place) t
        (first s (λ j. if nat_lt s.place j then more k j else None) within ∙ e)

    -- after the iteration to t: once more where it moved, and otherwise what follows
    after_one : (n : ℕ) (s t : MatchState) (k : Rest) → s.place ≤ t.place →
        (s.place < t.place → more k t.place ≡ first_some (λ u. k u.place) (unbounded n greedy body t)) →
        then_more s k (k s.place) t ≡ first_some (λ u. k u.place) (if_moved s (unbounded n greedy body) t)
    after_one n s t k on again =
        elim (cases_lt s.place t.place) [
          | inl moved ↦
              cond-true (nat_lt s.place t.place) (more k t.place) (k s.place) (lt-ltb s.place t.place moved)
              ∙ again moved
              ∙ ap (λ b. first_some (λ u. k u.place) (if b then t ∷ [] else unbounded n greedy body t))
              (sym (ne_eqb t.place s.place (omega (arith, moved))))
          | inr back ↦
              let same : t.place ≡ s.place = omega (arith, on, back) in
              cond-false (nat_lt s.place t.place) (more k t.place) (k s.place) (le-ltb s.place t.place back)
              ∙ ap k (sym same) ∙ sym (first_one (λ u. k u.place) t)
              ∙ ap (λ b. first_some (λ u. k u.place) (if b then t ∷ [] else unbounded n greedy body t))
              (sym (eq-eqb t.place s.place same))
        ]

    goes_first : (n : ℕ) (s : MatchState) (k : Rest) → s.place ≤ length text → length text < s.place + suc n →
        ((t : MatchState) → t.place ≤ length text → length text < t.place + n →
        more k t.place ≡ first_some (λ u. k u.place) (unbounded n greedy body t)) →
        pick greedy (first_some (then_more s k (k s.place)) (body s)) (k s.place)
        ≡ first_some (λ t. k t.place) (unbounded (suc n) greedy body s)
    goes_first n s k within room again =
        ap₂ (pick greedy)
        (first_same (then_more s k (k s.place)) (λ t. first_some (λ u. k u.place) (if_moved s (unbounded n greedy body) t)) (body s)
        (every_weaker
        (λ t h. after_one n s t k h.on (λ moved. again t h.within (omega (arith, moved, room))))
        (each_goes_on text a body first s within))
        ∙ sym (first_flat_map (λ t. k t.place) (if_moved s (unbounded n greedy body)) (body s)))
        (sym (first_one (λ t. k t.place) s))
        ∙ sym (first_prefer greedy (λ t. k t.place) (flat_map (if_moved s (unbounded n greedy body)) (body s)) (s ∷ []))

    more_first : (n : ℕ) (s : MatchState) (k : Rest) → s.place ≤ length text → length text < s.place + n →
        more k s.place ≡ first_some (λ t. k t.place) (unbounded n greedy body s)
    more_first zero s k within room = absurd (omega (arith, within, room))
    more_first (suc n) s k within room =
        more_is s k within
        ∙ others_skipped (λ t. nat_lt s.place t.place) (λ t. more k t.place) greedy (k s.place) (body s) (kept s k within)
        ∙ goes_first n s k within room (λ t. more_first n t k)

    abbrev loop : Ways
    loop s = unbounded (suc (length text) - s.place) greedy body s

    loop_first : (s : MatchState) (k : Rest) → s.place ≤ length text →
        more k s.place ≡ first_some (λ t. k t.place) (loop s)
    loop_first s k within = more_first (suc (length text) - s.place) s k within (omega (arith, within))

    -- a first round that moves nothing leaves the loop of the kit
    plus_is : (s : MatchState) (k : Rest) → s.place ≤ length text →
        attempt text (plus greedy a) k s.place ≡ first_some (then_more s k (k s.place)) (body s)
    plus_is s k within =
        attempt_plus text greedy a k s.place
        ∙ first s (λ j. if nat_lt s.place j then more k j else k j) within
        ∙ first_same (λ t. if nat_lt s.place t.place then more k t.place else k t.place) (then_more s k (k s.place)) (body s)
        (every_weaker (λ t h. here s t k h.on) (each_goes_on text a body first s within))
      where
        here : (s t : MatchState) (k : Rest) → s.place ≤ t.place →
            (if nat_lt s.place t.place then more k t.place else k t.place) ≡ then_more s k (k s.place) t
        here s t k on =
            elim (cases_lt s.place t.place) [
              | inl moved ↦
                  let e = lt-ltb s.place t.place moved in
                  cond-true (nat_lt s.place t.place) (more k t.place) (k t.place) e
                  ∙ sym (cond-true (nat_lt s.place t.place) (more k t.place) (k s.place) e)
              | inr back ↦
                  let same : t.place ≡ s.place = omega (arith, on, back) in
                  ap (λ j. if nat_lt s.place t.place then more k t.place else k j) same
            ]

    pub star_first : TakesFirstWay text (optional greedy (plus greedy a)) loop
    star_first s k within =
        let left : suc (length text) - s.place ≡ suc (length text - s.place) = omega (arith, within) in
        attempt_optional text greedy (plus greedy a) k s.place
        ∙ ap (λ o. pick greedy o (k s.place)) (plus_is s k within)
        ∙ goes_first (length text - s.place) s k within (omega (arith, within)) (λ t. more_first (length text - s.place) t k)
        ∙ ap (λ n. first_some (λ t. k t.place) (unbounded n greedy body s)) (sym left)

    pub plus_first : TakesFirstWay text (plus greedy a) (λ s. flat_map loop (body s))
    plus_first s k within =
        plus_is s k within
        ∙ others_again (λ t. nat_lt s.place t.place) (λ t. more k t.place) greedy (k s.place) (body s) (kept s k within)
        ∙ first_same
        (then_more s k (pick greedy (first_some (then_more s k None) (body s)) (k s.place)))
        (λ t. first_some (λ u. k u.place) (loop t)) (body s)
        (every_weaker (λ t h. once_more t h.on ∙ loop_first t k h.within) (each_goes_on text a body first s within))
        ∙ sym (first_flat_map (λ t. k t.place) loop (body s))
      where
        once_more : (t : MatchState) → s.place ≤ t.place →
            then_more s k (pick greedy (first_some (then_more s k None) (body s)) (k s.place)) t ≡ more k t.place
        once_more t on =
            let others = pick greedy (first_some (then_more s k None) (body s)) (k s.place) in
            elim (cases_lt s.place t.place) [
              | inl moved ↦ cond-true (nat_lt s.place t.place) (more k t.place) others (lt-ltb s.place t.place moved)
              | inr back ↦
                  let same : s.place ≡ t.place = omega (arith, on, back) in
                  cond-false (nat_lt s.place t.place) (more k t.place) others (le-ltb s.place t.place back)
                  ∙ sym (more_is s k within) ∙ ap (more k) same
            ]

    pub at_least_first : (n : ℕ) → TakesFirstWay text (at_least greedy n a) (required n body loop)
    at_least_first zero s k within = star_first s k within
    at_least_first (suc n) s k within = go n s k within
      where
        go : (n : ℕ) → TakesFirstWay text (copies n a (plus greedy a)) (required (suc n) body loop)
        go zero s k within = plus_first s k within
        go (suc n) s k within =
            then_first text a (copies n a (plus greedy a)) body (required (suc n) body loop) first (go n) s k within

pub loop_means : (u : Bool) (lo : ℕ) (hi : Option ℕ) (greedy : Bool) (e : Tree) (re : Re) → Means u e re →
    (hi ≡ None → greedy ≡ true → LeavesLast re) → Means u (Repeat lo hi greedy e) (repeat lo hi greedy re)
unfolding repeat
loop_means u lo None greedy e re m order = record {
  at = λ w n q call is.
      at_least_first q.text re (ways_with q call (numbered_within w n e)) greedy (m.at w n q call is)
      (order refl) lo;
}
loop_means u lo (Some hi) greedy e re m order = record {
  at = λ w n q call is.
      let body = ways_with q call (numbered_within w n e) in
      let first = m.at w n q call is in
      required_first q.text re body greedy first (up_to greedy (hi - lo) re) (at_most (hi - lo) greedy body)
      (at_most_first q.text re body greedy first (hi - lo)) lo;
}
