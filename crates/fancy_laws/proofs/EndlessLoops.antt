-- A loop without a bound, without its count.
use Rattle.std.proofs.Common.{◌≡◌, ℕ, zero, suc, ◌-◌, ◌<◌, ◌≤◌, Bool, true, false, if◌then◌else◌, ◌==◌, List, [], ◌∷◌, ◌++◌, length, flat_map, None, refl, ap, ap₂, ◌∙◌, arith, inl, inr, eq-eqb}
use Rattle.std.proofs.lemmas.Bool.{cases_lt, both_ways}
use Rattle.fancy_meaning.specs.Tree.{Tree, Repeat}
use Rattle.fancy_meaning.specs.OpenCalls.{Depths}
use Rattle.fancy_meaning.specs.MatchState.{MatchState, Ways}
use Rattle.fancy_meaning.specs.Loops.{prefer, if_moved, unbounded}
use Rattle.fancy_meaning.specs.Ways.{Setting, ways}
use Rattle.fancy_laws.proofs.Every.{Every, no_item, item, every_weaker}
use Rattle.fancy_laws.proofs.Forward.{ways_go_forward}

-- two functions that agree at each item
pub flat_map_same : {A B : Type 0} (f g : A → List B) {xs : List A} → Every (λ x. f x ≡ g x) xs → flat_map f xs ≡ flat_map g xs
flat_map_same f g no_item = refl
flat_map_same f g (item e h) = ap₂ ◌++◌ e (flat_map_same f g h)

module _ (end : ℕ) (greedy : Bool) (body : Ways)
    (forward : (s : MatchState) → s.place ≤ end → Every (λ t. (s.place ≤ t.place) × (t.place ≤ end)) (body s)) where
  same_if_moved : (s t : MatchState) (x y : List MatchState) → ((t.place == s.place) ≡ false → x ≡ y) →
      (if t.place == s.place then t ∷ [] else x) ≡ (if t.place == s.place then t ∷ [] else y)
  same_if_moved s t x y h = go (t.place == s.place) h
    where
      go : (b : Bool) → (b ≡ false → x ≡ y) → (if b then t ∷ [] else x) ≡ (if b then t ∷ [] else y)
      go true k = refl
      go false k = k refl

  moved : (s t : MatchState) → (t.place == s.place) ≡ false → s.place ≤ t.place → s.place < t.place
  moved s t e le =
      elim (cases_lt s.place t.place) [
        | inl lt ↦ lt
        | inr ge ↦ absurd (both_ways _ e (eq-eqb t.place s.place (omega (arith, le, ge))))
      ]

  -- any two counts that are enough give the same ways
  pub enough : (n m : ℕ) (s : MatchState) → s.place ≤ end → end - s.place < n → end - s.place < m →
      unbounded n greedy body s ≡ unbounded m greedy body s
  enough zero m s within a b = absurd (omega (arith, a))
  enough (suc n) zero s within a b = absurd (omega (arith, b))
  enough (suc n) (suc m) s within a b =
      ap (λ l. prefer greedy l (s ∷ []))
      (flat_map_same (if_moved s (unbounded n greedy body)) (if_moved s (unbounded m greedy body))
      (every_weaker
      (λ t h. same_if_moved s t (unbounded n greedy body t) (unbounded m greedy body t)
      (λ e. let on = moved s t e h.0 in enough n m t h.1 (omega (arith, a, on, h.1)) (omega (arith, b, on, h.1))))
      (forward s within)))

  abbrev loop : Ways
  loop s = unbounded (suc end - s.place) greedy body s

  pub goes_on_or_stops : (s : MatchState) → s.place ≤ end → loop s ≡ prefer greedy (flat_map (if_moved s loop) (body s)) (s ∷ [])
  goes_on_or_stops s within =
      let left : suc end - s.place ≡ suc (end - s.place) = omega (arith, within) in
      ap (λ n. unbounded n greedy body s) left
      ∙ ap (λ l. prefer greedy l (s ∷ []))
      (flat_map_same (if_moved s (unbounded (end - s.place) greedy body)) (if_moved s loop)
      (every_weaker
      (λ t h. same_if_moved s t (unbounded (end - s.place) greedy body t) (loop t)
      (λ e. let on = moved s t e h.0 in enough (end - s.place) (suc end - t.place) t h.1 (omega (arith, on, h.1))
      (omega (arith, h.1))))
      (forward s within)))

pub loop_goes_on_or_stops : (q : Setting) (whole body : Tree) (depths : Depths) (greedy : Bool) (s : MatchState) →
    s.place ≤ length q.text →
    ways q whole (Repeat 0 None greedy body) depths s
    ≡ prefer greedy (flat_map (if_moved s (ways q whole (Repeat 0 None greedy body) depths)) (ways q whole body depths s))
    (s ∷ [])
loop_goes_on_or_stops q whole body depths greedy =
    goes_on_or_stops (length q.text) greedy (ways q whole body depths)
    (λ s within. every_weaker (λ t h. (h.on, h.within)) (ways_go_forward q whole body depths s within))
