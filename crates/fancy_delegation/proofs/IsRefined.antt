-- A list equal up to the key to another, with only states of it.
use Rattle.std.proofs.Common.{◌≡◌, Bool, true, false, List, [], ◌∷◌, ◌++◌, map, flat_map, take, slice_get, refl, ap, subst}
use Rattle.fancy_meaning.specs.MatchState.{MatchState, Ways}
use Rattle.fancy_meaning.specs.Loops.{prefer}
use Rattle.fancy_meaning.specs.Ways.{conditional}
use Rattle.fancy_laws.proofs.Every.{Every, no_item, item, every_weaker, every_append, every_flat_map, every_map}
use Rattle.fancy_delegation.proofs.Items.{IsIn, first, Among, every_itself, every_is_in, is_in_append_left, is_in_append_right, is_in_flat_map, is_in_map}
use Rattle.fancy_delegation.proofs.Pairwise.{Pairwise}
use Rattle.fancy_delegation.proofs.FindsAlike.{FindsAlike, alike_same, alike_coarser, alike_append, alike_map, alike_flat_map, alike_head, alike_first}

pub record IsRefined (key : MatchState → MatchState → Type 0) (hs qs : List MatchState) : Type 0 where
  -- tests that respect the key find the same first state in both
  pub alike : FindsAlike key hs qs
  pub among : Among hs qs

module _ {key : MatchState → MatchState → Type 0} where
  pub refined_same : {hs : List MatchState} → IsRefined key hs hs
  refined_same {hs} = record { alike = alike_same; among = every_itself hs }

  pub refined_equal : {hs qs : List MatchState} → hs ≡ qs → IsRefined key hs qs
  refined_equal {hs} e = subst (λ l. IsRefined key hs l) e refined_same

  -- what holds of every state of the second list holds of every one of the first
  pub refined_every : {P : MatchState → Type 0} {hs qs : List MatchState} → IsRefined key hs qs → Every P qs → Every P hs
  refined_every t known = every_weaker (λ h i. every_is_in known i) t.among

  pub refined_coarser : {coarse : MatchState → MatchState → Type 0} {hs qs : List MatchState} →
      ((s t : MatchState) → key s t → coarse s t) → IsRefined key hs qs → IsRefined coarse hs qs
  refined_coarser c t = record { alike = alike_coarser c t.alike; among = t.among }

  pub refined_append : (hs qs hs' qs' : List MatchState) → IsRefined key hs qs → IsRefined key hs' qs' → IsRefined key (hs ++ hs') (qs ++ qs')
  refined_append hs qs hs' qs' t u = record {
    alike = alike_append hs qs hs' qs' t.alike u.alike;
    among = every_append (every_weaker (λ h i. is_in_append_left qs' i) t.among) (every_weaker (λ h i. is_in_append_right qs i) u.among);
  }

  pub refined_prefer : (greedy : Bool) (hs qs hs' qs' : List MatchState) → IsRefined key hs qs →
      IsRefined key hs' qs' → IsRefined key (prefer greedy hs hs') (prefer greedy qs qs')
  refined_prefer true hs qs hs' qs' t u = refined_append hs qs hs' qs' t u
  refined_prefer false hs qs hs' qs' t u = refined_append hs' qs' hs qs u t

  pub refined_map : {key' : MatchState → MatchState → Type 0} (f : MatchState → MatchState)
      (hs qs : List MatchState) → ((s t : MatchState) → key s t → key' (f s) (f t)) → IsRefined key hs qs →
      IsRefined key' (map f hs) (map f qs)
  refined_map f hs qs c t = record {
    alike = alike_map f hs qs c t.alike;
    among = every_map f (λ h i. is_in_map f i) t.among;
  }

  -- binding: what is bound to the second list respects the key, and refines where P holds
  pub refined_flat_map : {P : MatchState → Type 0} {key' : MatchState → MatchState → Type 0} (k f : Ways) (hs qs : List MatchState) →
      ((s t : MatchState) → key s t → Pairwise key' (f s) (f t)) →
      ((s : MatchState) → P s → IsRefined key' (k s) (f s)) → Every P qs → IsRefined key hs qs →
      IsRefined key' (flat_map k hs) (flat_map f qs)
  refined_flat_map {P} k f hs qs respects each known t = record {
    alike = alike_flat_map k f hs qs respects (λ s r. (each s r).alike) (refined_every t known) t.alike;
    among = every_flat_map {P = λ h. IsIn h qs} k (λ h i. every_weaker (λ x j. is_in_flat_map f i j) (each h (every_is_in known i)).among) t.among;
  }

  pub refined_head : {hs qs : List MatchState} → IsRefined key hs qs → slice_get hs 0 ≡ slice_get qs 0
  refined_head t = alike_head t.alike

  -- the first alone
  pub refined_first : {hs qs : List MatchState} → IsRefined key hs qs → take 1 hs ≡ take 1 qs
  refined_first {hs} {qs} t = same_first hs qs (refined_head t)
    where
      same_first : (hs qs : List MatchState) → slice_get hs 0 ≡ slice_get qs 0 → take 1 hs ≡ take 1 qs
      same_first [] [] e = refl
      same_first (h ∷ hs) (q ∷ qs) e = let same : h ≡ q = cc in ap (λ x. x ∷ []) same
      same_first [] (q ∷ qs) e = cc
      same_first (h ∷ hs) [] e = cc

  -- the first alone is enough where no two states are told apart
  pub first_is_refined : (qs : List MatchState) → ((s t : MatchState) → IsIn s qs → IsIn t qs → key s t) → IsRefined key (take 1 qs) qs
  first_is_refined [] k = refined_same
  first_is_refined (s ∷ qs) k = record {
    alike = alike_first s (every_weaker (λ t i. k s t first i) (every_itself (s ∷ qs)));
    among = item first no_item;
  }

  -- a conditional, of whose condition only the first way counts
  pub refined_conditional : {P : MatchState → Type 0} (k f : Ways) (n m : Ways) (s : MatchState)
      (hs qs : List MatchState) → slice_get hs 0 ≡ slice_get qs 0 →
      ((t : MatchState) → P t → IsRefined key (k t) (f t)) → IsRefined key (n s) (m s) → Every P qs →
      IsRefined key (conditional (λ x. hs) k n s) (conditional (λ x. qs) f m s)
  refined_conditional k f n m s [] [] e each other known = other
  refined_conditional k f n m s (h ∷ hs) (q ∷ qs) e each other (item r known) =
      let same : q ≡ h = cc in subst (λ x. IsRefined key (k x) (f q)) same (each q r)
  refined_conditional k f n m s [] (q ∷ qs) e each other known = cc
  refined_conditional k f n m s (h ∷ hs) [] e each other known = cc
