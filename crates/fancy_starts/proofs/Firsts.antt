-- The first that is found in a list, and in two lists one after the other.
use Rattle.std.proofs.Common.{◌≡◌, ℕ, ◌≤◌, ◌<◌, List, [], ◌∷◌, ◌++◌, filter_map, Option, Some, None, option_map, refl, sym, ap, subst, arith}
use Rattle.std.specs.Prelude.{slice_get}
use Rattle.std.specs.List.{cons_option}
use Rattle.std.proofs.lemmas.Option.{none-some, same_Some}
use Rattle.fancy_meaning.specs.MatchState.{MatchState}
use Rattle.fancy_starts.specs.Matches.{Found}
use Rattle.fancy_laws.proofs.Every.{Every, item}

-- the first start where something is found
abbrev pub first_of : (ℕ → Option MatchState) → List ℕ → Option Found
first_of f is = slice_get (filter_map (λ start. option_map (λ s. (start, s)) (f start)) is) 0

module _ (f : ℕ → Option MatchState) where
  abbrev pub found : ℕ → Option Found
  found start = option_map (λ s. (start, s)) (f start)

  -- one more start before the others
  abbrev pub next_of : Option MatchState → ℕ → List ℕ → Option Found
  next_of o i is = slice_get (cons_option (option_map (λ s. (i, s)) o) (filter_map found is)) 0

  pub none_after : (is js : List ℕ) → first_of f (is ++ js) ≡ None → first_of f js ≡ None
  none_after [] js e = e
  none_after (i ∷ is) js e = by_first (f i) (none_after is js) e
    where
      by_first : (o : Option MatchState) → (first_of f (is ++ js) ≡ None → first_of f js ≡ None) →
          next_of o i (is ++ js) ≡ None → first_of f js ≡ None
      by_first None rest h = rest h
      by_first (Some s) rest h = absurd (none-some (i, s) (sym h))

  -- where none of the first list is as late as the one that is found
  pub found_after : (later : ℕ) (m : Found) → later ≤ m.0 → (is js : List ℕ) → Every (λ i. i < later) is →
      first_of f (is ++ js) ≡ Some m → first_of f js ≡ Some m
  found_after later m le [] js before e = e
  found_after later m le (i ∷ is) js (item lt before) e = by_first (f i) (found_after later m le is js before) e
    where
      by_first : (o : Option MatchState) → (first_of f (is ++ js) ≡ Some m → first_of f js ≡ Some m) →
          next_of o i (is ++ js) ≡ Some m → first_of f js ≡ Some m
      by_first None rest h = rest h
      by_first (Some s) rest h =
          let same : i ≡ m.0 = ap (λ (n : Found). n.0) (same_Some (i, s) m h) in
          absurd (omega (arith, same, lt, le))

  -- what is found was found at one of the starts
  pub found_there : {P : ℕ → Type 0} (m : Found) (is : List ℕ) → Every P is → first_of f is ≡ Some m →
      P m.0 × (f m.0 ≡ Some m.1)
  found_there m [] h e = absurd (none-some m e)
  found_there {P} m (i ∷ is) (item p h) e = by_first (f i) refl (found_there m is h) e
    where
      by_first : (o : Option MatchState) → f i ≡ o → (first_of f is ≡ Some m → P m.0 × (f m.0 ≡ Some m.1)) →
          next_of o i is ≡ Some m → P m.0 × (f m.0 ≡ Some m.1)
      by_first None at rest h = rest h
      by_first (Some s) at rest h =
          subst (λ (n : Found). P n.0 × (f n.0 ≡ Some n.1)) (same_Some (i, s) m h) (p, at)
