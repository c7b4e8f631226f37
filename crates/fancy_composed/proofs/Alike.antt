-- Lists of states that differ at most by repeats.
use Rattle.std.proofs.Common.{◌≡◌, suc, ◌⊎◌, Bool, true, false, cond, List, [], ◌∷◌, ◌++◌, map, flat_map, find, is_some, Contains, Option, Some, None, refl, sym, ap, ap₂, ◌∙◌, subst, inl, inr, ⊎_elim, arith}
use Rattle.fancy_meaning.specs.MatchState.{MatchState, Ways}
use Rattle.fancy_laws.proofs.Every.{Every, no_item, item}

-- one of the list
pub data Among (x : MatchState) : List MatchState → Type 0 where
  at_head : {xs : List MatchState} → Among x (x ∷ xs)
  further : {y : MatchState} {xs : List MatchState} → Among x xs → Among x (y ∷ xs)

pub contains : {x : MatchState} {xs : List MatchState} → Among x xs → Contains xs x
contains at_head = (0, omega arith, refl)
contains (further m) = let c = contains m in (suc c.0, omega (arith, c.1), c.2)

pub among_append : {x : MatchState} (xs ys : List MatchState) → Among x (xs ++ ys) → Among x xs ⊎ Among x ys
among_append [] ys m = inr m
among_append (x ∷ xs) ys at_head = inl at_head
among_append (y ∷ xs) ys (further m) = ⊎_elim (λ l. inl (further l)) inr (among_append xs ys m)

pub among_front : {x : MatchState} (xs ys : List MatchState) → Among x xs → Among x (xs ++ ys)
among_front [] ys m = elim m [ ]
among_front (x ∷ xs) ys at_head = at_head
among_front (y ∷ xs) ys (further m) = further (among_front xs ys m)

pub among_back : {x : MatchState} (xs ys : List MatchState) → Among x ys → Among x (xs ++ ys)
among_back [] ys m = m
among_back (y ∷ xs) ys m = further (among_back xs ys m)

pub among_one : {x y : MatchState} → Among x (y ∷ []) → x ≡ y
among_one at_head = refl
among_one (further m) = elim m [ ]

-- what holds of each one
pub every_among : {P : MatchState → Type 0} (xs : List MatchState) → ((x : MatchState) → Among x xs → P x) → Every P xs
every_among [] k = no_item
every_among (x ∷ xs) k = item (k x at_head) (every_among xs (λ y m. k y (further m)))

-- where a state of a bound list comes from
pub among_bound : {x : MatchState} (f : Ways) (xs : List MatchState) → Among x (flat_map f xs) →
    (y : MatchState) × Among y xs × Among x (f y)
among_bound f [] m = elim m [ ]
among_bound {x} f (y ∷ xs) m =
    ⊎_elim {C = (y : MatchState) × Among y _ × Among x (f y)} (λ l. (y, at_head, l))
    (λ r. let d = among_bound f xs r in (d.0, further d.1, d.2)) (among_append (f y) (flat_map f xs) m)

pub among_flat : {x y : MatchState} (f : Ways) (xs : List MatchState) → Among y xs → Among x (f y) → Among x (flat_map f xs)
among_flat f [] n m = elim n [ ]
among_flat f (y ∷ xs) at_head m = among_front (f y) (flat_map f xs) m
among_flat f (y ∷ xs) (further n) m = among_back (f y) (flat_map f xs) (among_flat f xs n m)

pub among_mapped : {x : MatchState} (f : MatchState → MatchState) (xs : List MatchState) → Among x (map f xs) →
    (y : MatchState) × Among y xs × (x ≡ f y)
among_mapped f [] m = elim m [ ]
among_mapped f (y ∷ xs) at_head = (y, at_head, refl)
among_mapped f (y ∷ xs) (further m) = let d = among_mapped f xs m in (d.0, further d.1, d.2)

pub among_map : {x : MatchState} (f : MatchState → MatchState) (xs : List MatchState) → Among x xs → Among (f x) (map f xs)
among_map f [] m = elim m [ ]
among_map f (x ∷ xs) at_head = at_head
among_map f (y ∷ xs) (further m) = further (among_map f xs m)

-- every test finds the same state first, and no state is new
pub record Alike (hs qs : List MatchState) : Type 0 where
  pub tests : (p : MatchState → Bool) → find p hs ≡ find p qs
  pub members : (x : MatchState) → Among x hs → Among x qs

pub alike_same : (hs : List MatchState) → Alike hs hs
alike_same hs = record { tests = λ p. refl; members = λ x m. m }

pub alike_eq : {hs qs : List MatchState} → hs ≡ qs → Alike hs qs
alike_eq {hs} e = subst (Alike hs) e (alike_same hs)

pub alike_trans : {hs ks qs : List MatchState} → Alike hs ks → Alike ks qs → Alike hs qs
alike_trans a b = record { tests = λ p. a.tests p ∙ b.tests p; members = λ x m. b.members x (a.members x m) }

-- the first one, or else another
abbrev pub or_first : Option MatchState → Option MatchState → Option MatchState
or_first None o = o
or_first (Some s) o = Some s

find-append : (p : MatchState → Bool) (hs ks : List MatchState) → find p (hs ++ ks) ≡ or_first (find p hs) (find p ks)
find-append p [] ks = refl
find-append p (h ∷ hs) ks =
    let rest = find-append p hs ks in
    elim (p h) as
    (λ v. cond v (Some h) (find p (hs ++ ks)) ≡ or_first (cond v (Some h) (find p hs)) (find p ks)) [
      | true ↦ refl
      | false ↦ rest
    ]

pub alike_append : {hs qs ks rs : List MatchState} → Alike hs qs → Alike ks rs → Alike (hs ++ ks) (qs ++ rs)
alike_append {hs} {qs} {ks} {rs} a b = record {
  tests = λ p. find-append p hs ks ∙ ap₂ or_first (a.tests p) (b.tests p) ∙ sym (find-append p qs rs);
  members = λ x m.
      ⊎_elim (λ l. among_front qs rs (a.members x l)) (λ r. among_back qs rs (b.members x r)) (among_append hs ks m);
}

-- a test finds first what it finds from the first state from which it finds anything
abbrev pub found_from : (MatchState → Option MatchState) → Option MatchState → Option MatchState
found_from f None = None
found_from f (Some s) = f s

find-bound : (p : MatchState → Bool) (f : Ways) (hs : List MatchState) →
    find p (flat_map f hs) ≡ found_from (λ h. find p (f h)) (find (λ h. is_some (find p (f h))) hs)
find-bound p f [] = refl
find-bound p f (h ∷ hs) = find-append p (f h) (flat_map f hs) ∙ here (find p (f h)) refl (find-bound p f hs)
  where
    here : (o : Option MatchState) → find p (f h) ≡ o →
        find p (flat_map f hs) ≡ found_from (λ k. find p (f k)) (find (λ k. is_some (find p (f k))) hs) → or_first o
        (find p (flat_map f hs)) ≡ found_from (λ k. find p (f k))
        (cond (is_some o) (Some h) (find (λ k. is_some (find p (f k))) hs))
    here None e ih = ih
    here (Some s) e ih = sym e

same_from : (f g : MatchState → Option MatchState) (hs : List MatchState) (p q : MatchState → Bool) →
    ((x : MatchState) → Among x hs → f x ≡ g x × p x ≡ q x) → found_from f (find p hs) ≡ found_from g (find q hs)
same_from f g [] p q h = refl
same_from f g (x ∷ hs) p q h =
    let e = h x at_head in
    ap (λ v. found_from f (cond v (Some x) (find p hs))) e.1
    ∙ elim (q x) as
    (λ v. found_from f (cond v (Some x) (find p hs)) ≡ found_from g (cond v (Some x) (find q hs))) [
      | true ↦ e.0
      | false ↦ same_from f g hs p q (λ y m. h y (further m))
    ]

-- of lists that are alike, led on to lists that are alike
pub alike_bind : {hs qs : List MatchState} (f g : Ways) → Alike hs qs → ((x : MatchState) → Among x qs → Alike (f x) (g x)) →
    Alike (flat_map f hs) (flat_map g qs)
alike_bind {hs} {qs} f g a b = record {
  tests = λ p.
      find-bound p f hs ∙ ap (found_from (λ h. find p (f h))) (a.tests (λ h. is_some (find p (f h))))
      ∙ same_from (λ h. find p (f h)) (λ h. find p (g h)) qs (λ h. is_some (find p (f h))) (λ h. is_some (find p (g h)))
      (λ x m. let e = (b x m).tests p in (e, ap is_some e))
      ∙ sym (find-bound p g qs);
  members = λ x m. let d = among_bound f hs m in let n = a.members d.0 d.1 in among_flat g qs n ((b d.0 n).members x d.2);
}

find-map : (p : MatchState → Bool) (f : MatchState → MatchState) (hs : List MatchState) →
    find p (map f hs) ≡ found_from (λ h. Some (f h)) (find (λ h. p (f h)) hs)
find-map p f [] = refl
find-map p f (h ∷ hs) =
    let rest = find-map p f hs in
    elim (p (f h)) as
    (λ v. cond v (Some (f h)) (find p (map f hs)) ≡ found_from (λ k. Some (f k)) (cond v (Some h) (find (λ k. p (f k)) hs))) [
      | true ↦ refl
      | false ↦ rest
    ]

pub alike_map : {hs qs : List MatchState} (f : MatchState → MatchState) → Alike hs qs → Alike (map f hs) (map f qs)
alike_map {hs} {qs} f a = record {
  tests = λ p. find-map p f hs ∙ ap (found_from (λ h. Some (f h))) (a.tests (λ h. p (f h))) ∙ sym (find-map p f qs);
  members = λ x m.
      let d = among_mapped f hs m in subst (λ y. Among y (map f qs)) (sym d.2) (among_map f qs (a.members d.0 d.1));
}

-- the first state
abbrev pub head_of : List MatchState → Option MatchState
head_of [] = None
head_of (h ∷ hs) = Some h

find-head : (hs : List MatchState) → find (λ h. true) hs ≡ head_of hs
find-head [] = refl
find-head (h ∷ hs) = refl

pub alike_head : {hs qs : List MatchState} → Alike hs qs → head_of hs ≡ head_of qs
alike_head {hs} {qs} a = sym (find-head hs) ∙ a.tests (λ h. true) ∙ find-head qs
