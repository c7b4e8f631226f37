-- What the branches keep.
use Rattle.std.proofs.Common.{◌≡◌, ℕ, zero, suc, ◌-◌, ◌<◌, ◌≤◌, List, [], ◌∷◌, ◌++◌, length, map, take, drop, reverse, slice_index_or, Option, Some, None, MatchOption, drop_of_length-le, refl, sym, ap, ap₂, ◌∙◌, arith, length-drop, subst, eq-eqb, ne_eqb}
use Rattle.std.proofs.lemmas.Bool.{cond-true, cond-false}
use Rattle.std.proofs.lemmas.List.{reverse-append, length-reverse, length-map, take-append-drop}
use Rattle.std.proofs.Math.Seq.{take-suc, drop-append_seam}
use Rattle.fancy_state.specs.Held.{below}
use Rattle.fancy_state.specs.OldValues.{Values, since, old_at, slots_in, stack_in, held_at, held_branches, IsRoomy, Falls, IsNewest, Agrees}
use Rattle.fancy_state.specs.declared.old_values.Old.{Old}
use Rattle.fancy_state.specs.declared.state.Branch.{Branch}

pub length-held : (n : ℕ) (olds : List Old) (f : Values) (bs : List Branch) → length (held_branches n olds f bs) ≡ length bs
unfolding held_branches
length-held n olds f bs = length-map bs (held_at n olds f)

-- ---- the branch that is pushed

pub since_now : (olds : List Old) (f : Values) (mark : ℕ) → length olds ≤ mark → since olds mark f ≡ f
since_now olds f mark past = ap (λ l. λ j. old_at l j (f j)) (drop_of_length-le olds {i = mark} past)

pub held_now : (n : ℕ) (olds : List Old) (f : Values) (b : Branch) (bs : List Branch) → length olds ≤ b.mark
    → held_branches n olds f (b ∷ bs) ≡ record { pc = b.pc; ix = b.ix; slots = slots_in n f; stack = stack_in n f } ∷ held_branches n olds f bs
unfolding held_branches
held_now n olds f b bs past =
    ap (λ (cells : Values). record { pc = b.pc; ix = b.ix; slots = slots_in n cells; stack = stack_in n cells } ∷ map (held_at n olds f) bs) (since_now olds f b.mark past)

pub falls_now : (n r : ℕ) (olds : List Old) (f : Values) (b : Branch) (bs : List Branch) → b.mark ≡ length olds → IsRoomy n r f → Falls n r olds f (length olds) bs → Falls n r olds f (length olds) (b ∷ bs)
falls_now n r olds f b bs is room falls =
    let low : b.mark ≤ length olds = omega (arith, is) in
    let high : length olds ≤ b.mark = omega (arith, is) in
    (low, (subst (λ (cells : Values). IsRoomy n r cells) (sym (since_now olds f b.mark high)) room, subst (λ k. Falls n r olds f k bs) (sym is) falls))

-- ---- changes that the log can take back

pub held_same : (n : ℕ) (olds news : List Old) (f g : Values) (bs : List Branch) (r low top : ℕ) → low ≤ top → Agrees top olds f news g
    → Falls n r olds f low bs → held_branches n olds f bs ≡ held_branches n news g bs
unfolding held_branches
held_same n olds news f g [] r low top le agrees falls = refl
held_same n olds news f g (b ∷ bs) r low top le agrees falls =
    ap₂ ◌∷◌
    (ap (λ cells. record { pc = b.pc; ix = b.ix; slots = slots_in n cells; stack = stack_in n cells }) (agrees b.mark (omega (arith, le, falls.0))))
    (held_same n olds news f g bs r b.mark top (omega (arith, le, falls.0)) agrees falls.1.1)

pub falls_same : (n : ℕ) (olds news : List Old) (f g : Values) (bs : List Branch) (r s low top : ℕ) → r ≤ s → low ≤ top → Agrees top olds f news g
    → Falls n r olds f low bs → Falls n s news g low bs
falls_same n olds news f g [] r s low top more le agrees falls = tt
falls_same n olds news f g (b ∷ bs) r s low top more le agrees falls =
    let was : IsRoomy n r (since olds b.mark f) = falls.1.0 in
    let roomy : IsRoomy n s (since olds b.mark f) = omega (arith, was, more) in (
      falls.0,
      (
        subst (λ (cells : Values). IsRoomy n s cells) (agrees b.mark (omega (arith, le, falls.0))) roomy,
        falls_same n olds news f g bs r s b.mark top more (omega (arith, le, falls.0)) agrees falls.1.1,
      ),
    )

pub falls_lower : (n r : ℕ) (olds : List Old) (f : Values) (bs : List Branch) (a b : ℕ) → a ≤ b → Falls n r olds f a bs → Falls n r olds f b bs
falls_lower n r olds f [] a b le falls = tt
falls_lower n r olds f (x ∷ bs) a b le falls = (omega (arith, le, falls.0), falls.1)

pub falls_drop : (n r : ℕ) (olds : List Old) (f : Values) (bs : List Branch) (k top : ℕ) → Falls n r olds f top bs → Falls n r olds f top (drop k bs)
falls_drop n r olds f bs zero top falls = falls
falls_drop n r olds f [] (suc k) top falls = tt
falls_drop n r olds f (b ∷ bs) (suc k) top falls = falls_lower n r olds f (drop k bs) b.mark top falls.0 (falls_drop n r olds f bs k b.mark falls.1.1)

pub newest_inside : (n r : ℕ) (olds : List Old) (f : Values) (bs : List Branch) (top m : ℕ) → IsNewest m bs → Falls n r olds f top bs → m ≤ top
newest_inside n r olds f [] top m is falls = absurd is
newest_inside n r olds f (b ∷ bs) top m is falls = omega (arith, is, falls.0)

pub newest_falls : (n r : ℕ) (olds : List Old) (f : Values) (bs : List Branch) (top m : ℕ) → IsNewest m bs → Falls n r olds f top bs → Falls n r olds f m bs
newest_falls n r olds f [] top m is falls = absurd is
newest_falls n r olds f (b ∷ bs) top m is falls = (omega (arith, is), falls.1)

-- The mark of the newest branch, if there is one, is enough.
module _ (n r s : ℕ) (olds news : List Old) (f g : Values) (bs : List Branch) (low top : ℕ) where
  pub marked_held : (mark : Option ℕ) → MatchOption mark (bs ≡ []) (λ m. IsNewest m bs) → MatchOption mark (Unit {0}) (λ m. Agrees m olds f news g)
      → Falls n r olds f low bs → held_branches n olds f bs ≡ held_branches n news g bs
  unfolding held_branches
  marked_held None newest agrees falls = rw newest refl
  marked_held (Some m) newest agrees falls = held_same n olds news f g bs r m m (omega arith) agrees (newest_falls n r olds f bs low m newest falls)

  pub marked_falls : (mark : Option ℕ) → MatchOption mark (bs ≡ []) (λ m. IsNewest m bs) → MatchOption mark (Unit {0}) (λ m. Agrees m olds f news g)
      → r ≤ s → low ≤ top → Falls n r olds f low bs → Falls n s news g top bs
  marked_falls None newest agrees more le falls = subst (λ (l : List Branch). Falls n s news g top l) (sym newest) tt
  marked_falls (Some m) newest agrees more le falls =
      falls_lower n s news g bs m top (omega (arith, le, newest_inside n r olds f bs low m newest falls))
      (falls_same n olds news f g bs r s m m more (omega arith) agrees (newest_falls n r olds f bs low m newest falls))

  pub marked_inside : (mark : Option ℕ) → MatchOption mark (bs ≡ []) (λ m. IsNewest m bs) → low ≤ length olds → Falls n r olds f low bs
      → MatchOption mark (Unit {0}) (λ m. m ≤ length olds)
  marked_inside None newest le falls = tt
  marked_inside (Some m) newest le falls = omega (arith, le, newest_inside n r olds f bs low m newest falls)

-- ---- the newest first

pub reversed : {A : Type 0} (xs new : List A) (x : A) → new ≡ xs ++ x ∷ [] → reverse new ≡ x ∷ reverse xs
reversed xs new x is = ap reverse is ∙ reverse-append xs (x ∷ [])

pub reverse-take : {A : Type 0} (xs : List A) (n : ℕ) → reverse (take n xs) ≡ drop (length xs - n) (reverse xs)
reverse-take xs n =
    let long : length (reverse (drop n xs)) ≡ length xs - n = length-reverse (drop n xs) ∙ length-drop n xs in
    let parts : reverse xs ≡ reverse (drop n xs) ++ reverse (take n xs) =
    ap reverse (sym (take-append-drop n xs)) ∙ reverse-append (take n xs) (drop n xs) in
    sym (ap (λ l. drop (length xs - n) l) parts ∙ ap (λ k. drop k (reverse (drop n xs) ++ reverse (take n xs))) (sym long) ∙ drop-append_seam (reverse (drop n xs)) (reverse (take n xs)))

pub held-drop : (n : ℕ) (olds : List Old) (f : Values) (bs : List Branch) (k : ℕ) → held_branches n olds f (drop k bs) ≡ drop k (held_branches n olds f bs)
unfolding held_branches
held-drop n olds f bs zero = refl
held-drop n olds f [] (suc k) = refl
held-drop n olds f (b ∷ bs) (suc k) = held-drop n olds f bs k

-- ---- the last branch with a place of the program

pub one_more : (bs : List Branch) (n : ℕ) (b : Branch) → 0 < n → n ≤ length bs → b ≡ slice_index_or bs (n - 1) b → reverse (take n bs) ≡ b ∷ reverse (take (n - 1) bs)
one_more bs n b some inside is =
    let next : n ≡ suc (n - 1) = omega arith in
    ap (λ k. reverse (take k bs)) next
    ∙ ap reverse (take-suc bs (n - 1) b (omega arith))
    ∙ reverse-append (take (n - 1) bs) (slice_index_or bs (n - 1) b ∷ [])
    ∙ ap (λ x. x ∷ reverse (take (n - 1) bs)) (sym is)

module _ (c : ℕ) (olds : List Old) (f : Values) (pc : ℕ) (bs : List Branch) (n : ℕ) where
  pub find_here : (b : Branch) → 0 < n → n ≤ length bs → b ≡ slice_index_or bs (n - 1) b → b.pc ≡ pc
      → below pc (held_branches c olds f (reverse (take n bs))) ≡ Some (held_branches c olds f (reverse (take (n - 1) bs)))
  unfolding held_branches
  find_here b some inside is here =
      ap (λ l. below pc (held_branches c olds f l)) (one_more bs n b some inside is) ∙ cond-true _ _ _ (eq-eqb b.pc pc here)

  pub find_on : (b : Branch) → 0 < n → n ≤ length bs → b ≡ slice_index_or bs (n - 1) b → (b.pc ≡ pc → ⊥)
      → below pc (held_branches c olds f (reverse (take n bs))) ≡ below pc (held_branches c olds f (reverse (take (n - 1) bs)))
  unfolding held_branches
  find_on b some inside is other =
      ap (λ l. below pc (held_branches c olds f l)) (one_more bs n b some inside is) ∙ cond-false _ _ _ (ne_eqb b.pc pc other)

  pub find_none : n ≤ 0 → below pc (held_branches c olds f (reverse (take n bs))) ≡ None
  unfolding held_branches
  find_none none =
      let is : n ≡ 0 = omega arith in
      rw is refl
