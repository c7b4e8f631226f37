-- What a call gives, without a count of the calls that may still be opened.
use Rattle.std.proofs.Common.{◌≡◌, ℕ, zero, suc, ◌+◌, ◌-◌, ◌<◌, ◌≤◌, ◌⊎◌, inl, inr, ⊎_elim, true, List, [], ◌∷◌, map, sum_by, Option, Some, None, nat_lt, ◌==◌, refl, sym, ap, subst, ◌∙◌, arith, lt-ltb, le-ltb, eq-eqb}
use Rattle.std.proofs.lemmas.Bool.{cases_lt, cond-true, cond-false, cond_both}
use Rattle.std.proofs.lemmas.Bool.Decides.{eqb_tells}
use Rattle.std.proofs.lemmas.List.Sums.{sum_by-cons}
use Rattle.std.proofs.lemmas.Option.{none-some}
use Rattle.std.proofs.Math.Path.{fun_ext}
use Rattle.fancy_meaning.specs.Tree.{Tree}
use Rattle.fancy_meaning.specs.Nodes.{groups, target, body_in}
use Rattle.fancy_meaning.specs.OpenCalls.{Depths, opened, call_depth, free_calls}
use Rattle.fancy_meaning.specs.MatchState.{fails}
use Rattle.fancy_meaning.specs.Ways.{Setting, ways_with, called, ways_of_target, captured_by_call, ways}

-- ---- opening a target lowers what may still be opened

sums_le : (f k : ℕ → ℕ) → ((h : ℕ) → k h ≤ f h) → (hs : List ℕ) → sum_by k hs ≤ sum_by f hs
sums_le f k le [] = omega arith
sums_le f k le (h ∷ hs) = omega (arith, le h, sums_le f k le hs, sum_by-cons k h hs, sum_by-cons f h hs)

sums_lt : (f k : ℕ → ℕ) → ((h : ℕ) → k h ≤ f h) → (g : ℕ) → k g < f g → (hs : List (ℕ × Tree)) (body : Tree) →
    body_in hs g ≡ Some body →
    sum_by k (map (λ h. h.0) hs) < sum_by f (map (λ h. h.0) hs)
sums_lt f k le g lt [] body e = absurd (none-some body e)
sums_lt f k le g lt (h ∷ hs) body e =
    let gs : List ℕ = map (λ h. h.0) hs in
    let low : sum_by k (h.0 ∷ gs) ≡ k h.0 + sum_by k gs = sum_by-cons k h.0 gs in
    let high : sum_by f (h.0 ∷ gs) ≡ f h.0 + sum_by f gs = sum_by-cons f h.0 gs in
    let rest : sum_by k gs ≤ sum_by f gs = sums_le f k le gs in
    ⊎_elim
    (λ (same : (h.0 == g ≡ true) × (h.0 ≡ g)).
    let here : k h.0 < f h.0 = subst (λ n. k n < f n) (sym same.1) lt in
    omega (arith, here, low, high, rest))
    (λ other.
    let later = sums_lt f k le g lt hs body (sym (cond-false (h.0 == g) (Some h.1) (body_in hs g) other.0) ∙ e) in
    omega (arith, le h.0, low, high, later))
    (eqb_tells h.0 g)

left_after : (g : ℕ) (depths : Depths) (h : ℕ) → call_depth - opened g depths h ≤ call_depth - depths h
left_after g depths h = ⊎_elim
    (λ same.
    let e : opened g depths h ≡ suc (depths g) = cond-true (h == g) _ _ same.0 in
    let d : depths h ≡ depths g = ap depths same.1 in
    omega (arith, e, d))
    (λ other. let e : opened g depths h ≡ depths h = cond-false (h == g) _ _ other.0 in omega (arith, e))
    (eqb_tells h g)

left_of_opened : (g : ℕ) (depths : Depths) → depths g < call_depth → call_depth - opened g depths g < call_depth - depths g
left_of_opened g depths lt =
    let e : opened g depths g ≡ suc (depths g) = cond-true (g == g) _ _ (eq-eqb g g refl) in omega (arith, e, lt)

pub opening_lowers : (whole : Tree) (g : ℕ) (depths : Depths) (body : Tree) → target whole g ≡ Some body → depths g < call_depth →
    free_calls whole (opened g depths) < free_calls whole depths
unfolding free_calls target
opening_lowers whole zero depths body e lt =
    omega (
      arith,
      left_of_opened 0 depths lt,
      sum_by-cons (λ h. call_depth - opened 0 depths h) 0 (map (λ h. h.0) (groups whole)),
      sum_by-cons (λ h. call_depth - depths h) 0 (map (λ h. h.0) (groups whole)),
      sums_le (λ h. call_depth - depths h) (λ h. call_depth - opened 0 depths h) (left_after 0 depths)
          (map (λ h. h.0) (groups whole)),
    )
opening_lowers whole (suc g) depths body e lt =
    omega (
      arith,
      left_after (suc g) depths 0,
      sum_by-cons (λ h. call_depth - opened (suc g) depths h) 0 (map (λ h. h.0) (groups whole)),
      sum_by-cons (λ h. call_depth - depths h) 0 (map (λ h. h.0) (groups whole)),
      sums_lt (λ h. call_depth - depths h) (λ h. call_depth - opened (suc g) depths h) (left_after (suc g) depths) (suc g)
          (left_of_opened (suc g) depths lt) (groups whole) body e,
    )

-- ---- any count that is enough gives the same

module _ (q : Setting) (whole : Tree) where
  -- where a call has no way, whatever the count
  pub no_way_of_call : (n : ℕ) (depths : Depths) (g : ℕ) → (target whole g ≡ None) ⊎ (call_depth ≤ depths g) →
      called q whole n depths g ≡ fails
  no_way_of_call zero depths g h = refl
  no_way_of_call (suc n) depths g (inl e) =
      cond_both (nat_lt (depths g) call_depth)
      (ways_of_target q whole g (called q whole n (opened g depths)) (target whole g)) fails (λ w. w ≡ fails)
      (λ lt. ap (ways_of_target q whole g (called q whole n (opened g depths))) e) (λ ge. refl)
  no_way_of_call (suc n) depths g (inr ge) = cond-false (nat_lt (depths g) call_depth) _ _ (le-ltb (depths g) call_depth ge)

  pub way_of_call : (n : ℕ) (depths : Depths) (g : ℕ) (body : Tree) → target whole g ≡ Some body → depths g < call_depth →
      called q whole (suc n) depths g ≡ captured_by_call q whole g (ways_with q (called q whole n (opened g depths)) body)
  way_of_call n depths g body e lt =
      cond-true (nat_lt (depths g) call_depth) _ _ (lt-ltb (depths g) call_depth lt)
      ∙ ap (ways_of_target q whole g (called q whole n (opened g depths))) e

  -- a call is refused, or it opens its target
  target_cases : (depths : Depths) (g : ℕ) →
      ((target whole g ≡ None) ⊎ (call_depth ≤ depths g)) ⊎
      ((body : Tree) × (target whole g ≡ Some body) × (depths g < call_depth))
  target_cases depths g = ⊎_elim
      (λ (lt : depths g < call_depth). go lt (target whole g) refl)
      (λ (ge : call_depth ≤ depths g). inl (inr ge))
      (cases_lt (depths g) call_depth)
    where
      go : depths g < call_depth → (o : Option Tree) → target whole g ≡ o →
          ((target whole g ≡ None) ⊎ (call_depth ≤ depths g)) ⊎
          ((body : Tree) × (target whole g ≡ Some body) × (depths g < call_depth))
      go lt None e = inl (inl e)
      go lt (Some body) e = inr (body, e, lt)

  pub enough_calls : (n m : ℕ) (depths : Depths) → free_calls whole depths ≤ n → free_calls whole depths ≤ m → (g : ℕ) →
      called q whole n depths g ≡ called q whole m depths g
  enough_calls zero m depths a b g = ⊎_elim
      (λ no. sym (no_way_of_call m depths g no))
      (λ opens. absurd (omega (arith, a, opening_lowers whole g depths opens.0 opens.1 opens.2)))
      (target_cases depths g)
  enough_calls (suc n) zero depths a b g = ⊎_elim
      (λ no. no_way_of_call (suc n) depths g no)
      (λ opens. absurd (omega (arith, b, opening_lowers whole g depths opens.0 opens.1 opens.2)))
      (target_cases depths g)
  enough_calls (suc n) (suc m) depths a b g =
      ⊎_elim
      (λ no. no_way_of_call (suc n) depths g no ∙ sym (no_way_of_call (suc m) depths g no))
      (λ opens. let lower = opening_lowers whole g depths opens.0 opens.1 opens.2 in
      way_of_call n depths g opens.0 opens.1 opens.2
      ∙ ap (λ call. captured_by_call q whole g (ways_with q call opens.0))
      (fun_ext (enough_calls n m (opened g depths) (omega (arith, a, lower)) (omega (arith, b, lower))))
      ∙ sym (way_of_call m depths g opens.0 opens.1 opens.2))
      (target_cases depths g)

  pub call_has_ways_of_target : (depths : Depths) (g : ℕ) (body : Tree) → target whole g ≡ Some body → depths g < call_depth →
      called q whole (free_calls whole depths) depths g ≡ captured_by_call q whole g (ways q whole body (opened g depths))
  call_has_ways_of_target depths g body e lt =
      let lower = opening_lowers whole g depths body e lt in
      let n : ℕ = free_calls whole depths - 1 in
      let one_more : free_calls whole depths ≡ suc n = omega (arith, lower) in
      ap (λ k. called q whole k depths g) one_more
      ∙ way_of_call n depths g body e lt
      ∙ ap (λ call. captured_by_call q whole g (ways_with q call body))
      (fun_ext (enough_calls n (free_calls whole (opened g depths)) (opened g depths) (omega (arith, lower)) (omega arith)))
