-- How many states a search takes up: the weight of what is left, and the charge of each pair that was tried.
use Rattle.std.proofs.Common.{◌≡◌, ◌≤◌, ◌⊎◌, ℕ, zero, suc, ◌+◌, Bool, true, false, ◌||◌, if◌then◌else◌, List, [], ◌∷◌, ◌++◌, Option, Some, slice_get, refl, sym, subst, ap, ◌∙◌, arith, inl, inr, ⊎_elim}
use Rattle.fancy_laws.proofs.Every.{Every, no_item, item, every_weaker}
use Rattle.fancy_nfa_laws.specs.NfaSearch.{NfaConfig, Pair, StepResult, Found, Lost, Goes, Tries, Frame, Other, Fails, Search, Next, TakesUp, TakesBack, Ends, pair_of, same_pair, visited, others, with_failed, with_frames, next_by, back_to, first_search}
use Rattle.fancy_nfa_laws.proofs.Totals.{Distinct, total_by}
use Rattle.fancy_nfa_laws.proofs.Positions.{Ground, Position, Positions, AllLower, IsLower, weight_at, weight_from, count_at, step_result_of, next_of, after, LeadsTo, IsOneOf, Reaches, in_one, in_more, StepFacts, PairFacts, Step, step, visited_is, tried_is}

-- this pair is tried, and not all that it leads to
abbrev IsTried : Pair → List Frame → Type 0
IsTried x [] = ⊥
IsTried x (Other s ∷ frames) = IsTried x frames
IsTried x (Fails s ∷ frames) = (pair_of s ≡ x) ⊎ IsTried x frames

tried_among : (x : Pair) (ss : List NfaConfig) (frames : List Frame) → IsTried x (others ss ++ frames) → IsTried x frames
tried_among x [] frames h = h
tried_among x (s ∷ ss) frames h = tried_among x ss frames h

still_among : (x : Pair) (ss : List NfaConfig) (frames : List Frame) → IsTried x frames → IsTried x (others ss ++ frames)
still_among x [] frames h = h
still_among x (s ∷ ss) frames h = still_among x ss frames h

module _ (w : Ground) (start : ℕ) where
  -- the pairs that are tried at positions from the start on
  pub record IsTriedPair (x : Pair) : Type 0 where
    pub config : NfaConfig
    pub position : Position w config
    pub on : start ≤ (position.state).place
    pub is_pair : x ≡ pair_of config
    pub first : NfaConfig
    pub rest : List NfaConfig
    pub is_tried : step_result_of w config ≡ Tries true first rest

  -- the search has come here from each pair that is tried
  abbrev Under : List Frame → NfaConfig → Type 0
  Under frames s = (x : Pair) → IsTried x frames → (t : NfaConfig) × Position w t × (x ≡ pair_of t) × Reaches w t s

  -- this, with all that is tried later, weighs at most the bound
  abbrev Within : List Frame → ℕ → ℕ → Type 0
  Within [] v bound = v ≤ bound
  Within (Other s ∷ frames) v bound =
      (p : Position w s) × (start ≤ (p.state).place) × Under frames s × Within frames (v + weight_at w p) bound
  Within (Fails x ∷ frames) v bound = Within frames v bound

  -- these pairs were tried: all that they lead to, or not yet
  abbrev Account : List Frame → (Pair → Bool) → List Pair → Type 0
  Account frames failed xs =
      Distinct xs × Every (λ x. IsTriedPair x × ((failed x ≡ true) ⊎ IsTried x frames)) xs

  abbrev pub charges : List Pair → ℕ
  charges = total_by (λ x. w.charge x.at)

  within_less : (frames : List Frame) (v u b c : ℕ) → u + b ≤ v + c → Within frames v b → Within frames u c
  within_less [] v u b c le h = omega (arith, le, h)
  within_less (Other s ∷ frames) v u b c le h =
      (h.0, h.1, h.2, within_less frames (v + weight_at w h.0) (u + weight_at w h.0) b c (omega (arith, le)) h.3)
  within_less (Fails x ∷ frames) v u b c le h = within_less frames v u b c le h

  within_bound : (frames : List Frame) (v b : ℕ) → Within frames v b → v ≤ b
  within_bound [] v b h = h
  within_bound (Other s ∷ frames) v b h = let le = within_bound frames (v + weight_at w h.0) b h.3 in omega (arith, le)
  within_bound (Fails x ∷ frames) v b h = within_bound frames v b h

  abbrev AllOn : (ss : List NfaConfig) → Positions w ss → Type 0
  AllOn [] rs = Unit {0}
  AllOn (s ∷ ss) rs = (start ≤ (rs.0.state).place) × AllOn ss rs.1

  within_others : (ss : List NfaConfig) (rs : Positions w ss) (frames : List Frame) (v b : ℕ) →
      ((t : NfaConfig) → IsOneOf w ss t → Under frames t) → AllOn ss rs →
      Within frames (v + weight_from w ss rs) b → Within (others ss ++ frames) v b
  within_others [] rs frames v b under on h = within_less frames (v + 0) v b b (omega arith) h
  within_others (s ∷ ss) rs frames v b under on h = (
    rs.0,
    on.0,
    (λ x tried. under s (inl refl) x (tried_among x ss frames tried)),
    within_others ss rs.1 frames (v + weight_at w rs.0) b (λ t one. under t (inr one)) on.1
        (within_less frames (v + (weight_at w rs.0 + weight_from w ss rs.1)) (v + weight_at w rs.0 + weight_from w ss rs.1) b b
        (omega arith) h),
  )

  on_lower : {s t : NfaConfig} (p : Position w s) (r : Position w t) → start ≤ (p.state).place → IsLower w r p →
      start ≤ (r.state).place
  on_lower p r on h = ⊎_elim (λ lt. omega (arith, on, lt)) (λ same. omega (arith, on, same.0)) h

  all_on : {s : NfaConfig} (p : Position w s) (ss : List NfaConfig) (rs : Positions w ss) → start ≤ (p.state).place →
      AllLower w ss rs p → AllOn ss rs
  all_on p [] rs on h = tt
  all_on p (s ∷ ss) rs on h = (on_lower p rs.0 on h.0, all_on p ss rs.1 on h.1)

  -- one step on
  under_on : {s t : NfaConfig} (frames : List Frame) → LeadsTo w (step_result_of w s) t → Under frames s → Under frames t
  under_on frames to under x tried = let h = under x tried in (h.0, h.1, h.2, in_more h.3 to)

  under_tried : {s t : NfaConfig} (p : Position w s) (frames : List Frame) → LeadsTo w (step_result_of w s) t → Under frames s →
      Under (Fails s ∷ frames) t
  under_tried {s} p frames to under x tried =
      ⊎_elim (λ e. (s, p, sym e, in_one to)) (λ h. under_on frames to under x h) tried

  -- what is known of each pair that was tried, on another stack and with another failed set
  account_on : (frames more : List Frame) (failed known : Pair → Bool) (xs : List Pair) →
      ((x : Pair) → failed x ≡ true → known x ≡ true) →
      ((x : Pair) → IsTried x frames → (known x ≡ true) ⊎ IsTried x more) →
      Account frames failed xs → Account more known xs
  account_on frames more failed known xs f g h =
      (h.0, every_weaker (λ x k. (k.0, ⊎_elim (λ e. inl (f x e)) (λ tried. g x tried) k.1)) h.1)

  module _ (base : ℕ) (facts : StepFacts w) (pairs : PairFacts w) where
    abbrev bound_of : List Pair → ℕ
    bound_of xs = base + charges xs

    abbrev Counts : List Pair → Next → Type 0
    Counts xs (TakesUp s found) =
        (p : Position w s) × (start ≤ (p.state).place) × Under found.frames s
        × Within found.frames (found.visits + weight_at w p) (bound_of xs) × Account found.frames found.failed xs
    Counts xs (TakesBack found) =
        Within found.frames found.visits (bound_of xs) × Account found.frames found.failed xs
    Counts xs (Ends s found) =
        (found.visits ≤ bound_of xs) × Distinct xs × Every IsTriedPair xs

    abbrev Counted : Next → Type 0
    Counted n = (xs : List Pair) × Counts xs n

    all_tried : (frames : List Frame) (failed : Pair → Bool) (xs : List Pair) → Account frames failed xs → Every IsTriedPair xs
    all_tried frames failed xs h = every_weaker (λ x k. k.0) h.1

    -- a pair that is neither memoized nor tried
    is_new : {s : NfaConfig} (p : Position w s) (found : Search) (xs : List Pair) → found.failed (pair_of s) ≡ false →
        Under found.frames s → Account found.frames found.failed xs → Every (λ x. pair_of s ≡ x → ⊥) xs
    is_new {s} p found xs e under account =
        every_weaker
        (λ x k same. ⊎_elim (λ memoized. differ (sym e ∙ ap found.failed same ∙ memoized))
        (λ tried. let from = under x tried in pairs.no_return from.0 s from.1 from.3 (sym (same ∙ from.2))) k.1)
        account.1
      where
        differ : false ≡ true → ⊥
        differ no_one = cc no_one

    counts_by : (xs : List Pair) {s : NfaConfig} (p : Position w s) (l : StepResult) (found : Search) → step_result_of w s ≡ l → Step w p l →
        start ≤ (p.state).place → Under found.frames s → Within found.frames (found.visits + weight_at w p) (bound_of xs) →
        Account found.frames found.failed xs → Counted (next_by l (slice_get w.states s.at) s found)
    counts_by xs {s} p Found found is h on under within account =
        subst (λ f. Counted (Ends (Some s) f)) (visited_is w s found)
        (let le = within_bound found.frames (found.visits + weight_at w p) (bound_of xs) within in
        (xs, (omega (arith, le, h.1), account.0, all_tried found.frames found.failed xs account)))
    counts_by xs {s} p Lost found is h on under within account =
        subst (λ f. Counted (TakesBack f)) (visited_is w s found) (
          xs,
          (
            within_less found.frames (found.visits + weight_at w p) (found.visits + count_at w s) (bound_of xs) (bound_of xs)
                (omega (arith, h.1)) within,
            account,
          ),
        )
    counts_by xs {s} p (Goes t) found is h on under within account =
        subst (λ f. Counted (TakesUp t f)) (visited_is w s found) (
          xs,
          (
            h.0,
            on_lower p h.0 on h.1,
            under_on found.frames (subst (λ l. LeadsTo w l t) (sym is) refl) under,
            within_less found.frames (found.visits + weight_at w p) (found.visits + count_at w s + weight_at w h.0)
                (bound_of xs) (bound_of xs) (omega (arith, h.3)) within,
            account,
          ),
        )
    counts_by xs {s} p (Tries false t ts) found is h on under within account =
        subst (λ f. Counted (TakesUp t (with_frames (others ts) f))) (visited_is w s found) (
          xs,
          (
            h.0.0,
            all.0,
            (λ x tried. here t (inl refl) x (tried_among x ts found.frames tried)),
            within_others ts h.0.1 found.frames (found.visits + count_at w s + weight_at w h.0.0) (bound_of xs)
                (λ u one. here u (inr one)) all.1
                (within_less found.frames (found.visits + weight_at w p)
                (found.visits + count_at w s + weight_at w h.0.0 + weight_from w ts h.0.1) (bound_of xs) (bound_of xs)
                (omega (arith, h.3)) within),
            account_on found.frames (others ts ++ found.frames) found.failed found.failed xs (λ x e. e)
                (λ x tried. inr (still_among x ts found.frames tried)) account,
          ),
        )
      where
        all : AllOn (t ∷ ts) h.0
        all = all_on p (t ∷ ts) h.0 on h.1

        here : (u : NfaConfig) → IsOneOf w (t ∷ ts) u → Under found.frames u
        here u one = under_on found.frames (subst (λ l. LeadsTo w l u) (sym is) one) under
    counts_by xs {s} p (Tries true t ts) found is h on under within account = go (found.failed (pair_of s)) refl
      where
        all : AllOn (t ∷ ts) h.0
        all = all_on p (t ∷ ts) h.0 on h.1

        more : List Frame
        more = Fails s ∷ found.frames

        here : (u : NfaConfig) → IsOneOf w (t ∷ ts) u → Under more u
        here u one = under_tried p found.frames (subst (λ l. LeadsTo w l u) (sym is) one) under

        is_tried_pair : IsTriedPair (pair_of s)
        is_tried_pair = record { config = s; position = p; on = on; is_pair = refl; first = t; rest = ts; is_tried = is }

        go : (b : Bool) → found.failed (pair_of s) ≡ b →
            Counted (if b then TakesBack found
            else TakesUp t (with_frames (others ts ++ (Fails s ∷ [])) (visited (slice_get w.states s.at) found)))
        go true e = (
          xs,
          (
            within_less found.frames (found.visits + weight_at w p) found.visits (bound_of xs) (bound_of xs)
                (omega arith) within,
            account,
          ),
        )
        go false e =
            subst (λ f. Counted (TakesUp t f)) (tried_is w s ts found) (
              pair_of s ∷ xs,
              (
                h.0.0,
                all.0,
                (λ x k. here t (inl refl) x (tried_among x ts more k)),
                within_others ts h.0.1 more (found.visits + count_at w s + weight_at w h.0.0) (bound_of (pair_of s ∷ xs))
                    (λ u one. here u (inr one)) all.1
                    (within_less found.frames (found.visits + weight_at w p)
                    (found.visits + count_at w s + weight_at w h.0.0 + weight_from w ts h.0.1) (bound_of xs) (bound_of (pair_of s ∷ xs))
                    (omega (arith, h.3)) within),
                (
                  (is_new p found xs e under account, account.0),
                  item (is_tried_pair, inr (still_among (pair_of s) ts more (inl refl)))
                      (account_on found.frames (others ts ++ more) found.failed found.failed xs (λ x k. k)
                      (λ x k. inr (still_among x ts more (inr k))) account).1,
                ),
              ),
            )

    counts_back : (xs : List Pair) (frames : List Frame) (found : Search) → Within frames found.visits (bound_of xs) →
        Account frames found.failed xs → Counted (back_to frames found)
    counts_back xs [] found within account = (xs, (within, account.0, all_tried [] found.failed xs account))
    counts_back xs (Other s ∷ frames) found within account = (xs, (within.0, within.1, within.2, within.3, account))
    counts_back xs (Fails s ∷ frames) found within account = (
      xs,
      (
        within,
        account_on (Fails s ∷ frames) frames found.failed (with_failed (pair_of s) found).failed xs
            (λ y e. or_true (same_pair (pair_of s) y) (found.failed y) e)
            (λ y k. ⊎_elim (λ e. inl (or_same y e)) (λ tried. inr tried) k) account,
      ),
    )
      where
        or_true : (a b : Bool) → b ≡ true → (a || b) ≡ true
        or_true true b e = refl
        or_true false b e = e

        or_same : (y : Pair) → pair_of s ≡ y → (same_pair (pair_of s) y || found.failed y) ≡ true
        or_same y e = ap (λ b. b || found.failed y) (ap (same_pair (pair_of s)) (sym e) ∙ pairs.itself (pair_of s))

    counts_next : (n : Next) → Counted n → Counted (next_of w n)
    counts_next (TakesUp s found) h =
        let c = h.1 in
        counts_by h.0 c.0 (step_result_of w s) found refl (step w facts c.0) c.1 c.2 c.3 c.4
    counts_next (TakesBack found) h = counts_back h.0 found.frames found h.1.0 h.1.1
    counts_next (Ends s found) h = h

    counts : (k : ℕ) (n : Next) → Counted n → Counted (after w k n)
    counts zero n h = h
    counts (suc k) n h = counts k (next_of w n) (counts_next n h)

    -- what a search has taken up at its end
    pub counted_at_end : (s : NfaConfig) (p : Position w s) (failed : Pair → Bool) (k : ℕ) (way : Option NfaConfig) (found : Search) →
        start ≤ (p.state).place → weight_at w p ≤ base → after w k (TakesUp s (first_search failed)) ≡ Ends way found →
        (xs : List Pair) × ((found.visits ≤ base + charges xs) × Distinct xs × Every IsTriedPair xs)
    counted_at_end s p failed k way found on le e =
        subst Counted e
        (counts k (TakesUp s (first_search failed))
        ([], (p, on, (λ x h. absurd h), (omega (arith, le)), (tt, no_item))))
