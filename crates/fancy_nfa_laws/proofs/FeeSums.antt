-- All pairs of a memoized state and a place: together they are charged no more than the bound.
use Rattle.std.proofs.Common.{◌≡◌, ◌≤◌, ℕ, zero, suc, ◌+◌, ◌*◌, ◌-◌, List, [], ◌∷◌, ◌++◌, length, map, Option, Some, None, slice_get, refl, ap, ◌∙◌, subst, arith, length-append}
use Rattle.std.proofs.lemmas.List.{length-map}
use Rattle.std.proofs.Math.Nat.{mul-le-mul_right}
use Rattle.fancy_meaning.specs.Tree.{Tree}
use Rattle.fancy_meaning.specs.Options.{Analysis}
use Rattle.fancy_meaning.specs.FragmentStates.{fragment_states, visit_bound}
use Rattle.fancy_laws.proofs.Every.{Every, every_weaker}
use Rattle.fancy_nfa_laws.specs.NfaSearch.{Pair}
use Rattle.fancy_nfa_laws.proofs.Tasks.{tasks_of}
use Rattle.fancy_nfa_laws.proofs.Weights.{weight}
use Rattle.fancy_nfa_laws.proofs.Fees.{Key, Fee, ways_around, total, nodes_fees, fees_bound}
use Rattle.fancy_nfa_laws.proofs.Segments.{LiesAt, lies_itself}
use Rattle.fancy_delegation.proofs.Items.{IsIn, first, later, is_in_append_left, is_in_append_right, is_in_map}
use Rattle.fancy_nfa_laws.proofs.Totals.{Distinct, total_by, total_by-append, total_by-same, total_by-among}

-- each key is one of those that its loop tells apart
abbrev pub AreKeys : List Key → List (List Key) → Type 0
AreKeys [] [] = Unit {0}
AreKeys [] (c ∷ cs) = ⊥
AreKeys (k ∷ ks) [] = ⊥
AreKeys (k ∷ ks) (c ∷ cs) = IsIn k c × AreKeys ks cs

abbrev pub charge_of : Option (Option Fee) → ℕ
charge_of None = 0
charge_of (Some None) = 0
charge_of (Some (Some n)) = n.charge

module _ (fees : List (Option Fee)) where
  -- what one taking up of this pair costs at most
  abbrev pub charge_at : Pair → ℕ
  charge_at pair = charge_of (slice_get fees pair.at)

  -- a pair at a memoized state, from one place to another
  pub record IsNotable (from upto : ℕ) (pair : Pair) : Type 0 where
    pub fee : Fee
    pub is_memoized : slice_get fees pair.at ≡ Some (Some fee)
    pub counters : AreKeys pair.counters fee.around
    pub begins : from ≤ pair.place
    pub ends : pair.place ≤ upto

-- ---- all choices of keys

abbrev each_with : List Key → List (List Key) → List (List Key)
each_with [] rest = []
each_with (k ∷ ks) rest = map (λ r. k ∷ r) rest ++ each_with ks rest

abbrev choices : List (List Key) → List (List Key)
choices [] = [] ∷ []
choices (c ∷ cs) = each_with c (choices cs)

length-each_with : (ks : List Key) (rest : List (List Key)) → length (each_with ks rest) ≡ length ks * length rest
length-each_with [] rest = omega arith
length-each_with (k ∷ ks) rest =
    let both = length-append (map (λ r. k ∷ r) rest) (each_with ks rest) in
    let one = length-map rest (λ (r : List Key). k ∷ r) in
    let others = length-each_with ks rest in
    omega (arith, both, one, others)

length-choices : (cs : List (List Key)) → length (choices cs) ≡ ways_around cs
length-choices [] = refl
length-choices (c ∷ cs) = length-each_with c (choices cs) ∙ ap (λ n. length c * n) (length-choices cs)

in_each_with : {k : Key} {ks : List Key} (r : List Key) (rest : List (List Key)) → IsIn k ks → IsIn r rest →
    IsIn (k ∷ r) (each_with ks rest)
in_each_with {k = k} r rest (first {xs = ks}) i = is_in_append_left (each_with ks rest) (is_in_map (λ v. k ∷ v) i)
in_each_with r rest (later {y = j} h) i = is_in_append_right (map (λ v. j ∷ v) rest) (in_each_with r rest h i)

in_choices : (ks : List Key) (cs : List (List Key)) → AreKeys ks cs → IsIn ks (choices cs)
in_choices [] [] h = first
in_choices [] (c ∷ cs) h = absurd h
in_choices (k ∷ ks) [] h = absurd h
in_choices (k ∷ ks) (c ∷ cs) h = in_each_with ks (choices cs) h.0 (in_choices ks cs h.1)

-- ---- all pairs

abbrev pair_at : ℕ → ℕ → List Key → Pair
pair_at p place counters = record { at = p; place = place; counters = counters }

-- at a place, at the states from p on
abbrev pairs_at : ℕ → ℕ → List (Option Fee) → List Pair
pairs_at place p [] = []
pairs_at place p (None ∷ ns) = pairs_at place (p + 1) ns
pairs_at place p (Some n ∷ ns) = map (pair_at p place) (choices n.around) ++ pairs_at place (p + 1) ns

-- at so many places
abbrev all_pairs : List (Option Fee) → ℕ → ℕ → List Pair
all_pairs fees from zero = []
all_pairs fees from (suc n) = pairs_at from 0 fees ++ all_pairs fees (suc from) n

module _ (fees : List (Option Fee)) where
  charged_at : (place p : ℕ) (ns : List (Option Fee)) → LiesAt fees p ns → total_by (charge_at fees) (pairs_at place p ns) ≡ total ns
  charged_at place p [] h = refl
  charged_at place p (None ∷ ns) h = let rest = charged_at place (p + 1) ns h.1 in omega (arith, rest)
  charged_at place p (Some n ∷ ns) h =
      let rest = charged_at place (p + 1) ns h.1 in
      let both = total_by-append (charge_at fees) (map (pair_at p place) (choices n.around)) (pairs_at place (p + 1) ns) in
      let here = total_by-same (charge_at fees) (pair_at p place) n.charge (choices n.around) (λ ts. ap charge_of h.0) in
      let many = ap (λ k. k * n.charge) (length-choices n.around) in
      omega (arith, rest, both, here, many)

  charged_all : (from n : ℕ) → total_by (charge_at fees) (all_pairs fees from n) ≡ n * total fees
  charged_all from zero = omega arith
  charged_all from (suc n) =
      let rest = charged_all (suc from) n in
      let both = total_by-append (charge_at fees) (pairs_at from 0 fees) (all_pairs fees (suc from) n) in
      let here = charged_at from 0 fees (lies_itself fees) in
      omega (arith, rest, both, here)

in_pairs_at : (p k at place : ℕ) (counters : List Key) (ns : List (Option Fee)) (n : Fee) → at ≡ p + k → slice_get ns k ≡ Some (Some n) →
    AreKeys counters n.around → IsIn (pair_at at place counters) (pairs_at place p ns)
in_pairs_at p k at place counters [] n e is h = cc
in_pairs_at p zero at place counters (None ∷ ns) n e is h = cc
in_pairs_at p zero at place counters (Some m ∷ ns) n e is h =
    let same : n ≡ m = cc in
    let here : p ≡ at = omega (arith, e) in
    is_in_append_left (pairs_at place (p + 1) ns)
    (subst (λ i. IsIn (pair_at i place counters) (map (pair_at p place) (choices m.around))) here
    (is_in_map (pair_at p place) (in_choices counters m.around (subst (λ (v : Fee). AreKeys counters v.around) same h))))
in_pairs_at p (suc k) at place counters (None ∷ ns) n e is h = in_pairs_at (p + 1) k at place counters ns n (omega (arith, e)) is h
in_pairs_at p (suc k) at place counters (Some m ∷ ns) n e is h =
    is_in_append_right (map (pair_at p place) (choices m.around))
    (in_pairs_at (p + 1) k at place counters ns n (omega (arith, e)) is h)

in_all_pairs : (fees : List (Option Fee)) (from n k place : ℕ) (pair : Pair) → place ≡ from + k → suc k ≤ n →
    IsIn pair (pairs_at place 0 fees) → IsIn pair (all_pairs fees from n)
in_all_pairs fees from zero k place pair e lt h = absurd (omega (arith, lt))
in_all_pairs fees from (suc n) zero place pair e lt h =
    let here : place ≡ from = omega (arith, e) in
    is_in_append_left (all_pairs fees (suc from) n) (subst (λ i. IsIn pair (pairs_at i 0 fees)) here h)
in_all_pairs fees from (suc n) (suc k) place pair e lt h =
    is_in_append_right (pairs_at from 0 fees)
    (in_all_pairs fees (suc from) n k place pair (omega (arith, e)) (omega (arith, lt)) h)

notable_in : (fees : List (Option Fee)) (from upto : ℕ) (pair : Pair) → IsNotable fees from upto pair →
    IsIn pair (all_pairs fees from (upto - from + 1))
notable_in fees from upto pair h =
    let begins : from ≤ pair.place = h.begins in
    let ends : pair.place ≤ upto = h.ends in
    in_all_pairs fees from (upto - from + 1) (pair.place - from) pair.place pair (omega (arith, begins)) (omega (arith, begins, ends))
    (in_pairs_at 0 pair.at pair.at pair.place pair.counters fees h.fee (omega arith) h.is_memoized h.counters)

within_bound : (w t f d s : ℕ) → t + w ≤ f → s ≤ (d + 1) * t → w + s ≤ f * (d + 1)
within_bound w t f d s le few =
    let wide = mul-le-mul_right (d + 1) le in
    let parts : (t + w) * (d + 1) ≡ (d + 1) * t + d * w + w = omega arith in
    omega (arith, wide, few, parts)

-- what different pairs at memoized states are charged with what is taken up before the first
pub charges_fit : (a : Analysis) (es : List Tree) (from upto : ℕ) (pairs : List Pair) → Distinct pairs →
    Every (IsNotable (nodes_fees a es) from upto) pairs →
    weight a (tasks_of a es) + total_by (charge_at (nodes_fees a es)) pairs ≤ visit_bound a.tree es (upto - from)
charges_fit a es from upto pairs distinct notable =
    let fees = nodes_fees a es in
    let among = total_by-among (charge_at fees) pairs (all_pairs fees from (upto - from + 1)) distinct
    (every_weaker (λ pair h. notable_in fees from upto pair h) notable) in
    let all = charged_all fees from (upto - from + 1) in
    within_bound (weight a (tasks_of a es)) (total fees) (fragment_states a.tree es) (upto - from)
    (total_by (charge_at fees) pairs) (fees_bound a es) (omega (arith, among, all))
