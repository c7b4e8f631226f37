-- The longest of several states, and when two lists have the same one.
use Rattle.std.proofs.Common.{◌≡◌, ⊎_elim, ℕ, ◌≤◌, ◌<◌, Bool, true, false, ◌&&◌, nat_lt, nat_le, if◌then◌else◌, List, [], ◌∷◌, filter, Option, Some, IfSome, slice_get, refl, sym, ap, ◌∙◌, subst, arith, le-leb, lt-ltb}
use Rattle.std.proofs.lemmas.Bool.{cases_lt, le-ltb, lt-leb}
use Rattle.std.proofs.lemmas.Option.{none-some, same_Some}
use Rattle.fancy_meaning.specs.MatchState.{MatchState}
use Rattle.fancy_meaning.specs.Answer.{reported, longest_from, longest_of, chosen}
use Rattle.fancy_laws.proofs.Every.{Every, no_item, item, every_filter, every_first}

-- of two states the longer one, the first among equals
abbrev longer_of : MatchState → MatchState → MatchState
longer_of s t = if nat_lt (reported s) (reported t) then t else s

pub every_longest : {P : MatchState → Type 0} (s : MatchState) {ts : List MatchState} → P s → Every P ts → P (longest_from s ts)
every_longest s p no_item = p
every_longest {P} s p (item {x = t} {xs = ts} r h) = every_longest (longer_of s t) here h
  where
    here : P (longer_of s t)
    here = elim (nat_lt (reported s) (reported t)) as (λ v. P (if v then t else s)) [ true ↦ r | false ↦ p ]

-- what holds of every state holds of the chosen one
pub every_chosen : {P : MatchState → Type 0} (longest : Bool) {ss : List MatchState} → Every P ss → IfSome (chosen longest ss) P
every_chosen false h = every_first h
every_chosen true no_item = tt
every_chosen true (item {x = s} p h) = every_longest s p h

-- ---- none is longer

longer_is_longer : (s t : MatchState) → (reported s ≤ reported (longer_of s t)) × (reported t ≤ reported (longer_of s t))
longer_is_longer s t = ⊎_elim
    {C = (reported s ≤ reported (longer_of s t)) × (reported t ≤ reported (longer_of s t))}
    (λ lt. let e = ap (λ v. reported (if v then t else s)) (lt-ltb (reported s) (reported t) lt) in (omega (arith, e, lt), omega (arith, e)))
    (λ ge. let e = ap (λ v. reported (if v then t else s)) (le-ltb (reported s) (reported t) ge) in (omega (arith, e), omega (arith, e, ge)))
    (cases_lt (reported s) (reported t))

at_least_the_first : (s : MatchState) (ts : List MatchState) → reported s ≤ reported (longest_from s ts)
at_least_the_first s [] = omega arith
at_least_the_first s (t ∷ ts) =
    let one = (longer_is_longer s t).0 in
    let rest = at_least_the_first (longer_of s t) ts in
    omega (arith, one, rest)

pub none_longer : (s : MatchState) (ts : List MatchState) → Every (λ t. reported t ≤ reported (longest_from s ts)) (s ∷ ts)
none_longer s ts = item (at_least_the_first s ts) (others s ts)
  where
    others : (s : MatchState) (ts : List MatchState) → Every (λ t. reported t ≤ reported (longest_from s ts)) ts
    others s [] = no_item
    others s (t ∷ ts) =
        let one = (longer_is_longer s t).1 in
        let rest = at_least_the_first (longer_of s t) ts in
        item (omega (arith, one, rest)) (others (longer_of s t) ts)

-- ---- it is the first that is as long

-- the first of these that is at least so long
abbrev pub first_of_length : ℕ → List MatchState → Option MatchState
first_of_length k ss = slice_get (filter (λ u. nat_le k (reported u)) ss) 0

passes : (k : ℕ) (s : MatchState) (ss : List MatchState) → k ≤ reported s → first_of_length k (s ∷ ss) ≡ Some s
passes k s ss le =
    ap (λ v. slice_get (if v then s ∷ filter (λ u. nat_le k (reported u)) ss else filter (λ u. nat_le k (reported u)) ss) 0)
    (le-leb k (reported s) le)

falls_short : (k : ℕ) (s : MatchState) (ss : List MatchState) → reported s < k → first_of_length k (s ∷ ss) ≡ first_of_length k ss
falls_short k s ss lt =
    ap (λ v. slice_get (if v then s ∷ filter (λ u. nat_le k (reported u)) ss else filter (λ u. nat_le k (reported u)) ss) 0)
    (lt-leb k (reported s) lt)

longest_is_first : (s : MatchState) (ts : List MatchState) →
    first_of_length (reported (longest_from s ts)) (s ∷ ts) ≡ Some (longest_from s ts)
longest_is_first s [] = passes (reported s) s [] (omega arith)
longest_is_first s (t ∷ ts) = ⊎_elim
    {C = first_of_length (reported (longest_from (longer_of s t) ts)) (s ∷ t ∷ ts) ≡ Some (longest_from (longer_of s t) ts)}
    (λ lt. subst (λ u. First u (longest_from u ts)) (sym (one (lt-ltb (reported s) (reported t) lt))) (later lt (longest_is_first t ts)))
    (λ ge. subst (λ u. First u (longest_from u ts)) (sym (one (le-ltb (reported s) (reported t) ge))) (no_later ge (longest_is_first s ts)))
    (cases_lt (reported s) (reported t))
  where
    First : MatchState → MatchState → Type 0
    First u m = first_of_length (reported m) (s ∷ t ∷ ts) ≡ Some m

    one : {v : Bool} → nat_lt (reported s) (reported t) ≡ v → longer_of s t ≡ (if v then t else s)
    one e = ap (λ v. if v then t else s) e

    -- the first is passed over
    later : reported s < reported t → first_of_length (reported (longest_from t ts)) (t ∷ ts) ≡ Some (longest_from t ts) →
        First t (longest_from t ts)
    later lt rest =
        let more = at_least_the_first t ts in
        falls_short (reported (longest_from t ts)) s (t ∷ ts) (omega (arith, lt, more)) ∙ rest

    -- the second is
    no_later : reported t ≤ reported s → first_of_length (reported (longest_from s ts)) (s ∷ ts) ≡ Some (longest_from s ts) →
        First s (longest_from s ts)
    no_later le rest = ⊎_elim
        {C = First s (longest_from s ts)}
        (λ short.
        falls_short (reported (longest_from s ts)) s (t ∷ ts) short
        ∙ falls_short (reported (longest_from s ts)) t ts (omega (arith, short, le))
        ∙ sym (falls_short (reported (longest_from s ts)) s ts short) ∙ rest)
        (λ long.
        passes (reported (longest_from s ts)) s (t ∷ ts) long
        ∙ sym (passes (reported (longest_from s ts)) s ts long) ∙ rest)
        (cases_lt (reported s) (reported (longest_from s ts)))

-- ---- two lists with the same longest state

-- In both lists the first state of each length or above is the same.
abbrev pub SameByLength : List MatchState → List MatchState → Type 0
SameByLength ss ts = (k : ℕ) → first_of_length k ss ≡ first_of_length k ts

-- what is found is one of the list
found_is_one : {P : MatchState → Type 0} (k : ℕ) (ss : List MatchState) (m : MatchState) → Every P ss →
    first_of_length k ss ≡ Some m → P m
found_is_one {P} k ss m h e =
    subst (λ o. IfSome o P) e (every_first (every_filter {Q = P} (λ u. nat_le k (reported u)) (λ u p t. p) h))

same_longest_from : (s : MatchState) (ss : List MatchState) (t : MatchState) (ts : List MatchState) →
    SameByLength (s ∷ ss) (t ∷ ts) → longest_from s ss ≡ longest_from t ts
same_longest_from s ss t ts same =
    let m = longest_from s ss in
    let n = longest_from t ts in
    let of_s = longest_is_first s ss in
    let of_t = longest_is_first t ts in
    let le : reported m ≤ reported n =
    found_is_one {P = λ u. reported u ≤ reported n} (reported m) (t ∷ ts) m (none_longer t ts) (sym (same (reported m)) ∙ of_s) in
    let ge : reported n ≤ reported m =
    found_is_one {P = λ u. reported u ≤ reported m} (reported n) (s ∷ ss) n (none_longer s ss) (same (reported n) ∙ of_t) in
    let equal : reported m ≡ reported n = omega (arith, le, ge) in
    same_Some m n (sym of_s ∙ same (reported m) ∙ ap (λ k. first_of_length k (t ∷ ts)) equal ∙ of_t)

pub same_longest : (ss ts : List MatchState) → SameByLength ss ts → longest_of ss ≡ longest_of ts
same_longest [] [] same = refl
same_longest [] (t ∷ ts) same = absurd (none-some t (same 0 ∙ passes 0 t ts (omega arith)))
same_longest (s ∷ ss) [] same = absurd (none-some s (sym (same 0) ∙ passes 0 s ss (omega arith)))
same_longest (s ∷ ss) (t ∷ ts) same = ap Some (same_longest_from s ss t ts same)

-- of the states that pass a test
both_tests : (p r : MatchState → Bool) (ss : List MatchState) → filter r (filter p ss) ≡ filter (λ u. p u && r u) ss
both_tests p r [] = refl
both_tests p r (s ∷ ss) =
    let rest = both_tests p r ss in
    elim (p s) as
    (λ v. filter r (if v then s ∷ filter p ss else filter p ss)
    ≡ (if v && r s then s ∷ filter (λ u. p u && r u) ss else filter (λ u. p u && r u) ss)) [
      | true ↦ ap (λ l. if r s then s ∷ l else l) rest
      | false ↦ rest
    ]

-- Where each such test finds the same first state in both lists, the same state is chosen.
pub same_chosen : (longest : Bool) (p : MatchState → Bool) (hs qs : List MatchState) →
    slice_get (filter p hs) 0 ≡ slice_get (filter p qs) 0 →
    (longest ≡ true → (k : ℕ) → slice_get (filter (λ u. p u && nat_le k (reported u)) hs) 0
    ≡ slice_get (filter (λ u. p u && nat_le k (reported u)) qs) 0) →
    chosen longest (filter p hs) ≡ chosen longest (filter p qs)
same_chosen false p hs qs same by_length = same
same_chosen true p hs qs same by_length =
    same_longest (filter p hs) (filter p qs)
    (λ k.
    ap (λ l. slice_get l 0) (both_tests p (λ u. nat_le k (reported u)) hs) ∙ by_length refl k
    ∙ sym (ap (λ l. slice_get l 0) (both_tests p (λ u. nat_le k (reported u)) qs)))
