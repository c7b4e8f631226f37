-- Searches along links: what is reached, and what leads into a cycle.
use Rattle.std.proofs.Common.{◌≡◌, ◌⊎◌, zero, suc, List, ◌∷◌, Contains, refl, arith, inl, inr, ◌≢◌, ℕ, ◌+◌, ◌<◌, Bool, true, false, cond, [], length, get_or, ap, ◌∙◌, get_or-set_same, get_or-set_other, ◌++◌, map, All, Vec, Global, ⊎_elim, sym, subst, ◌≤◌, not, ◌||◌, ◌&&◌, ◌==◌, if◌then◌else◌, Option, Some, None, filter_map, append-nil, take, replicate}
use Rattle.std.proofs.Math.ListN.{set}
use Rattle.std.proofs.lemmas.Bool.{cases_eq, cases_lt, both_ways, and_from, and_parts, eqb-true, eq-eqb}
use Rattle.std.proofs.lemmas.Bool.Decides.{eqb_tells}
use Rattle.std.proofs.lemmas.List.Sums.{sum_by-set}
use Rattle.std.specs.List.{cons_option, count_by, sum_by}
use Rattle.fancy_analysis.specs.Reached.{flag, listed, way_from, IsLink, IsLinked, IsReached, the_whole, further, HasRoom, AreReached, AreWays, IsLinkedAtOnce, LeadsOn, by_one, by_more, LeadsIntoCycle, IsLeastIntoCycle, BeginsWith, IsChain, IsState, is_done}
use Rattle.std.proofs.lemmas.List.{get_or-map, map-set, length-map, length-set, get_or_past, length-replicate, get_or-replicate}
use Rattle.std.proofs.lemmas.List.Elements.{Contains-append_left, Contains-push, Contains-push_cases, All-head, All-tail, All-contains, Contains-append_right, Contains-append_cases}
use Rattle.std.proofs.Math.Seq.{take-append_seam}
use Rattle.fancy_analysis.specs.declared.links.Link.{Link}
use Rattle.fancy_analysis.proofs.EndingRules.{no_flag}

pub contains_cases : {X : Type 0} (x y : X) (xs : List X) → Contains (x ∷ xs) y → (x ≡ y) ⊎ Contains xs y
contains_cases x y xs (zero, lt, e) = inl e
contains_cases x y xs (suc k, lt, e) = inr (k, omega arith, e)

pub contains_first : {X : Type 0} (x : X) (xs : List X) → Contains (x ∷ xs) x
contains_first x xs = (0, omega arith, refl)

pub contains_later : {X : Type 0} (x y : X) (xs : List X) → Contains xs y → Contains (x ∷ xs) y
contains_later x y xs c = (suc c.0, (let lt = c.1 in omega arith), c.2)

-- ---- members of what is picked

module _ {X Y : Type 0} (f : X → Option Y) where
  pub record IsPicked (xs : List X) (y : Y) : Type 0 where
    pub from : X
    pub is_there : Contains xs from
    pub gives : f from ≡ Some y

  picked_later : (x : X) (xs : List X) (y : Y) → IsPicked xs y → IsPicked (x ∷ xs) y
  picked_later x xs y p = record { from = p.from; is_there = contains_later x p.from xs p.is_there; gives = p.gives }

  picked_first : (x : X) (xs : List X) (o : Option Y) → f x ≡ o → (y : Y) → Contains (cons_option o (filter_map f xs)) y →
      (Contains (filter_map f xs) y → IsPicked xs y) → IsPicked (x ∷ xs) y
  picked_first x xs None e y c rest = picked_later x xs y (rest c)
  picked_first x xs (Some z) e y c rest = elim (contains_cases z y (filter_map f xs) c) [
    | inl s ↦ record { from = x; is_there = contains_first x xs; gives = e ∙ ap Some s }
    | inr d ↦ picked_later x xs y (rest d)
  ]

  pub picked : (xs : List X) (y : Y) → Contains (filter_map f xs) y → IsPicked xs y
  picked [] y c = let lt = c.1 in absurd (omega arith)
  picked (x ∷ xs) y c = picked_first x xs (f x) refl y c (picked xs y)

  kept : (o : Option Y) (l : List Y) (y : Y) → Contains l y → Contains (cons_option o l) y
  kept None l y c = c
  kept (Some z) l y c = contains_later z y l c

  pub picks : (xs : List X) (x : X) (y : Y) → Contains xs x → f x ≡ Some y → Contains (filter_map f xs) y
  picks [] x y c e = let lt = c.1 in absurd (omega arith)
  picks (z ∷ xs) x y c e = elim (contains_cases z x xs c) [
    | inl s ↦ subst (λ o. Contains (cons_option o (filter_map f xs)) y) (sym (ap f s ∙ e)) (contains_first y (filter_map f xs))
    | inr d ↦ kept (f z) (filter_map f xs) y (picks xs x y d e)
  ]

pub given : {X : Type 0} (b : Bool) (x y : X) → (if b then Some x else None) ≡ Some y → (b ≡ true) × (x ≡ y)
given true x y e = (refl, cc)
given false x y e = cc

-- one that passes is changed to one that does not
pub one_less : {X : Type 0} (p : X → Bool) (xs : List X) (i : ℕ) (d y : X) → i < length xs → p (get_or xs i d) ≡ true → p y ≡ false →
    count_by p (set xs i y) + 1 ≡ count_by p xs
one_less {X} p xs i d y h at there =
    let f : X → ℕ = λ x. cond (p x) 1 0 in
    let before : f (get_or xs i d) ≡ 1 = ap (λ b. cond b 1 0) at in
    let after : f y ≡ 0 = ap (λ b. cond b 1 0) there in
    let change = sum_by-set f xs i y d h in
    omega arith

-- what is set has a flag
pub flag_inside : (flags : List Bool) (n : ℕ) → flag flags n ≡ true → n < length flags
flag_inside flags n h =
    ⊎_elim (λ lt. lt) (λ ge. absurd (both_ways (flag flags n) (get_or_past flags n false ge) h)) (cases_lt n (length flags))

-- what is read after a write, with either default
written : (d : Bool) (flags : List Bool) (i n : ℕ) (b : Bool) → i < length flags →
    ((n ≡ i) × (get_or (set flags i b) n d ≡ b)) ⊎ ((n ≢ i) × (get_or (set flags i b) n d ≡ get_or flags n d))
written d flags i n b h = elim (cases_eq n i) [
  | inl e ↦ inl (e, ap (λ k. get_or (set flags i b) k d) e ∙ get_or-set_same flags i b d h)
  | inr ne ↦ inr (ne, get_or-set_other flags i n b d ne)
]

abbrev pub Lists : Type 0
Lists = List (Vec ℕ Global)

pub none_in : (x : ℕ) → Contains [] x → ⊥
none_in x h = omega (arith, h.1)

-- at first none are listed
pub listed_none : (lists : Lists) → All (λ list. list.items ≡ []) lists → (n : ℕ) → listed lists n ≡ []
listed_none [] all n = refl
listed_none (v ∷ lists) all zero = All-head (λ list. list.items ≡ []) v lists all
listed_none (v ∷ lists) all (suc n) = listed_none lists (All-tail (λ list. list.items ≡ []) v lists all) n

listed_or : (lists : Lists) (k : ℕ) (d : Vec ℕ Global) → k < length lists → listed lists k ≡ (get_or lists k d).items
listed_or lists k d lt = get_or-map (λ v. v.items) lists k d [] lt

-- the list of a number that has one
pub listed_at : (lists : Lists) (n : ℕ) (v : Vec ℕ Global) → n < length lists → v ≡ get_or lists n v → listed lists n ≡ v.items
listed_at lists n v lt is = listed_or lists n v lt ∙ ap (λ x. x.items) (sym is)

pub listed_within : (lists : Lists) (n h : ℕ) → Contains (listed lists n) h → n < length lists
listed_within [] n h there = absurd (none_in h there)
listed_within (w ∷ lists) zero h there = omega arith
listed_within (w ∷ lists) (suc n) h there = let more = listed_within lists n h there in omega arith

pub listed_same : (lists : Lists) (n : ℕ) (v : Vec ℕ Global) → n < length lists → listed (set lists n v) n ≡ v.items
listed_same lists n v lt =
    ap (λ l. get_or l n []) (map-set (λ w. w.items) lists n v)
    ∙ get_or-set_same (map (λ w. w.items) lists) n v.items [] (omega (arith, length-map lists (λ w. w.items)))

pub listed_other : (lists : Lists) (n h : ℕ) (v : Vec ℕ Global) → h ≢ n → listed (set lists n v) h ≡ listed lists h
listed_other lists n h v ne =
    ap (λ l. get_or l h []) (map-set (λ w. w.items) lists n v) ∙ get_or-set_other (map (λ w. w.items) lists) n h v.items [] ne

-- one more under the number of a link
pub listed_more : (lists : Lists) (link : Link) (v : Vec ℕ Global) (at_once : Bool) → link.from < length lists → (not at_once || link.at_once) ≡ true →
    v.items ≡ listed lists link.from ++ link.to ∷ [] →
    (n : ℕ) → listed (set lists link.from v) n ≡ listed lists n ++ filter_map (way_from at_once n) (link ∷ [])
listed_more lists link v at_once lt one is n =
    let way : Bool → List ℕ = λ b. listed lists n ++ cons_option (if b then Some link.to else None) [] in
    ⊎_elim
    (λ same. ap (listed (set lists link.from v)) (sym same.1) ∙ listed_same lists link.from v lt ∙ is ∙ ap (λ k. listed lists k ++ link.to ∷ []) same.1
    ∙ ap way (sym (and_from (link.from == n) (not at_once || link.at_once) same.0 one)))
    (λ other. listed_other lists link.from n v (λ e. other.1 (sym e)) ∙ sym (append-nil (listed lists n))
    ∙ ap way (sym (ap (λ b. b && (not at_once || link.at_once)) other.0)))
    (eqb_tells link.from n)

pub ways_only : (at_once : Bool) (links : List Link) (ways : Lists) → AreWays at_once links ways → (g h : ℕ) → Contains (listed ways g) h →
    IsLink at_once links g h
ways_only at_once links ways w g h there =
    let p = picked (way_from at_once g) links h (subst (λ l. Contains l h) (w g) there) in
    let is = given (p.from.from == g && (not at_once || p.from.at_once)) p.from.to h p.gives in
    let both = and_parts (p.from.from == g) (not at_once || p.from.at_once) is.0 in
    record { link = p.from; is_there = p.is_there; leads_from = eqb-true p.from.from g both.0; leads_to = is.1; is_one = both.1 }

pub ways_all : (at_once : Bool) (links : List Link) (ways : Lists) → AreWays at_once links ways → (g h : ℕ) → IsLink at_once links g h →
    Contains (listed ways g) h
ways_all at_once links ways w g h l =
    let both = and_from (l.link.from == g) (not at_once || l.link.at_once) (eq-eqb l.link.from g l.leads_from) l.is_one in
    subst (λ xs. Contains xs h) (sym (w g))
    (picks (way_from at_once g) links l.link h l.is_there (ap (λ b. if b then Some l.link.to else None) both ∙ ap Some l.leads_to))

-- how many are listed in all
pub total_set : (lists : Lists) (n : ℕ) (v : Vec ℕ Global) → n < length lists →
    sum_by (λ w. length w.items) lists + length v.items ≡ sum_by (λ w. length w.items) (set lists n v) + length (listed lists n)
total_set lists n v lt =
    let e = sum_by-set (λ w. length w.items) lists n v v lt in
    let same = ap length (listed_or lists n v lt) in
    omega arith

pub room_kept : (links : List Link) (before after : List Bool) → length before ≡ length after → HasRoom links before → HasRoom links after
room_kept links before after long room = record {
  whole = let w = room.whole in omega arith;
  each = λ k d lt. let w = room.each k d lt in omega arith;
}

-- what a call that was lent a list leaves of it
pub written_back : {X : Type 0} (n : ℕ) (xs ys : List X) → n ≡ length ys → take n (ys ++ xs) ≡ ys
written_back n xs ys h = ap (λ k. take k (ys ++ xs)) h ∙ take-append_seam ys xs

-- ---- what is reached

pub stays_set : (flags : List Bool) (i n : ℕ) → i < length flags → flag flags n ≡ true → flag (set flags i true) n ≡ true
stays_set flags i n lt at = elim (written false flags i n true lt) [ inl w ↦ w.1 | inr w ↦ w.1 ∙ at ]

-- the list of a number that was written, or another
listed_cases : (lists : Lists) (n h : ℕ) (v : Vec ℕ Global) → n < length lists →
    ((h ≡ n) × (listed (set lists n v) h ≡ v.items)) ⊎ ((h ≢ n) × (listed (set lists n v) h ≡ listed lists h))
listed_cases lists n h v lt = elim (cases_eq h n) [
  | inl e ↦ inl (e, ap (listed (set lists n v)) e ∙ listed_same lists n v lt)
  | inr ne ↦ inr (ne, listed_other lists n h v ne)
]

abbrev IsMet : List Bool → List ℕ → ℕ → Type 0
IsMet flags next h = (flag flags h ≡ true) ⊎ Contains next h

-- a link is still to be followed, or leads to a number that is set or comes next; from what is set each was followed
pub record IsReaching (links : List Link) (ways : Lists) (flags : List Bool) (next : List ℕ) : Type 0 where
  pub only : (n : ℕ) → flag flags n ≡ true → IsReached links n
  pub waits : (n : ℕ) → Contains next n → IsReached links n
  pub leads : (g h : ℕ) → Contains (listed ways g) h → IsLinked links g h
  pub on : (g h : ℕ) → IsLinked links g h → Contains (listed ways g) h ⊎ (h < length flags → IsMet flags next h)
  pub none : (g : ℕ) → flag flags g ≡ true → listed ways g ≡ []
  pub whole : IsMet flags next 0

pub reaching_first : (links : List Link) (ways : Lists) (flags : List Bool) → AreWays false links ways → ((n : ℕ) → flag flags n ≡ false) →
    IsReaching links ways flags (0 ∷ [])
reaching_first links ways flags w clear = record {
  only = λ n at. absurd (both_ways (flag flags n) (clear n) at);
  waits = λ n there. ⊎_elim (λ e. subst (IsReached links) e the_whole) (λ bad. absurd (none_in n bad)) (contains_cases 0 n [] there);
  leads = ways_only false links ways w;
  on = λ g h l. inl (ways_all false links ways w g h l);
  none = λ g at. absurd (both_ways (flag flags g) (clear g) at);
  whole = inr (contains_first 0 []);
}

module _ (links : List Link) (ways : Lists) (flags : List Bool) (rest : List ℕ) (m : ℕ) where
  -- past a number without a flag
  pub reaching_past : length flags ≤ m → 0 < length flags → IsReaching links ways flags (rest ++ m ∷ []) → IsReaching links ways flags rest
  reaching_past past some p = record {
    only = p.only;
    waits = λ n there. p.waits n (Contains-append_left rest (m ∷ []) n there);
    leads = p.leads;
    on = λ g h l. ⊎_elim (λ there. inl there) (λ met. inr (λ lt. still h lt (met lt))) (p.on g h l);
    none = p.none;
    whole = still 0 some p.whole;
  } where
    still : (h : ℕ) → h < length flags → IsMet flags (rest ++ m ∷ []) h → IsMet flags rest h
    still h lt met =
        ⊎_elim
        (λ at. inl at)
        (λ there. ⊎_elim (λ old. inr old) (λ e. absurd (omega (arith, e, past, lt))) (Contains-push_cases rest m h there))
        met

  pub reaching_next : (v : Vec ℕ Global) → m < length flags → m < length ways → v.items ≡ [] → IsReaching links ways flags (rest ++ m ∷ []) →
      IsReaching links (set ways m v) (set flags m true) (rest ++ listed ways m)
  reaching_next v lt within empty p = record {
    only = λ n at. ⊎_elim (λ w. subst (IsReached links) (sym w.0) here) (λ w. p.only n (sym w.1 ∙ at)) (written false flags m n true lt);
    waits = λ n there. ⊎_elim
        (λ old. p.waits n (Contains-append_left rest (m ∷ []) n old))
        (λ way. further here (p.leads m n way))
        (Contains-append_cases rest (listed ways m) n there);
    leads = λ g h there. ⊎_elim
        (λ w. absurd (none_in h (subst (λ l. Contains l h) (w.1 ∙ empty) there)))
        (λ w. p.leads g h (subst (λ l. Contains l h) w.1 there))
        (listed_cases ways m g v within);
    on = λ g h l. ⊎_elim
        (λ there. ⊎_elim
        (λ w. inr (λ _. inr (Contains-append_right rest (listed ways m) h (subst (λ k. Contains (listed ways k) h) w.0 there))))
        (λ w. inl (subst (λ xs. Contains xs h) (sym w.1) there))
        (listed_cases ways m g v within))
        (λ met. inr (λ inside. still h (met (omega (arith, inside, length-set flags m true)))))
        (p.on g h l);
    none = λ g at. ⊎_elim
        (λ w. w.1 ∙ empty)
        (λ w. w.1 ∙ p.none g (sym (get_or-set_other flags m g true false w.0) ∙ at))
        (listed_cases ways m g v within);
    whole = still 0 p.whole;
  } where
    here : IsReached links m
    here = p.waits m (Contains-push rest m)

    still : (h : ℕ) → IsMet flags (rest ++ m ∷ []) h → IsMet (set flags m true) (rest ++ listed ways m) h
    still h met =
        ⊎_elim
        (λ at. inl (stays_set flags m h lt at))
        (λ there. ⊎_elim
        (λ old. inr (Contains-append_left rest (listed ways m) h old))
        (λ e. inl (ap (flag (set flags m true)) (sym e) ∙ get_or-set_same flags m true false lt))
        (Contains-push_cases rest m h there))
        met

pub reaching_done : (links : List Link) (ways : Lists) (flags : List Bool) → HasRoom links flags → IsReaching links ways flags [] → AreReached links flags
reaching_done links ways flags room p = record { room = room; only = p.only; all = all } where
  is_set : (n : ℕ) → IsMet flags [] n → flag flags n ≡ true
  is_set n met = ⊎_elim (λ at. at) (λ bad. absurd (none_in n bad)) met

  all : (n : ℕ) → IsReached links n → n < length flags → flag flags n ≡ true
  all n the_whole h = is_set n p.whole
  all n (further {g} r l) h =
      let inside = All-contains (λ x. x.from < length flags) links l.link room.each l.is_there in
      let at = all g r (subst (λ x. x < length flags) l.leads_from inside) in
      is_set n (⊎_elim (λ there. absurd (none_in n (subst (λ xs. Contains xs n) (p.none g at) there))) (λ met. met h) (p.on g n l))

module _ (links : List Link) where
  -- the first link, and what is left
  begins : (n c : ℕ) → LeadsOn links n c → (m : ℕ) × IsLinkedAtOnce links n m × ((c ≡ m) ⊎ LeadsOn links m c)
  begins n c (by_one link) = (c, link, inl refl)
  begins n c (by_more {h} p q) =
      let b = begins n h p in
      (b.0, b.1, inr (elim b.2 [ inl e ↦ subst (λ x. LeadsOn links x c) e q | inr on ↦ by_more on q ]))

  pub cycle_begins : (n : ℕ) → LeadsIntoCycle links n → (m : ℕ) × IsLinkedAtOnce links n m × LeadsIntoCycle links m
  cycle_begins n c =
      let from : LeadsOn links n c.on_cycle = elim c.leads [ inl e ↦ subst (λ x. LeadsOn links x c.on_cycle) e c.cycle | inr on ↦ on ] in
      let b = begins n c.on_cycle from in
      (b.0, b.1, record { on_cycle = c.on_cycle; leads = b.2; cycle = c.cycle })

  module _ (flags : List Bool) where
    pub cycle_inside : HasRoom links flags → (n : ℕ) → LeadsIntoCycle links n → n < length flags
    cycle_inside room n c =
        let b = cycle_begins n c in
        let h = All-contains (λ link. link.from < length flags) links b.1.link room.each b.1.is_there in
        subst (λ x. x < length flags) b.1.leads_from h

-- ---- the path

module _ (links : List Link) where
  chain_push : (l : List ℕ) (a b : ℕ) → IsChain links (l ++ a ∷ []) → IsLinkedAtOnce links a b → IsChain links ((l ++ a ∷ []) ++ b ∷ [])
  chain_push [] a b h link = (link, tt)
  chain_push (x ∷ []) a b h link = (h.0, (link, tt))
  chain_push (x ∷ y ∷ l) a b h link = (h.0, chain_push (y ∷ l) a b h.1 link)

  chain_pop : (l : List ℕ) (a : ℕ) → IsChain links (l ++ a ∷ []) → IsChain links l
  chain_pop [] a h = tt
  chain_pop (x ∷ []) a h = tt
  chain_pop (x ∷ y ∷ l) a h = (h.0, chain_pop (y ∷ l) a h.1)

  -- each number of the path leads on to the last one
  chain_leads : (l : List ℕ) (a m : ℕ) → IsChain links (l ++ a ∷ []) → Contains (l ++ a ∷ []) m → (a ≡ m) ⊎ LeadsOn links m a
  chain_leads [] a m h there = elim (contains_cases a m [] there) [ inl e ↦ inl e | inr bad ↦ absurd (none_in m bad) ]
  chain_leads (x ∷ []) a m h there = elim (contains_cases x m (a ∷ []) there) [
    | inl e ↦ inr (by_one (subst (λ k. IsLinkedAtOnce links k a) e h.0))
    | inr d ↦ chain_leads [] a m tt d
  ]
  chain_leads (x ∷ y ∷ l) a m h there = elim (contains_cases x m (y ∷ (l ++ a ∷ [])) there) [
    | inl e ↦ elim (chain_leads (y ∷ l) a y h.1 (contains_first y (l ++ a ∷ []))) [
      | inl last ↦ inr (subst (LeadsOn links m) (sym last) (by_one (subst (λ k. IsLinkedAtOnce links k y) e h.0)))
      | inr on ↦ inr (by_more (by_one (subst (λ k. IsLinkedAtOnce links k y) e h.0)) on)
    ]
    | inr d ↦ chain_leads (y ∷ l) a m h.1 d
  ]

begins_push : (start : ℕ) (l : List ℕ) (a b : ℕ) → BeginsWith start (l ++ a ∷ []) → BeginsWith start ((l ++ a ∷ []) ++ b ∷ [])
begins_push start [] a b h = h
begins_push start (x ∷ l) a b h = h

begins_pop : (start : ℕ) (l : List ℕ) (a : ℕ) → BeginsWith start (l ++ a ∷ []) → BeginsWith start l
begins_pop start [] a h = tt
begins_pop start (x ∷ l) a h = h

start_on : (start : ℕ) (l : List ℕ) (a : ℕ) → BeginsWith start (l ++ a ∷ []) → Contains (l ++ a ∷ []) start
start_on start [] a h = subst (Contains (a ∷ [])) h (contains_first a [])
start_on start (x ∷ l) a h = subst (Contains (x ∷ (l ++ a ∷ []))) h (contains_first x (l ++ a ∷ []))

-- ---- what is done

pub undone_inside : (done : List Bool) (n : ℕ) → is_done done n ≡ false → n < length done
undone_inside done n h =
    ⊎_elim (λ lt. lt) (λ ge. absurd (both_ways (is_done done n) h (get_or_past done n true ge))) (cases_lt n (length done))

-- ---- a step

module _ (links : List Link) (start : ℕ) (ways : Lists) (seen done : List Bool) (before : List ℕ) (n to : ℕ)
    (s : IsState links start ways seen done (before ++ n ∷ [])) where
  on_path : Contains (before ++ n ∷ []) n
  on_path = Contains-push before n

  pub last_within : n < length seen
  last_within = flag_inside seen n (s.is_seen n on_path)

  -- the link leads back to the path
  pub found : IsLinkedAtOnce links n to → flag seen to ≡ true → is_done done to ≡ false → LeadsIntoCycle links start
  found link at undone =
      let there : Contains (before ++ n ∷ []) to = elim (s.is_open to at) [ inl bad ↦ absurd (both_ways (is_done done to) undone bad) | inr p ↦ p ] in
      let cycle : LeadsOn links n n = elim (chain_leads links before n to s.chain there) [
        | inl e ↦ by_one (subst (IsLinkedAtOnce links n) (sym e) link)
        | inr on ↦ by_more (by_one link) on
      ] in
      record { on_cycle = n; leads = chain_leads links before n start s.chain (start_on start before n s.begins); cycle = cycle }

  -- no link is left
  pub left : listed ways n ≡ [] → IsState links start ways seen (set done n true) before
  left empty =
      let inside : n < length done = omega (arith, last_within, s.dones) in
      record {
        room = s.room;
        dones = length-set done n true ∙ s.dones;
        only = s.only;
        all = λ m h link. elim (s.all m h link) [
          | inl there ↦ inl there
          | inr d ↦ inr (elim (written true done n h true inside) [ inl w ↦ w.1 | inr w ↦ w.1 ∙ d ])
        ];
        none = λ m at c. elim (written true done n m true inside) [
          | inl w ↦ none_here (subst (LeadsIntoCycle links) w.0 c)
          | inr w ↦ s.none m (sym w.1 ∙ at) c
        ];
        is_open = λ m at. elim (s.is_open m at) [
          | inl d ↦ inl (elim (written true done n m true inside) [ inl w ↦ w.1 | inr w ↦ w.1 ∙ d ])
          | inr there ↦ elim (Contains-push_cases before n m there) [
            | inl p ↦ inr p
            | inr e ↦ inl (ap (is_done (set done n true)) (sym e) ∙ get_or-set_same done n true true inside)
          ]
        ];
        is_seen = λ m there. s.is_seen m (Contains-append_left before (n ∷ []) m there);
        chain = chain_pop links before n s.chain;
        begins = begins_pop start before n s.begins;
      }
    where
      none_here : LeadsIntoCycle links n → ⊥
      none_here c =
          let b = cycle_begins links n c in
          elim (s.all n b.0 b.1) [
            | inl there ↦ none_in b.0 (subst (λ l. Contains l b.0) empty there)
            | inr d ↦ s.none b.0 d b.2
          ]

  -- the last link leads to where no cycle is
  pub dropped : (v : Vec ℕ Global) → n < length ways → listed ways n ≡ v.items ++ to ∷ [] → is_done done to ≡ true →
      IsState links start (set ways n v) seen done (before ++ n ∷ [])
  dropped v lt is at = record {
    room = s.room;
    dones = s.dones;
    only = λ m h there. ⊎_elim
        (λ w. s.only m h (subst (λ k. Contains (listed ways k) h) (sym w.0) (subst (λ l. Contains l h) (sym is)
        (Contains-append_left v.items (to ∷ []) h (subst (λ l. Contains l h) w.1 there)))))
        (λ w. s.only m h (subst (λ l. Contains l h) w.1 there))
        (listed_cases ways n m v lt);
    all = λ m h link. ⊎_elim
        (λ there. ⊎_elim
        (λ w. ⊎_elim
        (λ p. inl (subst (λ l. Contains l h) (sym w.1) p))
        (λ q. inr (ap (is_done done) (sym q) ∙ at))
        (Contains-push_cases v.items to h (subst (λ l. Contains l h) (ap (listed ways) w.0 ∙ is) there)))
        (λ w. inl (subst (λ l. Contains l h) (sym w.1) there))
        (listed_cases ways n m v lt))
        (λ d. inr d)
        (s.all m h link);
    none = s.none;
    is_open = s.is_open;
    is_seen = s.is_seen;
    chain = s.chain;
    begins = s.begins;
  }

-- the search goes on to a number with a flag
pub entered : (links : List Link) (start : ℕ) (ways : Lists) (seen done : List Bool) (path : List ℕ) (to : ℕ) →
    IsState links start ways seen done path → to < length seen → IsChain links (path ++ to ∷ []) → BeginsWith start (path ++ to ∷ []) →
    IsState links start ways (set seen to true) done (path ++ to ∷ [])
entered links start ways seen done path to s lt chain begins = record {
  room = room_kept links seen (set seen to true) (sym (length-set seen to true)) s.room;
  dones = s.dones ∙ sym (length-set seen to true);
  only = s.only;
  all = s.all;
  none = s.none;
  is_open = λ m at. elim (written false seen to m true lt) [
    | inl w ↦ inr (subst (Contains (path ++ to ∷ [])) (sym w.0) (Contains-push path to))
    | inr w ↦ elim (s.is_open m (sym w.1 ∙ at)) [ inl d ↦ inl d | inr p ↦ inr (Contains-append_left path (to ∷ []) m p) ]
  ];
  is_seen = λ m there. elim (written false seen to m true lt) [
    | inl w ↦ w.1
    | inr w ↦ elim (Contains-push_cases path to m there) [ inl p ↦ w.1 ∙ s.is_seen m p | inr e ↦ absurd (w.0 (sym e)) ]
  ];
  chain = chain;
  begins = begins;
}

pub entered_on : (links : List Link) (start : ℕ) (ways : Lists) (seen done : List Bool) (before : List ℕ) (n to : ℕ) →
    IsState links start ways seen done (before ++ n ∷ []) → IsLinkedAtOnce links n to → to < length seen →
    IsState links start ways (set seen to true) done ((before ++ n ∷ []) ++ to ∷ [])
entered_on links start ways seen done before n to s link lt =
    entered links start ways seen done (before ++ n ∷ []) to s lt (chain_push links before n to s.chain link) (begins_push start before n to s.begins)

-- with nothing on the path the search may begin anywhere
pub anew : (links : List Link) (start other : ℕ) (ways : Lists) (seen done : List Bool) → IsState links start ways seen done [] →
    IsState links other ways seen done []
anew links start other ways seen done s = record {
  room = s.room;
  dones = s.dones;
  only = s.only;
  all = s.all;
  none = s.none;
  is_open = s.is_open;
  is_seen = s.is_seen;
  chain = tt;
  begins = tt;
}

-- it begins
pub entered_first : (links : List Link) (start : ℕ) (ways : Lists) (seen done : List Bool) → IsState links 0 ways seen done [] → start < length seen →
    IsState links start ways (set seen start true) done (start ∷ [])
entered_first links start ways seen done s lt = entered links start ways seen done [] start (anew links 0 start ways seen done s) lt tt refl

-- what is the same piece by piece
pub moved : (links : List Link) (start : ℕ) {ways w : Lists} {seen f done d : List Bool} {path p : List ℕ} → w ≡ ways → f ≡ seen → d ≡ done → p ≡ path →
    IsState links start ways seen done path → IsState links start w f d p
moved links start {ways} {w} {seen} {f} {done} {d} {path} {p} a b c e s =
    subst (λ x. IsState links start x f d p) (sym a)
    (subst (λ x. IsState links start ways x d p) (sym b)
    (subst (λ x. IsState links start ways seen x p) (sym c) (subst (λ x. IsState links start ways seen done x) (sym e) s)))

-- what was seen, and not done, stands on the path; with nothing there no cycle is reached
pub none_from : (links : List Link) (start : ℕ) (ways : Lists) (seen done : List Bool) (n : ℕ) → IsState links start ways seen done [] → flag seen n ≡ true →
    ¬ LeadsIntoCycle links n
none_from links start ways seen done n s at = elim (s.is_open n at) [ inl d ↦ s.none n d | inr bad ↦ absurd (none_in n bad) ]

-- ---- at first

pub room_all : (links : List Link) (seen : List Bool) (n : ℕ) → 0 < n → length seen ≡ n → All (λ link. link.from < n) links → HasRoom links seen
room_all links seen n some long all = record { whole = omega arith; each = λ k d lt. let h = all k d lt in omega arith }

pub first_state : (links : List Link) (ways : Lists) (seen done : List Bool) (n : ℕ) → HasRoom links seen → length seen ≡ n → AreWays true links ways →
    seen ≡ replicate n false → done ≡ replicate n false → IsState links 0 ways seen done []
first_state links ways seen done n room long w unseen undone = record {
  room = room;
  dones = ap length undone ∙ length-replicate n false ∙ sym long;
  only = ways_only true links ways w;
  all = λ m h l. inl (ways_all true links ways w m h l);
  none = λ m at c.
      let lt = cycle_inside links seen room m c in
      both_ways (is_done done m) (ap (λ l. is_done l m) undone ∙ get_or-replicate n m false true (omega arith)) at;
  is_open = λ m at. absurd (both_ways (flag seen m) (ap (λ l. flag l m) unseen ∙ no_flag n m) at);
  is_seen = λ m there. absurd (none_in m there);
  chain = tt;
  begins = tt;
}

-- ---- the least one that is reached

pub least_found : (links : List Link) (flags : List Bool) (n : ℕ) → AreReached links flags → flag flags n ≡ true → LeadsIntoCycle links n →
    ((m : ℕ) → m < n → flag flags m ≡ true → ¬ LeadsIntoCycle links m) → IsLeastIntoCycle links n
least_found links flags n a at leads none = record {
  reached = a.only n at;
  leads = leads;
  least = λ m lt r l. none m lt (a.all m r (cycle_inside links flags a.room m l)) l;
}

pub none_reached : (links : List Link) (flags : List Bool) (n : ℕ) → AreReached links flags → length flags ≤ n →
    ((m : ℕ) → m < n → flag flags m ≡ true → ¬ LeadsIntoCycle links m) → (m : ℕ) → IsReached links m → ¬ LeadsIntoCycle links m
none_reached links flags n a all none m r l =
    let lt = cycle_inside links flags a.room m l in none m (omega arith) (a.all m r lt) l

pub none_further : (links : List Link) (flags : List Bool) (n : ℕ) → ((m : ℕ) → m < n → flag flags m ≡ true → ¬ LeadsIntoCycle links m) →
    (flag flags n ≡ true → ¬ LeadsIntoCycle links n) → (m : ℕ) → m < n + 1 → flag flags m ≡ true → ¬ LeadsIntoCycle links m
none_further links flags n none here m lt at l = elim (cases_eq m n) [
  | inl e ↦ here (ap (flag flags) (sym e) ∙ at) (subst (LeadsIntoCycle links) e l)
  | inr ne ↦ none m (omega arith) at l
]
