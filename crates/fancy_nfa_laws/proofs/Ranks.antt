-- A number that gets lower with each step that stays at the same place.
use Rattle.std.proofs.Common.{◌≡◌, ℕ, zero, suc, ◌+◌, ◌-◌, ◌*◌, ◌<◌, ◌≤◌, Bool, true, false, ◌&&◌, ◌||◌, not, if◌then◌else◌, List, [], ◌∷◌, Option, Some, None, ◌==◌, nat_lt, IfSome, inl, inr, ⊎_elim, refl, sym, ap, ◌∙◌, arith, eq-eqb, mul-le-mul, le_refl, add-mul}
use Rattle.std.proofs.lemmas.Bool.{cases_Bool, cases_lt, or_left, or_right, or_parts, lt-ltb, le-ltb, ne_eqb, both_ways, false≢true}
use Rattle.fancy_meaning.specs.Tree.{Tree, Trees, none, more, Empty, Any, Assert, Literal, Delegate, Concat, Alt, Group, Repeat, DefineGroup}
use Rattle.fancy_meaning.specs.Options.{Analysis}
use Rattle.fancy_meaning.specs.Sizes.{size}
use Rattle.fancy_meaning.specs.WellFormed.{IsFine}
use Rattle.fancy_meaning.specs.Constructs.{loop_form}
use Rattle.fancy_delegation.proofs.EasyNodes.{easy_concat, easy_alt}
use Rattle.fancy_nfa_laws.specs.NfaStates.{Loop}
use Rattle.fancy_nfa_laws.specs.NfaCode.{a_loop}
use Rattle.fancy_nfa_laws.specs.NfaSearch.{LoopCounter, has_stayed, is_last, is_over, next_counter}
use Rattle.fancy_nfa_laws.proofs.Tasks.{Task, Takes, Asserts, Opens, Closes, Chooses, May, Stars, StartsPlus, Counts, Iterates, Jumps, Joins, may_be_empty, with_loop, with_node, with_nodes, with_branches, TakesSomething, IsEasy, AreAllEasy, LoopFits, CountFits, SinceFits}
use Rattle.fancy_nfa_laws.proofs.TaskWays.{each_easy}
use Rattle.fancy_nfa_laws.proofs.CounterWays.{before_last, past_last}
use Rattle.fancy_nfa_laws.proofs.NodesMove.{none_of_sum, none_of_either, none_of_times}

abbrev pub only_if : Bool → ℕ → ℕ
only_if b n = if b then n else 0

-- how many iterations may begin at one place
abbrev pub most_counters : ℕ → Option ℕ → ℕ
most_counters lo None = lo + 1
most_counters lo (Some hi) = hi

-- how many more, after those before this one
abbrev pub counters_left : ℕ → Option ℕ → ℕ → LoopCounter → ℕ
counters_left lo None place t = lo - t.count + only_if (not (has_stayed place t.since)) 1
counters_left lo (Some hi) place t = hi - t.count

-- more than the steps that a node takes at one place
abbrev mutual
  pub height : Tree → ℕ
  height (Any newline crlf) = 1
  height (Literal c casei) = 1
  height (Delegate inner casei) = 1
  height (Assert within x) = 1
  height (Concat es) = heights es
  height (Alt es) = 1 + heights es
  height (Group g e) = 2 + height e
  height (Repeat lo hi greedy e) = 3 + most_counters lo hi * (2 + height e)
  height e = 0

  pub heights : Trees → ℕ
  heights none = 0
  heights (more e es) = 2 + height e + heights es

module _ (a : Analysis) where
  -- of a task alone
  abbrev pub own_rank : Task → (place : ℕ) → ℕ
  own_rank (Takes test) place = 1
  own_rank (Asserts x) place = 1
  own_rank (Opens g e) place = 2 + height e
  own_rank (Closes g from) place = 1
  own_rank (Chooses is_first e es) place = 2 + height e + heights es
  own_rank (May greedy e) place = 1 + height e
  own_rank (Stars greedy e) place = 1 + height e
  own_rank (StartsPlus greedy e) place = 1 + height e
  own_rank (Counts loop e) place = 2 + most_counters loop.lo loop.hi * (2 + height e)
  own_rank (Iterates loop e t) place = 1 + counters_left loop.lo loop.hi place t * (2 + height e)
  own_rank Jumps place = 1
  own_rank Joins place = 1

  -- the task may be done with nothing taken
  abbrev pub may_stay : Task → Bool
  may_stay (Takes test) = false
  may_stay (Opens g e) = may_be_empty a e
  may_stay (Chooses is_first e es) = may_be_empty a (Alt (more e es))
  may_stay (StartsPlus greedy e) = false
  may_stay (Counts loop e) = may_be_empty a e || not (nat_lt 0 loop.lo)
  may_stay (Iterates loop e t) = may_be_empty a e || not (nat_lt t.count loop.lo)
  may_stay t = true

  -- up to the first task that takes something
  abbrev pub rank : List Task → (place : ℕ) → ℕ
  rank [] place = 0
  rank (t ∷ ts) place = own_rank t place + only_if (may_stay t) (rank ts place)

-- ---- nodes

only_if_one_more : (b : Bool) (r : ℕ) → only_if b (1 + r) ≤ 1 + only_if b r
only_if_one_more true r = omega arith
only_if_one_more false r = omega arith

pub only_if_at_most : (b : Bool) (r : ℕ) → only_if b r ≤ r
only_if_at_most true r = omega arith
only_if_at_most false r = omega arith

only_if_weaker : (b c : Bool) (r : ℕ) → (b ≡ true → c ≡ true) → only_if b r ≤ only_if c r
only_if_weaker true c r h = omega (arith, ap (λ v. only_if v r) (h refl))
only_if_weaker false c r h = omega arith

module _ (a : Analysis) (place : ℕ) where
  -- no iteration is required
  not_required : (lo : ℕ) → (lo == 0) ≡ not (nat_lt 0 lo)
  not_required lo = elim (cases_lt 0 lo) [
    | inl lt ↦ ne_eqb lo 0 (λ e. omega (arith, e, lt)) ∙ sym (ap not (lt-ltb 0 lo lt))
    | inr le ↦ eq-eqb lo 0 (omega (arith, le)) ∙ sym (ap not (le-ltb 0 lo le))
  ]

  -- a loop may take nothing where its body may, or where no iteration is required
  loop_empty : (lo : ℕ) (hi : Option ℕ) (greedy : Bool) (e : Tree) →
      may_be_empty a (Repeat lo hi greedy e) ≡ may_be_empty a e || not (nat_lt 0 lo)
  loop_empty lo hi greedy e = none_of_times (size a.tree e).least lo ∙ ap (λ v. may_be_empty a e || v) (not_required lo)

  no_iteration : (hi : Option ℕ) (greedy : Bool) (e : Tree) → may_be_empty a (Repeat 0 hi greedy e) ≡ true
  no_iteration hi greedy e = loop_empty 0 hi greedy e ∙ or_right (may_be_empty a e) true refl

  stays_in : (b : Bool) (n k r : ℕ) → b ≡ true → n ≤ k + r → n ≤ k + only_if b r
  stays_in b n k r e le = let same = ap (λ v. only_if v r) e in omega (arith, same, le)

  counted_in : (b c : Bool) (w r : ℕ) → c ≡ b → 2 + w + only_if b (1 + r) ≤ 3 + w + only_if c r
  counted_in b c w r e =
      let same = ap (λ v. only_if v r) e in
      let one = only_if_one_more b r in
      omega (arith, same, one)

  -- the rank of a node's tasks is at most its height, and that of those after it where the node may take nothing
  abbrev IsWithin : (List Task → List Task) → Tree → Type 0
  IsWithin with_it e = (ts : List Task) → rank a (with_it ts) place ≤ height e + only_if (may_be_empty a e) (rank a ts place)

  loop_rank : (lo : ℕ) (hi : Option ℕ) (greedy : Bool) (e : Tree) (v : Bool) → IfSome hi (λ n. lo ≤ n) →
      IsWithin (with_loop a greedy e (with_node a e) (loop_form lo hi v)) (Repeat lo hi greedy e)
  loop_rank (suc lo) (Some zero) greedy e v le ts = absurd (omega (arith, le))
  loop_rank zero (Some zero) greedy e v le ts = stays_in _ _ _ _ (no_iteration (Some 0) greedy e) (omega arith)
  loop_rank zero (Some (suc zero)) greedy e v le ts = stays_in _ _ _ _ (no_iteration (Some 1) greedy e) (omega arith)
  loop_rank zero (Some (suc (suc hi))) greedy e v le ts = counted_in _ _ _ _ (loop_empty 0 (Some (suc (suc hi))) greedy e)
  loop_rank (suc lo) (Some (suc hi)) greedy e v le ts = counted_in _ _ _ _ (loop_empty (suc lo) (Some (suc hi)) greedy e)
  loop_rank lo None greedy e true le ts = counted_in _ _ _ _ (loop_empty lo None greedy e)
  loop_rank zero None greedy e false le ts = stays_in _ _ _ _ (no_iteration None greedy e) (omega arith)
  loop_rank (suc zero) None greedy e false le ts = omega arith
  loop_rank (suc (suc lo)) None greedy e false le ts = counted_in _ _ _ _ (loop_empty (suc (suc lo)) None greedy e)

  each_within : (b c d : Bool) (n y h k r : ℕ) → d ≡ b && c → n ≤ h + only_if b y → y ≤ k + only_if c r →
      n ≤ 2 + h + k + only_if d r
  each_within true c d n y h k r e le rest = let same = ap (λ v. only_if v r) e in omega (arith, same, le, rest)
  each_within false c d n y h k r e le rest = omega (arith, le)

  mutual
    -- a node's tasks before others
    pub node_rank : (e : Tree) → IsEasy a e → IsWithin (with_node a e) e
    node_rank Empty h ts = omega arith
    node_rank (DefineGroup e) h ts = omega arith
    node_rank (Any newline crlf) h ts = omega arith
    node_rank (Literal c casei) h ts = omega arith
    node_rank (Delegate inner casei) h ts = omega arith
    node_rank (Assert within x) h ts = omega arith
    node_rank (Group g e) h ts = omega arith
    node_rank (Concat es) h ts = nodes_rank es (easy_concat a es h.0, (h.1).1) ts
    node_rank (Alt es) h ts =
        let le = branches_rank true es (easy_alt a es h.0, (h.1).1) (Joins ∷ ts) in
        let one = only_if_one_more (may_be_empty a (Alt es)) (rank a ts place) in
        omega (arith, le, one)
    node_rank (Repeat lo hi greedy e) h ts =
        loop_rank lo hi greedy e (may_be_empty a e) (bounds hi (h.1).0) ts
      where
        bounds : (o : Option ℕ) → IsFine (Repeat lo o greedy e) → IfSome o (λ n. lo ≤ n)
        bounds None fine = tt
        bounds (Some n) fine = fine.1.0
    node_rank e h ts = cc

    nodes_rank : (es : Trees) → AreAllEasy a es → IsWithin (with_nodes a es) (Concat es)
    nodes_rank none h ts = omega arith
    nodes_rank (more e es) h ts =
        let parts = each_easy a e es h in
        each_within (may_be_empty a e) (may_be_empty a (Concat es)) (may_be_empty a (Concat (more e es))) _ _ _ _ _
        (none_of_sum (size a.tree e).least (size a.tree (Concat es)).least)
        (node_rank e parts.0 (with_nodes a es ts)) (nodes_rank es parts.1 ts)

    pub branches_rank : (is_first : Bool) (es : Trees) → AreAllEasy a es → (ts : List Task) →
        rank a (with_branches a is_first es ts) place ≤ heights es + only_if (may_be_empty a (Alt es)) (rank a ts place)
    branches_rank is_first none h ts = omega arith
    branches_rank is_first (more e none) h ts = let le = node_rank e (each_easy a e none h).0 ts in omega (arith, le)
    branches_rank is_first (more e (more f es)) h ts = omega arith

  -- before a task of rank 1 that takes nothing
  pub rank_before : (e : Tree) (us : List Task) (r : ℕ) → IsEasy a e → rank a us place ≡ 1 + r →
      rank a (with_node a e us) place ≤ 1 + height e + only_if (may_be_empty a e) r
  rank_before e us r h same =
      let le = node_rank e h us in
      let one = only_if_one_more (may_be_empty a e) r in
      let all = ap (only_if (may_be_empty a e)) same in
      omega (arith, le, one, all)

  -- a body that takes something
  pub moving_rank : (e : Tree) (us : List Task) → IsEasy a e → TakesSomething a e → rank a (with_node a e us) place ≤ height e
  moving_rank e us h some =
      let le = node_rank e h us in
      let none = ap (λ v. only_if v (rank a us place)) some in
      omega (arith, le, none)

  first_or_later : (e f : Tree) (es : Trees) →
      may_be_empty a (Alt (more e (more f es))) ≡ may_be_empty a e || may_be_empty a (Alt (more f es))
  first_or_later e f es = none_of_either (size a.tree e).least (size a.tree (Alt (more f es))).least

  -- the first branch, and the later ones
  pub branch_rank : (is_first : Bool) (e f : Tree) (es : Trees) (ts : List Task) → IsEasy a e →
      rank a (with_node a e (Jumps ∷ ts)) place < rank a (Chooses is_first e (more f es) ∷ ts) place
  branch_rank is_first e f es ts h =
      let le = rank_before e (Jumps ∷ ts) (rank a ts place) h refl in
      let weaker = only_if_weaker (may_be_empty a e) (may_be_empty a (Alt (more e (more f es)))) (rank a ts place)
      (λ z. first_or_later e f es ∙ or_left (may_be_empty a e) (may_be_empty a (Alt (more f es))) z) in
      omega (arith, le, weaker)

  pub later_rank : (is_first : Bool) (e f : Tree) (es : Trees) (ts : List Task) → AreAllEasy a (more f es) →
      rank a (with_branches a false (more f es) ts) place < rank a (Chooses is_first e (more f es) ∷ ts) place
  later_rank is_first e f es ts h =
      let le = branches_rank false (more f es) h ts in
      let weaker = only_if_weaker (may_be_empty a (Alt (more f es))) (may_be_empty a (Alt (more e (more f es)))) (rank a ts place)
      (λ z. first_or_later e f es ∙ or_right (may_be_empty a e) (may_be_empty a (Alt (more f es))) z) in
      omega (arith, le, weaker)

-- ---- at the head of a loop

module _ (a : Analysis) (e : Tree) where
  over_may_stay : (lo : ℕ) (hi : Option ℕ) (greedy asks : Bool) (count : ℕ) (since : Option ℕ) (place : ℕ) →
      LoopFits a (a_loop lo hi greedy asks) e → SinceFits a (a_loop lo hi greedy asks) since place →
      has_stayed place since || is_last hi count ≡ true →
      may_be_empty a e || not (nat_lt count lo) ≡ true
  over_may_stay lo None greedy true count since place fits asked over = or_left (may_be_empty a e) _ fits
  over_may_stay lo None greedy false count None place fits asked over = absurd (false≢true over)
  over_may_stay lo None greedy false count (Some since) place fits asked over = absurd (false≢true asked.1)
  over_may_stay lo (Some hi) greedy true count since place fits asked over = absurd fits
  over_may_stay lo (Some hi) greedy false count (Some since) place fits asked over = absurd (false≢true asked.1)
  over_may_stay lo (Some hi) greedy false count None place fits asked over =
      let last = past_last hi count over in
      or_right (may_be_empty a e) _ (ap not (le-ltb count lo (omega (arith, last, fits))))

  -- one more can begin here
  some_counter : (lo : ℕ) (hi : Option ℕ) (greedy asks : Bool) (t : LoopCounter) (place : ℕ) →
      CountFits a (a_loop lo hi greedy asks) hi t.count → is_over (a_loop lo hi greedy asks) place t ≡ false →
      1 ≤ counters_left lo hi place t
  some_counter lo None greedy asks t place counts goes =
      let same = ap (λ v. only_if (not v) 1) (or_parts (has_stayed place t.since) false goes).0 in omega (arith, same)
  some_counter lo (Some hi) greedy asks t place counts goes =
      let lt = before_last hi t.count (or_parts (has_stayed place t.since) (is_last (Some hi) t.count) goes).1 in
      omega (arith, lt, counts)

  -- and after it one less, where it moved nothing
  fewer_counters : (lo : ℕ) (hi : Option ℕ) (greedy asks : Bool) (t : LoopCounter) (place : ℕ) →
      LoopFits a (a_loop lo hi greedy asks) e → CountFits a (a_loop lo hi greedy asks) hi t.count →
      is_over (a_loop lo hi greedy asks) place t ≡ false → may_be_empty a e ≡ true →
      counters_left lo hi place (next_counter (a_loop lo hi greedy asks) place t) + 1 ≤ counters_left lo hi place t
  fewer_counters lo None greedy true t place fits counts goes empty =
      let same = ap (λ v. only_if (not v) 1) (or_parts (has_stayed place t.since) false goes).0 in
      ⊎_elim
      (λ (lt : t.count < lo).
      let one = only_if_at_most (not (has_stayed place (next_counter (a_loop lo None greedy true) place t).since)) 1 in
      omega (arith, same, lt, one))
      (λ (le : lo ≤ t.count).
      let stayed : has_stayed place (next_counter (a_loop lo None greedy true) place t).since ≡ true =
      ap (λ v. has_stayed place (if not v then Some place else None)) (le-ltb t.count lo le) ∙ eq-eqb place place refl in
      let none = ap (λ v. only_if (not v) 1) stayed in
      omega (arith, same, le, none))
      (cases_lt t.count lo)
  fewer_counters lo None greedy false t place fits counts goes empty = absurd (both_ways (may_be_empty a e) fits empty)
  fewer_counters lo (Some hi) greedy true t place fits counts goes empty = absurd fits
  fewer_counters lo (Some hi) greedy false t place fits counts goes empty =
      let lt = before_last hi t.count (or_parts (has_stayed place t.since) (is_last (Some hi) t.count) goes).1 in
      omega (arith, lt, counts)

  times_more : (n m k : ℕ) → n + 1 ≤ m → n * k + k ≤ m * k
  times_more n m k le =
      let all : (n + 1) * k ≤ m * k = mul-le-mul le (le_refl k) in
      omega (arith, all, add-mul n 1 k)

  -- into a further iteration
  pub counter_rank : (loop : Loop) (t : LoopCounter) (ts : List Task) (place : ℕ) → IsEasy a e → LoopFits a loop e →
      CountFits a loop loop.hi t.count → is_over loop place t ≡ false →
      rank a (with_node a e (Jumps ∷ Iterates loop e (next_counter loop place t) ∷ ts)) place < rank a (Iterates loop e t ∷ ts) place
  counter_rank loop t ts place h fits counts goes = elim (cases_Bool (may_be_empty a e)) [
    | inl empty ↦
        let after = next_counter loop place t in
        let in_node = node_rank a place e h (Jumps ∷ Iterates loop e after ∷ ts) in
        let whole = ap (λ v. only_if v (rank a (Jumps ∷ Iterates loop e after ∷ ts) place)) empty in
        let fewer = times_more (counters_left loop.lo loop.hi place after) (counters_left loop.lo loop.hi place t) (2 + height e)
        (fewer_counters loop.lo loop.hi loop.greedy loop.asks_moved t place fits counts goes empty) in
        let rest = only_if_at_most (may_stay a (Iterates loop e after)) (rank a ts place) in
        let same = ap (λ v. only_if v (rank a ts place)) (or_left (may_be_empty a e) (not (nat_lt t.count loop.lo)) empty) in
        omega (arith, in_node, whole, fewer, rest, same)
    | inr some ↦
        let in_node = node_rank a place e h (Jumps ∷ Iterates loop e (next_counter loop place t) ∷ ts) in
        let none = ap (λ v. only_if v (rank a (Jumps ∷ Iterates loop e (next_counter loop place t) ∷ ts) place)) some in
        let one = times_more 0 (counters_left loop.lo loop.hi place t) (2 + height e)
        (some_counter loop.lo loop.hi loop.greedy loop.asks_moved t place counts goes) in
        omega (arith, in_node, none, one)
  ]

  -- out of the loop
  pub over_rank : (loop : Loop) (t : LoopCounter) (ts : List Task) (place : ℕ) → LoopFits a loop e → SinceFits a loop t.since place →
      is_over loop place t ≡ true → rank a ts place < rank a (Iterates loop e t ∷ ts) place
  over_rank loop t ts place fits asked over =
      let same = ap (λ v. only_if v (rank a ts place))
      (over_may_stay loop.lo loop.hi loop.greedy loop.asks_moved t.count t.since place fits asked over) in
      omega (arith, same)

  pub past_rank : (loop : Loop) (t : LoopCounter) (ts : List Task) (place : ℕ) → nat_lt t.count loop.lo ≡ false →
      rank a ts place < rank a (Iterates loop e t ∷ ts) place
  past_rank loop t ts place past =
      let same = ap (λ v. only_if v (rank a ts place)) (or_right (may_be_empty a e) _ (ap not past)) in
      omega (arith, same)

  pub first_counter_rank : (loop : Loop) (ts : List Task) (place : ℕ) →
      rank a (Iterates loop e (record { count = 0; since = None }) ∷ ts) place < rank a (Counts loop e ∷ ts) place
  first_counter_rank loop ts place = go loop.hi
    where
      go : (hi : Option ℕ) →
          1 + counters_left loop.lo hi place (record { count = 0; since = None }) * (2 + height e)
          + only_if (may_be_empty a e || not (nat_lt 0 loop.lo)) (rank a ts place)
          < 2 + most_counters loop.lo hi * (2 + height e)
          + only_if (may_be_empty a e || not (nat_lt 0 loop.lo)) (rank a ts place)
      go None = let same = ap (λ n. (n + 1) * (2 + height e)) (let z : loop.lo - 0 ≡ loop.lo = omega arith in z) in omega (arith, same)
      go (Some hi) = let same = ap (λ n. n * (2 + height e)) (let z : hi - 0 ≡ hi = omega arith in z) in omega (arith, same)
