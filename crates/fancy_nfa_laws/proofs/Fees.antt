-- The fee of each memoized state: what taking it up costs, and in which counters of the loops around it can be.
use Rattle.std.proofs.Common.{◌≡◌, ◌≤◌, ℕ, zero, suc, ◌+◌, ◌*◌, Bool, true, false, List, [], ◌∷◌, ◌++◌, length, map, Option, Some, None, if◌then◌else◌, sum_by, refl, ap, subst, ◌∙◌, arith, length-append}
use Rattle.std.proofs.lemmas.List.{length-map}
use Rattle.std.proofs.lemmas.List.Sums.{sum_by-cons}
use Rattle.fancy_meaning.specs.Tree.{Tree, Trees, none, more, Any, Assert, Literal, Delegate, Concat, Alt, Group, Repeat}
use Rattle.fancy_meaning.specs.Places.{range_from}
use Rattle.fancy_meaning.specs.Options.{Analysis}
use Rattle.fancy_meaning.specs.Constructs.{LoopForm, Never, AtMostOnce, Epsilon, Star, Plus, Counted, loop_form}
use Rattle.fancy_meaning.specs.FragmentStates.{states, states_of_each, fragment_states}
use Rattle.fancy_nfa_laws.specs.NfaStates.{Loop}
use Rattle.fancy_nfa_laws.specs.NfaCode.{a_loop}
use Rattle.fancy_nfa_laws.proofs.Tasks.{may_be_empty, tasks_of}
use Rattle.fancy_nfa_laws.proofs.Weights.{cost, weigh, weigh_each, weigh_branches, weigh_loop, weight, weight_node}

-- how many iterations were begun, and whether this one is to move and has not
abbrev pub Key : Type 0
Key = ℕ × Bool

abbrev pub as_key : Bool → ℕ → Key
as_key stayed count = (count, stayed)

abbrev pub most_count : Loop → Option ℕ → ℕ
most_count loop None = loop.lo
most_count loop (Some hi) = hi

abbrev pub keys_with : Loop → Bool → List Key
keys_with loop stayed = map (as_key stayed) (range_from 0 (most_count loop loop.hi + 1))

-- what a loop that counts tells apart
abbrev pub keys_of : Loop → List Key
keys_of loop = keys_with loop false ++ (if loop.asks_moved then keys_with loop true else [])

pub record Fee : Type 0 where
  -- of each loop around that counts what it tells apart, the innermost first
  pub around : List (List Key)
  -- how many states one taking up costs
  pub charge : ℕ

abbrev pub fee_with : List (List Key) → ℕ → Option Fee
fee_with cs w = Some (record { around = cs; charge = w })

-- in how many counters of the loops around
abbrev pub ways_around : List (List Key) → ℕ
ways_around [] = 1
ways_around (ks ∷ cs) = length ks * ways_around cs

abbrev pub share : Option Fee → ℕ
share None = 0
share (Some n) = ways_around n.around * n.charge

abbrev pub total : List (Option Fee) → ℕ
total [] = 0
total (n ∷ ns) = share n + total ns

-- fees, by the loops around and by the weight of what follows
abbrev pub FeesCode : Type 0
FeesCode = List (List Key) → ℕ → List (Option Fee)

abbrev pub group_fees : FeesCode → FeesCode
group_fees body cs x = None ∷ (body cs x ++ (None ∷ []))

abbrev pub may_fees : FeesCode → FeesCode
may_fees body cs x = None ∷ body cs x

abbrev pub choice_fees : FeesCode → FeesCode → FeesCode
choice_fees first others cs x = None ∷ (first cs x ++ (None ∷ others cs x))

-- at the head of a loop over a body of this weight
abbrev pub star_fees : (ℕ → ℕ) → FeesCode → FeesCode
star_fees w body cs x = fee_with cs (1 + w 0 + x) ∷ (body cs 0 ++ (None ∷ []))

abbrev pub plus_fees : (ℕ → ℕ) → FeesCode → FeesCode
plus_fees w body cs x = None ∷ star_fees w body cs x

abbrev pub counter_fees : Loop → (ℕ → ℕ) → FeesCode → FeesCode
counter_fees loop w body cs x = fee_with (keys_of loop ∷ cs) (1 + w 0 + x) ∷ (body (keys_of loop ∷ cs) 0 ++ (None ∷ []))

abbrev pub count_fees : Loop → (ℕ → ℕ) → FeesCode → FeesCode
count_fees loop w body cs x = None ∷ counter_fees loop w body cs x

abbrev pub with_join : FeesCode → FeesCode
with_join before cs x = before cs 0 ++ (fee_with cs x ∷ [])

abbrev pub loop_fees : Bool → (ℕ → ℕ) → FeesCode → LoopForm → FeesCode
loop_fees greedy w body Never cs x = []
loop_fees greedy w body AtMostOnce cs x = with_join (may_fees body) cs x
loop_fees greedy w body (Epsilon lo) cs x = with_join (count_fees (a_loop lo None greedy true) w body) cs x
loop_fees greedy w body Star cs x = star_fees w body cs x
loop_fees greedy w body Plus cs x = plus_fees w body cs x
loop_fees greedy w body (Counted lo hi) cs x = with_join (count_fees (a_loop lo hi greedy false) w body) cs x

module _ (a : Analysis) where
  abbrev mutual
    pub node_fees : Tree → FeesCode
    node_fees (Any newline crlf) cs x = None ∷ []
    node_fees (Literal c casei) cs x = None ∷ []
    node_fees (Delegate inner casei) cs x = None ∷ []
    node_fees (Assert within t) cs x = None ∷ []
    node_fees (Concat es) cs x = each_fees es cs x
    node_fees (Alt es) cs x = branch_fees es cs 0 ++ (fee_with cs x ∷ [])
    node_fees (Group g e) cs x = group_fees (node_fees e) cs x
    node_fees (Repeat lo hi greedy e) cs x =
        loop_fees greedy (weigh a e) (node_fees e) (loop_form lo hi (may_be_empty a e)) cs x
    node_fees e cs x = []

    pub each_fees : Trees → FeesCode
    each_fees none cs x = []
    each_fees (more e es) cs x = node_fees e cs (weigh_each a es x) ++ each_fees es cs x

    pub branch_fees : Trees → FeesCode
    branch_fees none cs x = []
    branch_fees (more e none) cs x = node_fees e cs x
    branch_fees (more e (more f es)) cs x = choice_fees (node_fees e) (branch_fees (more f es)) cs x

  -- of neighbouring nodes, and of what is behind them
  abbrev pub nodes_fees : List Tree → List (Option Fee)
  nodes_fees [] = None ∷ []
  nodes_fees (e ∷ es) = node_fees e [] (weight a (tasks_of a es)) ++ nodes_fees es

-- ---- the sum over all fees

total-append : (ns ks : List (Option Fee)) → total (ns ++ ks) ≡ total ns + total ks
total-append [] ks = omega arith
total-append (n ∷ ns) ks = let rest = total-append ns ks in omega (arith, rest)

length-range : (i n : ℕ) → length (range_from i n) ≡ n
length-range i zero = refl
length-range i (suc n) = ap suc (length-range (suc i) n)

length-keys_with : (loop : Loop) (stayed : Bool) → length (keys_with loop stayed) ≡ most_count loop loop.hi + 1
length-keys_with loop stayed =
    length-map (range_from 0 (most_count loop loop.hi + 1)) (as_key stayed) ∙ length-range 0 (most_count loop loop.hi + 1)

-- as many as `loop_counts` says
pub counts_asking : (lo : ℕ) (greedy : Bool) → length (keys_of (a_loop lo None greedy true)) ≡ 2 * (lo + 1)
counts_asking lo greedy =
    let loop = a_loop lo None greedy true in
    let both = length-append (keys_with loop false) (keys_with loop true) in
    let one = length-keys_with loop false in
    let other = length-keys_with loop true in
    omega (arith, both, one, other)

pub counts_plain : (lo : ℕ) (hi : Option ℕ) (greedy : Bool) →
    length (keys_of (a_loop lo hi greedy false)) ≡ most_count (a_loop lo hi greedy false) hi + 1
counts_plain lo hi greedy =
    let loop = a_loop lo hi greedy false in
    let both = length-append (keys_with loop false) [] in
    let one = length-keys_with loop false in
    omega (arith, both, one)

-- a body whose fees, and what it weighs in so many counters, are within its states and what follows
abbrev pub Bounds : (ℕ → ℕ) → FeesCode → ℕ → Type 0
Bounds w body n =
    (cs : List (List Key)) (x : ℕ) → total (body cs x) + ways_around cs * w x ≤ ways_around cs * (n + x)

star_bounds : (w : ℕ → ℕ) (body : FeesCode) (n : ℕ) → Bounds w body n → (cs : List (List Key)) (x : ℕ) →
    total (star_fees w body cs x) ≤ ways_around cs * (1 + n + x)
star_bounds w body n h cs x =
    let sum = total-append (body cs 0) (None ∷ []) in
    let le = h cs 0 in
    omega (arith, sum, le)

may_bounds : (w : ℕ → ℕ) (body : FeesCode) (n : ℕ) → Bounds w body n → Bounds (weigh_loop w AtMostOnce) (with_join (may_fees body)) (1 + n)
may_bounds w body n h cs x =
    let sum = total-append (may_fees body cs 0) (fee_with cs x ∷ []) in
    let le = h cs 0 in
    omega (arith, sum, le)

count_sum : (l p w x t n all : ℕ) → t + l * p * w ≤ l * p * (n + 0) → all ≡ (l * p * (1 + w + 0) + t) + p * x →
    all + p * 1 ≤ p * (1 + l * (1 + n) + x)
count_sum l p w x t n all le is = omega (arith, le, is)

count_total : (h t u y : ℕ) → t ≡ u + (0 + 0) → (0 + (h + t)) + (y + 0) ≡ (h + u) + y
count_total h t u y e = omega (arith, e)

count_bounds : (loop : Loop) (w : ℕ → ℕ) (body : FeesCode) (n counts : ℕ) → length (keys_of loop) ≡ counts → Bounds w body n →
    Bounds (λ x. 1) (with_join (count_fees loop w body)) (1 + counts * (1 + n))
count_bounds loop w body n counts e h cs x =
    let sum = total-append (count_fees loop w body cs 0) (fee_with cs x ∷ []) in
    let inner = total-append (body (keys_of loop ∷ cs) 0) (None ∷ []) in
    let is : total (with_join (count_fees loop w body) cs x)
    ≡ (length (keys_of loop) * ways_around cs * (1 + w 0 + 0) + total (body (keys_of loop ∷ cs) 0)) + ways_around cs * x =
    sum ∙ count_total (length (keys_of loop) * ways_around cs * (1 + w 0 + 0))
    (total (body (keys_of loop ∷ cs) 0 ++ None ∷ [])) (total (body (keys_of loop ∷ cs) 0)) (ways_around cs * x) inner in
    subst (λ c. total (with_join (count_fees loop w body) cs x) + ways_around cs * 1 ≤ ways_around cs * (1 + c * (1 + n) + x)) e
    (count_sum (length (keys_of loop)) (ways_around cs) (w 0) x (total (body (keys_of loop ∷ cs) 0)) n
    (total (with_join (count_fees loop w body) cs x)) (h (keys_of loop ∷ cs) 0) is)

abbrev counts_by : ℕ → Option ℕ → Bool → ℕ
counts_by lo (Some hi) may_be_empty = hi + 1
counts_by lo None may_be_empty = if may_be_empty then 2 * (lo + 1) else lo + 1

loop_bounds : (w : ℕ → ℕ) (body : FeesCode) (n : ℕ) (greedy : Bool) → Bounds w body n → (lo : ℕ) (hi : Option ℕ) (b : Bool) →
    Bounds (weigh_loop w (loop_form lo hi b)) (loop_fees greedy w body (loop_form lo hi b)) (1 + counts_by lo hi b * (1 + n))
loop_bounds w body n greedy h lo (Some zero) b cs x = omega arith
loop_bounds w body n greedy h zero (Some (suc zero)) b cs x =
    let le = may_bounds w body n h cs x in omega (arith, le)
loop_bounds w body n greedy h lo None true cs x =
    count_bounds (a_loop lo None greedy true) w body n (2 * (lo + 1)) (counts_asking lo greedy) h cs x
loop_bounds w body n greedy h zero None false cs x = let le = star_bounds w body n h cs x in omega (arith, le)
loop_bounds w body n greedy h (suc zero) None false cs x =
    let le = star_bounds w body n h cs x in
    let once = h cs 0 in
    omega (arith, le, once)
loop_bounds w body n greedy h (suc (suc lo)) None false cs x =
    count_bounds (a_loop (suc (suc lo)) None greedy false) w body n (suc (suc lo) + 1)
    (counts_plain (suc (suc lo)) None greedy) h cs x
loop_bounds w body n greedy h zero (Some (suc (suc hi))) b cs x =
    count_bounds (a_loop zero (Some (suc (suc hi))) greedy false) w body n (suc (suc hi) + 1)
    (counts_plain zero (Some (suc (suc hi))) greedy) h cs x
loop_bounds w body n greedy h (suc lo) (Some (suc hi)) b cs x =
    count_bounds (a_loop (suc lo) (Some (suc hi)) greedy false) w body n (suc hi + 1)
    (counts_plain (suc lo) (Some (suc hi)) greedy) h cs x

module _ (a : Analysis) where
  mutual
    pub node_bounds : (e : Tree) → Bounds (weigh a e) (node_fees a e) (states a.tree e)
    node_bounds (Concat es) cs x = let le = each_bounds es cs x in omega (arith, le)
    node_bounds (Alt es) cs x =
        let sum = total-append (branch_fees a es cs 0) (fee_with cs x ∷ []) in
        let le = branch_bounds true es cs in
        omega (arith, sum, le)
    node_bounds (Group g e) cs x =
        let sum = total-append (node_fees a e cs x) (None ∷ []) in
        let le = node_bounds e cs x in
        omega (arith, sum, le)
    node_bounds (Repeat lo None greedy e) cs x =
        loop_bounds (weigh a e) (node_fees a e) (states a.tree e) greedy (node_bounds e) lo None (may_be_empty a e) cs x
    node_bounds (Repeat lo (Some hi) greedy e) cs x =
        loop_bounds (weigh a e) (node_fees a e) (states a.tree e) greedy (node_bounds e) lo (Some hi) (may_be_empty a e) cs x
    node_bounds e cs x = omega arith

    each_bounds : (es : Trees) → Bounds (weigh_each a es) (each_fees a es) (states_of_each a.tree es)
    each_bounds none cs x = omega arith
    each_bounds (more e es) cs x =
        let sum = total-append (node_fees a e cs (weigh_each a es x)) (each_fees a es cs x) in
        let le = node_bounds e cs (weigh_each a es x) in
        let rest = each_bounds es cs x in
        omega (arith, sum, le, rest)

    branch_bounds : (is_first : Bool) (es : Trees) (cs : List (List Key)) →
        total (branch_fees a es cs 0) + ways_around cs * weigh_branches a is_first es 0
        ≤ ways_around cs * (cost is_first + states_of_each a.tree es)
    branch_bounds is_first none cs = omega arith
    branch_bounds is_first (more e none) cs = let le = node_bounds e cs 0 in omega (arith, le)
    branch_bounds is_first (more e (more f es)) cs =
        let sum = total-append (node_fees a e cs 0) (None ∷ branch_fees a (more f es) cs 0) in
        let le = node_bounds e cs 0 in
        let rest = branch_bounds false (more f es) cs in
        omega (arith, sum, le, rest)

  -- all fees of a fragment and what is taken up before the first
  nodes_bound : (es : List Tree) → total (nodes_fees a es) + weight a (tasks_of a es) ≤ 1 + sum_by (states a.tree) es
  nodes_bound [] = omega arith
  nodes_bound (e ∷ es) =
      let sum = total-append (node_fees a e [] (weight a (tasks_of a es))) (nodes_fees a es) in
      let le = node_bounds e [] (weight a (tasks_of a es)) in
      let rest = nodes_bound es in
      let w = weight_node a e (tasks_of a es) in
      let all = sum_by-cons (states a.tree) e es in
      omega (arith, sum, le, rest, w, all)

  pub fees_bound : (es : List Tree) → total (nodes_fees a es) + weight a (tasks_of a es) ≤ fragment_states a.tree es
  unfolding fragment_states
  fees_bound es = nodes_bound es
