-- Where tasks stand among the fees.
use Rattle.std.proofs.Common.{◌≡◌, ℕ, suc, ◌+◌, Bool, true, false, List, [], ◌∷◌, ◌++◌, length, Option, Some, None, slice_get, refl, sym, ap, ◌∙◌, subst, arith, length-append}
use Rattle.fancy_meaning.specs.Tree.{Tree, Trees, none, more, Any, Assert, Literal, Delegate, Concat, Alt, Group, Repeat}
use Rattle.fancy_meaning.specs.Options.{Analysis}
use Rattle.fancy_meaning.specs.Constructs.{LoopForm, Never, AtMostOnce, Epsilon, Star, Plus, Counted, loop_form}
use Rattle.fancy_nfa_laws.specs.NfaStates.{Loop, NfaState, Close, Split, BranchSplit, LoopSplit, Jump, Join, CounterLoop}
use Rattle.fancy_nfa_laws.specs.NfaCode.{NfaCode, laid, each_laid, in_sequence, branches, around, counted, preferring, repeated, a_loop}
use Rattle.fancy_nfa_laws.proofs.Tasks.{Task, Takes, Asserts, Opens, Closes, Chooses, May, Stars, StartsPlus, Counts, Iterates, Jumps, Joins, may_be_empty, with_node, with_nodes, with_branches, with_loop, tasks_of}
use Rattle.fancy_nfa_laws.proofs.Weights.{weigh, weigh_each, weight, weight_nodes}
use Rattle.fancy_nfa_laws.proofs.Fees.{Key, keys_of, Fee, fee_with, FeesCode, group_fees, may_fees, choice_fees, star_fees, plus_fees, counter_fees, count_fees, with_join, loop_fees, node_fees, each_fees, branch_fees, nodes_fees}
use Rattle.fancy_nfa_laws.proofs.Segments.{LiesAt, lies_front, lies_back}

-- ---- as many fees as states

abbrev pub AsLong : FeesCode → NfaCode → Type 0
AsLong ns code = (cs : List (List Key)) (x base : ℕ) → length (ns cs x) ≡ length (code base)

-- with as much behind
both_as_long : {A B : Type 0} (xs ys : List A) (ps qs : List B) → length xs ≡ length ps → length ys ≡ length qs →
    length (xs ++ ys) ≡ length (ps ++ qs)
both_as_long xs ys ps qs e f =
    let one = length-append xs ys in
    let other = length-append ps qs in
    omega (arith, e, f, one, other)

module _ (body : FeesCode) (code : NfaCode) (h : AsLong body code) where
  around_as_long : (head : Option Fee) (first : ℕ → ℕ → NfaState) (cs : List (List Key)) (x base : ℕ) →
      length (head ∷ (body cs x ++ (None ∷ []))) ≡ length (around first code base)
  around_as_long head first cs x base =
      ap suc (both_as_long (body cs x) (None ∷ []) (code (base + 1)) (Jump base ∷ []) (h cs x (base + 1)) refl)

  counted_as_long : (w : ℕ → ℕ) (loop : Loop) → AsLong (with_join (count_fees loop w body)) (counted loop code)
  counted_as_long w loop cs x base =
      ap suc (both_as_long (counter_fees loop w body cs 0) (fee_with cs x ∷ [])
      (around (λ here after. CounterLoop loop after) code (base + 1)) (Join ∷ [])
      (around_as_long (fee_with (keys_of loop ∷ cs) (1 + w 0 + 0)) (λ here after. CounterLoop loop after) (keys_of loop ∷ cs) 0 (base + 1)) refl)

  loop_as_long : (w : ℕ → ℕ) (greedy : Bool) (form : LoopForm) → AsLong (loop_fees greedy w body form) (repeated greedy code form)
  loop_as_long w greedy Never cs x base = refl
  loop_as_long w greedy AtMostOnce cs x base =
      ap suc (both_as_long (body cs 0) (fee_with cs x ∷ []) (code (base + 1)) (Join ∷ []) (h cs 0 (base + 1)) refl)
  loop_as_long w greedy (Epsilon lo) cs x base = counted_as_long w (a_loop lo None greedy true) cs x base
  loop_as_long w greedy Star cs x base =
      around_as_long (fee_with cs (1 + w 0 + x)) (λ here after. preferring LoopSplit greedy (here + 1) after) cs 0 base
  loop_as_long w greedy Plus cs x base =
      ap suc (around_as_long (fee_with cs (1 + w 0 + x)) (λ here after. preferring LoopSplit greedy (here + 1) after) cs 0 (base + 1))
  loop_as_long w greedy (Counted lo hi) cs x base = counted_as_long w (a_loop lo hi greedy false) cs x base

module _ (a : Analysis) where
  mutual
    pub node_as_long : (e : Tree) → AsLong (node_fees a e) (laid a.tree e)
    node_as_long (Concat es) cs x base = each_as_long es cs x base
    node_as_long (Alt es) cs x base =
        both_as_long (branch_fees a es cs 0) (fee_with cs x ∷ []) (branches Split (each_laid a.tree es) base) (Join ∷ [])
        (branch_as_long Split es cs 0 base) refl
    node_as_long (Group g e) cs x base =
        ap suc (both_as_long (node_fees a e cs x) (None ∷ []) (laid a.tree e (base + 1)) (Close g ∷ [])
        (node_as_long e cs x (base + 1)) refl)
    node_as_long (Repeat lo hi greedy e) cs x base =
        loop_as_long (node_fees a e) (laid a.tree e) (node_as_long e) (weigh a e) greedy
        (loop_form lo hi (may_be_empty a e)) cs x base
    node_as_long e cs x base = refl

    each_as_long : (es : Trees) → AsLong (each_fees a es) (in_sequence (each_laid a.tree es))
    each_as_long none cs x base = refl
    each_as_long (more e es) cs x base =
        let next = base + length (laid a.tree e base) in
        both_as_long (node_fees a e cs (weigh_each a es x)) (each_fees a es cs x) (laid a.tree e base)
        (in_sequence (each_laid a.tree es) next)
        (node_as_long e cs (weigh_each a es x) base) (each_as_long es cs x next)

    pub branch_as_long : (choice : ℕ → ℕ → NfaState) (es : Trees) → AsLong (branch_fees a es) (branches choice (each_laid a.tree es))
    branch_as_long choice none cs x base = refl
    branch_as_long choice (more e none) cs x base = node_as_long e cs x base
    branch_as_long choice (more e (more f es)) cs x base =
        let first = laid a.tree e (base + 1) in
        let other = base + 1 + length first + 1 in
        let second = branches BranchSplit (each_laid a.tree (more f es)) other in
        ap suc (both_as_long (node_fees a e cs x) (None ∷ branch_fees a (more f es) cs x) first
        (Jump (other + length second) ∷ second)
        (node_as_long e cs x (base + 1)) (ap suc (branch_as_long BranchSplit (more f es) cs x other)))

-- ---- where tasks stand

-- of each loop around that counts what it tells apart
abbrev pub around_of : List Task → List (List Key)
around_of [] = []
around_of (Iterates loop e t ∷ ts) = keys_of loop ∷ around_of ts
around_of (t ∷ ts) = around_of ts

module _ (a : Analysis) (states : List NfaState) (fees : List (Option Fee)) where
  abbrev pub FeesStand : ℕ → List Task → Type 0
  FeesStand p [] = Unit {0}
  FeesStand p (Takes test ∷ ts) = FeesStand (p + 1) ts
  FeesStand p (Asserts x ∷ ts) = FeesStand (p + 1) ts
  FeesStand p (Opens g e ∷ ts) =
      let ns = group_fees (node_fees a e) (around_of ts) (weight a ts) in
      LiesAt fees p ns × FeesStand (p + length ns) ts
  FeesStand p (Closes g from ∷ ts) = FeesStand (p + 1) ts
  FeesStand p (Chooses is_first e none ∷ ts) = ⊥
  FeesStand p (Chooses is_first e (more f es) ∷ ts) =
      let ns = choice_fees (node_fees a e) (branch_fees a (more f es)) (around_of ts) (weight a ts) in
      LiesAt fees p ns × FeesStand (p + length ns) ts
  FeesStand p (May greedy e ∷ ts) =
      let ns = may_fees (node_fees a e) (around_of ts) (weight a ts) in
      LiesAt fees p ns × FeesStand (p + length ns) ts
  FeesStand p (Stars greedy e ∷ ts) =
      let ns = star_fees (weigh a e) (node_fees a e) (around_of ts) (weight a ts) in
      LiesAt fees p ns × FeesStand (p + length ns) ts
  FeesStand p (StartsPlus greedy e ∷ ts) =
      let ns = plus_fees (weigh a e) (node_fees a e) (around_of ts) (weight a ts) in
      LiesAt fees p ns × FeesStand (p + length ns) ts
  FeesStand p (Counts loop e ∷ ts) =
      let ns = count_fees loop (weigh a e) (node_fees a e) (around_of ts) (weight a ts) in
      LiesAt fees p ns × FeesStand (p + length ns) ts
  FeesStand p (Iterates loop e t ∷ ts) =
      let ns = counter_fees loop (weigh a e) (node_fees a e) (around_of ts) (weight a ts) in
      LiesAt fees p ns × FeesStand (p + length ns) ts
  FeesStand p (Jumps ∷ ts) = (to : ℕ) × (slice_get states p ≡ Some (Jump to)) × FeesStand to ts
  FeesStand p (Joins ∷ ts) = (slice_get fees p ≡ Some (fee_with (around_of ts) (weight a ts))) × FeesStand (p + 1) ts

  -- ---- before a node

  around_loop : (greedy : Bool) (e : Tree) (form : LoopForm) (ts : List Task) →
      around_of (with_loop a greedy e (with_node a e) form ts) ≡ around_of ts
  around_loop greedy e Never ts = refl
  around_loop greedy e form ts = refl

  mutual
    around_node : (e : Tree) (ts : List Task) → around_of (with_node a e ts) ≡ around_of ts
    around_node (Concat es) ts = around_nodes es ts
    around_node (Alt es) ts = around_branches true es (Joins ∷ ts)
    around_node (Repeat lo hi greedy e) ts = around_loop greedy e (loop_form lo hi (may_be_empty a e)) ts
    around_node e ts = refl

    around_nodes : (es : Trees) (ts : List Task) → around_of (with_nodes a es ts) ≡ around_of ts
    around_nodes none ts = refl
    around_nodes (more e es) ts = around_node e (with_nodes a es ts) ∙ around_nodes es ts

    around_branches : (is_first : Bool) (es : Trees) (ts : List Task) → around_of (with_branches a is_first es ts) ≡ around_of ts
    around_branches is_first none ts = refl
    around_branches is_first (more e none) ts = around_node e ts
    around_branches is_first (more e (more f es)) ts = refl

  -- what lies here, and what tasks stand behind it
  abbrev pub LieBefore : ℕ → List (Option Fee) → List Task → Type 0
  LieBefore p ns ts = LiesAt fees p ns × FeesStand (p + length ns) ts

  pub config_here : (p r : ℕ) (ts : List Task) → p ≡ r → FeesStand p ts → FeesStand r ts
  config_here p r ts e h = subst (λ i. FeesStand i ts) e h

  -- one list of fees after the other
  lie_parts : (p : ℕ) (ns ks : List (Option Fee)) (ts : List Task) → LieBefore p (ns ++ ks) ts →
      LiesAt fees p ns × LieBefore (p + length ns) ks ts
  lie_parts p ns ks ts h =
      let both = length-append ns ks in (
        lies_front fees p ns ks h.0,
        (
          lies_back fees p ns ks h.0,
          config_here (p + length (ns ++ ks)) (p + length ns + length ks) ts (omega (arith, both)) h.1,
        ),
      )

  lie_joined : (p : ℕ) (ns : List (Option Fee)) (ts : List Task) →
      LieBefore p (ns ++ (fee_with (around_of ts) (weight a ts) ∷ [])) ts → LieBefore p ns (Joins ∷ ts)
  lie_joined p ns ts h =
      let parts = lie_parts p ns (fee_with (around_of ts) (weight a ts) ∷ []) ts h in
      (parts.0, (parts.1.0.0, parts.1.1))

  loop_stands : (greedy : Bool) (e : Tree) (form : LoopForm) (ts : List Task) (p : ℕ) →
      LieBefore p (loop_fees greedy (weigh a e) (node_fees a e) form (around_of ts) (weight a ts)) ts →
      FeesStand p (with_loop a greedy e (with_node a e) form ts)
  loop_stands greedy e Never ts p h = config_here (p + 0) p ts (omega arith) h.1
  loop_stands greedy e AtMostOnce ts p h = lie_joined p (may_fees (node_fees a e) (around_of ts) 0) ts h
  loop_stands greedy e (Epsilon lo) ts p h =
      lie_joined p (count_fees (a_loop lo None greedy true) (weigh a e) (node_fees a e) (around_of ts) 0) ts h
  loop_stands greedy e Star ts p h = h
  loop_stands greedy e Plus ts p h = h
  loop_stands greedy e (Counted lo hi) ts p h =
      lie_joined p (count_fees (a_loop lo hi greedy false) (weigh a e) (node_fees a e) (around_of ts) 0) ts h

  mutual
    pub node_stands : (e : Tree) (ts : List Task) (p : ℕ) → LieBefore p (node_fees a e (around_of ts) (weight a ts)) ts →
        FeesStand p (with_node a e ts)
    node_stands (Any newline crlf) ts p h = h.1
    node_stands (Literal c casei) ts p h = h.1
    node_stands (Delegate inner casei) ts p h = h.1
    node_stands (Assert within x) ts p h = h.1
    node_stands (Group g e) ts p h = h
    node_stands (Concat es) ts p h = nodes_stand es ts p h
    node_stands (Alt es) ts p h = branches_stand true es (Joins ∷ ts) p (lie_joined p (branch_fees a es (around_of ts) 0) ts h)
    node_stands (Repeat lo hi greedy e) ts p h = loop_stands greedy e (loop_form lo hi (may_be_empty a e)) ts p h
    node_stands e ts p h = config_here (p + 0) p ts (omega arith) h.1

    nodes_stand : (es : Trees) (ts : List Task) (p : ℕ) → LieBefore p (each_fees a es (around_of ts) (weight a ts)) ts →
        FeesStand p (with_nodes a es ts)
    nodes_stand none ts p h = config_here (p + 0) p ts (omega arith) h.1
    nodes_stand (more e es) ts p h =
        let parts =
        lie_parts p (node_fees a e (around_of ts) (weigh_each a es (weight a ts))) (each_fees a es (around_of ts) (weight a ts)) ts h in
        let there = nodes_stand es ts (p + length (node_fees a e (around_of ts) (weigh_each a es (weight a ts)))) parts.1 in
        node_stands e (with_nodes a es ts) p
        (subst (λ w. LieBefore p (node_fees a e (around_of (with_nodes a es ts)) w) (with_nodes a es ts)) (sym (weight_nodes a es ts))
        (subst (λ cs. LieBefore p (node_fees a e cs (weigh_each a es (weight a ts))) (with_nodes a es ts)) (sym (around_nodes es ts))
        (parts.0, there)))

    pub branches_stand : (is_first : Bool) (es : Trees) (ts : List Task) (p : ℕ) →
        LieBefore p (branch_fees a es (around_of ts) (weight a ts)) ts → FeesStand p (with_branches a is_first es ts)
    branches_stand is_first none ts p h = config_here (p + 0) p ts (omega arith) h.1
    branches_stand is_first (more e none) ts p h = node_stands e ts p h
    branches_stand is_first (more e (more f es)) ts p h = h

  -- ---- at the start

  nothing_around : (es : List Tree) → around_of (tasks_of a es) ≡ []
  nothing_around [] = refl
  nothing_around (e ∷ es) = around_node e (tasks_of a es) ∙ nothing_around es

  pub fragment_stands : (es : List Tree) (p : ℕ) → LiesAt fees p (nodes_fees a es) → FeesStand p (tasks_of a es)
  fragment_stands [] p h = tt
  fragment_stands (e ∷ es) p h =
      let ns = node_fees a e [] (weight a (tasks_of a es)) in
      let frames = lies_back fees p ns (nodes_fees a es) h in
      node_stands e (tasks_of a es) p
      (subst (λ cs. LieBefore p (node_fees a e cs (weight a (tasks_of a es))) (tasks_of a es)) (sym (nothing_around es))
      (lies_front fees p ns (nodes_fees a es) h, fragment_stands es (p + length ns) frames))
