-- How many states are taken up at most, over all that is tried, before a memoized one is reached.
use Rattle.std.proofs.Common.{◌≡◌, ◌≤◌, ℕ, ◌+◌, Bool, true, false, List, [], ◌∷◌, Option, Some, None, refl, ap, if◌then◌else◌, nat_lt, ◌∙◌, arith}
use Rattle.fancy_meaning.specs.Tree.{Tree, Trees, none, more, Any, Assert, Literal, Delegate, Concat, Alt, Group, Repeat}
use Rattle.fancy_meaning.specs.Options.{Analysis}
use Rattle.fancy_meaning.specs.Constructs.{LoopForm, Never, AtMostOnce, Epsilon, Star, Plus, Counted, loop_form}
use Rattle.fancy_meaning.specs.Assertions.{holds, is_of_end}
use Rattle.fancy_meaning.specs.Moves.{past_char}
use Rattle.fancy_meaning.specs.MatchState.{MatchState}
use Rattle.fancy_meaning.specs.Ways.{Setting}
use Rattle.fancy_nfa_laws.specs.NfaStates.{Loop}
use Rattle.fancy_nfa_laws.specs.NfaSearch.{LoopCounter, passes, is_over, next_counter}
use Rattle.fancy_nfa_laws.proofs.Totals.{total_by}
use Rattle.fancy_nfa_laws.proofs.Tasks.{Task, TaskStep, Found, Lost, Goes, Tries, task_step, goes_past, counter_step, tries_in_order, Takes, Asserts, Opens, Closes, Chooses, May, Stars, StartsPlus, Counts, Iterates, Jumps, Joins, may_be_empty, with_node, with_nodes, with_branches, with_loop}

-- 1 where a state is counted
abbrev pub cost : Bool → ℕ
cost true = 1
cost false = 0

-- whether the state of these tasks is counted
abbrev pub is_counted_task : List Task → Bool
is_counted_task [] = true
is_counted_task (Closes g from ∷ ts) = false
is_counted_task (Chooses is_first e es ∷ ts) = is_first
is_counted_task (StartsPlus greedy e ∷ ts) = false
is_counted_task (Jumps ∷ ts) = false
is_counted_task (Joins ∷ ts) = false
is_counted_task (t ∷ ts) = true

-- what a loop weighs, by its body's weight; at a memoized state nothing
abbrev pub weigh_loop : (ℕ → ℕ) → LoopForm → ℕ → ℕ
weigh_loop body Never x = x
weigh_loop body AtMostOnce x = 1 + body 0 + 0
weigh_loop body (Epsilon lo) x = 1
weigh_loop body Star x = 0
weigh_loop body Plus x = body 0
weigh_loop body (Counted lo hi) x = 1

module _ (a : Analysis) where
  -- a node with what follows weighing this
  abbrev mutual
    pub weigh : Tree → ℕ → ℕ
    weigh (Any newline crlf) x = 1 + x
    weigh (Literal c casei) x = 1 + x
    weigh (Delegate inner casei) x = 1 + x
    weigh (Assert within t) x = 1 + x
    weigh (Concat es) x = weigh_each es x
    weigh (Alt es) x = weigh_branches true es 0
    weigh (Group g e) x = 1 + weigh e x
    weigh (Repeat lo hi greedy e) x = weigh_loop (weigh e) (loop_form lo hi (may_be_empty a e)) x
    weigh e x = x

    pub weigh_each : Trees → ℕ → ℕ
    weigh_each none x = x
    weigh_each (more e es) x = weigh e (weigh_each es x)

    -- one of these branches, with what follows
    pub weigh_branches : Bool → Trees → ℕ → ℕ
    weigh_branches is_first none x = x
    weigh_branches is_first (more e none) x = weigh e x
    weigh_branches is_first (more e (more f es)) x = cost is_first + weigh e x + weigh_branches false (more f es) x

  abbrev pub weight : List Task → ℕ
  weight [] = 1
  weight (Takes test ∷ ts) = 1 + weight ts
  weight (Asserts x ∷ ts) = 1 + weight ts
  weight (Opens g e ∷ ts) = 1 + weigh e (weight ts)
  weight (Closes g from ∷ ts) = weight ts
  weight (Chooses is_first e es ∷ ts) = cost is_first + weigh e (weight ts) + weigh_branches false es (weight ts)
  weight (May greedy e ∷ ts) = 1 + weigh e (weight ts) + weight ts
  weight (Stars greedy e ∷ ts) = 0
  weight (StartsPlus greedy e ∷ ts) = weigh e 0
  weight (Counts loop e ∷ ts) = 1
  weight (Iterates loop e t ∷ ts) = 0
  weight (Jumps ∷ ts) = weight ts
  weight (Joins ∷ ts) = 0

  -- what is taken up at most by taking up a memoized state once, with all that it leads to before a memoized one
  abbrev pub charge : List Task → ℕ
  charge (Stars greedy e ∷ ts) = 1 + weigh e 0 + weight ts
  charge (Iterates loop e t ∷ ts) = 1 + weigh e 0 + weight ts
  charge (Joins ∷ ts) = weight ts
  charge ts = 0

  weight_loop : (greedy : Bool) (e : Tree) (form : LoopForm) (ts : List Task) →
      weight (with_loop a greedy e (with_node a e) form ts) ≡ weigh_loop (weigh e) form (weight ts)
  weight_loop greedy e Never ts = refl
  weight_loop greedy e form ts = refl

  mutual
    pub weight_node : (e : Tree) (ts : List Task) → weight (with_node a e ts) ≡ weigh e (weight ts)
    weight_node (Concat es) ts = weight_nodes es ts
    weight_node (Alt es) ts = weight_branches true es (Joins ∷ ts)
    weight_node (Repeat lo hi greedy e) ts = weight_loop greedy e (loop_form lo hi (may_be_empty a e)) ts
    weight_node e ts = refl

    pub weight_nodes : (es : Trees) (ts : List Task) → weight (with_nodes a es ts) ≡ weigh_each es (weight ts)
    weight_nodes none ts = refl
    weight_nodes (more e es) ts =
        weight_node e (with_nodes a es ts) ∙ ap (weigh e) (weight_nodes es ts)

    pub weight_branches : (is_first : Bool) (es : Trees) (ts : List Task) →
        weight (with_branches a is_first es ts) ≡ weigh_branches is_first es (weight ts)
    weight_branches is_first none ts = refl
    weight_branches is_first (more e none) ts = weight_node e ts
    weight_branches is_first (more e (more f es)) ts = refl

  -- ---- each step

  -- what a step result says of the weights
  abbrev pub IsWeighed : List Task → TaskStep → Type 0
  IsWeighed ts Found = cost (is_counted_task ts) ≤ weight ts
  IsWeighed ts Lost = cost (is_counted_task ts) ≤ weight ts
  IsWeighed ts (Goes us n) = cost (is_counted_task ts) + weight us ≤ weight ts
  IsWeighed ts (Tries false tss n) = cost (is_counted_task ts) + total_by weight tss ≤ weight ts
  IsWeighed ts (Tries true tss n) = (weight ts ≡ 0) × (cost (is_counted_task ts) + total_by weight tss ≤ charge ts)

  module _ (q : Setting) where
    weighed_past : (ts us : List Task) (m : MatchState) (i : Option ℕ) → cost (is_counted_task ts) + weight us ≤ weight ts →
        IsWeighed ts (goes_past a q us m i)
    weighed_past ts us m None le = omega (arith, le)
    weighed_past ts us m (Some i) le = le

    weighed_if : (ts us : List Task) (m n : MatchState) (b : Bool) → cost (is_counted_task ts) + weight us ≤ weight ts →
        IsWeighed ts (if b then Goes us m else Lost)
    weighed_if ts us m n true le = le
    weighed_if ts us m n false le = omega (arith, le)

    weighed_in_order : (ts on off : List Task) (m : MatchState) (greedy : Bool) → weight ts ≡ 0 →
        cost (is_counted_task ts) + (weight on + weight off) ≤ charge ts →
        IsWeighed ts (tries_in_order a greedy on off m)
    weighed_in_order ts on off m true e le = (e, omega (arith, le))
    weighed_in_order ts on off m false e le = (e, omega (arith, le))

    weighed_counter : (loop : Loop) (e : Tree) (t : LoopCounter) (ts : List Task) (m : MatchState) →
        IsWeighed (Iterates loop e t ∷ ts) (counter_step a q loop e t ts m)
    weighed_counter loop e t ts m = by_cases (is_over loop m.place t) (nat_lt t.count loop.lo)
      where
        on : List Task
        on = with_node a e (Jumps ∷ Iterates loop e (next_counter loop m.place t) ∷ ts)

        into : weight on ≡ weigh e 0
        into = weight_node e (Jumps ∷ Iterates loop e (next_counter loop m.place t) ∷ ts)

        by_cases : (over begins : Bool) →
            IsWeighed (Iterates loop e t ∷ ts)
            (if over then Tries true (ts ∷ []) m
            else if begins then Tries true (on ∷ []) m else tries_in_order a loop.greedy on ts m)
        by_cases true begins = (refl, omega arith)
        by_cases false true = let w = into in (refl, omega (arith, w))
        by_cases false false =
            let w = into in weighed_in_order (Iterates loop e t ∷ ts) on ts m loop.greedy refl (omega (arith, w))

    pub step_weighed : (ts : List Task) (m : MatchState) → IsWeighed ts (task_step a q ts m)
    step_weighed [] m = omega arith
    step_weighed (Takes test ∷ ts) m =
        weighed_past (Takes test ∷ ts) ts m (past_char q.text (passes q.text q.unicode test) m.place) (omega arith)
    step_weighed (Asserts x ∷ ts) m =
        weighed_if (Asserts x ∷ ts) ts (if is_of_end x then record m { text_end = true } else m) m
        (holds q.text m.place q.unicode x) (omega arith)
    step_weighed (Opens g e ∷ ts) m = let w = weight_node e (Closes g m.place ∷ ts) in omega (arith, w)
    step_weighed (Closes g from ∷ ts) m = omega arith
    step_weighed (Chooses is_first e es ∷ ts) m =
        let w = weight_node e (Jumps ∷ ts) in
        let v = weight_branches false es ts in
        omega (arith, w, v)
    step_weighed (May true e ∷ ts) m = let w = weight_node e ts in omega (arith, w)
    step_weighed (May false e ∷ ts) m = let w = weight_node e ts in omega (arith, w)
    step_weighed (Stars greedy e ∷ ts) m =
        let w = weight_node e (Jumps ∷ Stars greedy e ∷ ts) in
        weighed_in_order (Stars greedy e ∷ ts) (with_node a e (Jumps ∷ Stars greedy e ∷ ts)) ts m greedy refl (omega (arith, w))
    step_weighed (StartsPlus greedy e ∷ ts) m =
        let w = weight_node e (Jumps ∷ Stars greedy e ∷ ts) in omega (arith, w)
    step_weighed (Counts loop e ∷ ts) m = omega arith
    step_weighed (Iterates loop e t ∷ ts) m = weighed_counter loop e t ts m
    step_weighed (Jumps ∷ ts) m = omega arith
    step_weighed (Joins ∷ ts) m = (refl, omega arith)
