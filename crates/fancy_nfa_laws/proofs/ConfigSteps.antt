-- Each step of the search goes as the tasks do that its configuration is at.
use Rattle.std.proofs.Common.{◌≡◌, ℕ, ◌+◌, Bool, true, false, List, [], ◌∷◌, ◌++◌, length, map, Option, Some, None, if◌then◌else◌, nat_lt, refl, ap₂, sym, subst, arith, length-append}
use Rattle.std.specs.Prelude.{slice_get}
use Rattle.fancy_meaning.specs.Tree.{Tree, Trees, none, more, Any, Assert, Literal, Delegate, Concat, Alt, Group, Repeat}
use Rattle.fancy_meaning.specs.Options.{Analysis}
use Rattle.fancy_meaning.specs.Constructs.{LoopForm, Never, AtMostOnce, Epsilon, Star, Plus, Counted, loop_form}
use Rattle.fancy_meaning.specs.Assertions.{holds, is_of_end}
use Rattle.fancy_meaning.specs.Moves.{past_char}
use Rattle.fancy_meaning.specs.MatchState.{MatchState, Span, put, first_state}
use Rattle.fancy_meaning.specs.Ways.{Setting}
use Rattle.fancy_nfa_laws.specs.NfaStates.{Loop, NfaState, Match, Character, Holds, Open, Close, Split, BranchSplit, LoopSplit, Jump, Join, CounterBegin, CounterLoop}
use Rattle.fancy_nfa_laws.specs.NfaCode.{NfaCode, ◌>>◌, one, laid, each_laid, in_sequence, branches, headed, preferring, star, around, counted, a_loop, repeated, states_of}
use Rattle.fancy_nfa_laws.specs.NfaSearch as search
use Rattle.fancy_nfa_laws.specs.NfaSearch.{LoopCounter, NfaConfig, StepResult, step_by, step_at, counter_loop_step, is_over, next_counter, first_config, passes}
use Rattle.fancy_nfa_laws.specs.FirstWays.{spans_of}
use Rattle.fancy_nfa_laws.proofs.Tasks
use Rattle.fancy_nfa_laws.proofs.Tasks.{Task, TaskStep, Takes, Asserts, Opens, Closes, Chooses, May, Stars, StartsPlus, Counts, Iterates, Jumps, Joins, may_be_empty, with_node, with_nodes, with_branches, with_loop, tasks_of, task_step, counter_step, goes_past, tries_in_order}
use Rattle.fancy_nfa_laws.proofs.Standing.{IsLaidAt, IsAt, behind, Stands, IsConfigOf, choosing}
use Rattle.fancy_nfa_laws.proofs.StepLaws.{IsStepOf}
use Rattle.fancy_nfa_laws.proofs.Segments.{LiesAt, lies_front, lies_back, lies_itself}

module _ (a : Analysis) (states : List NfaState) (counters : List LoopCounter) where
  stands_eq : (opened : List ℕ) (ts : List Task) {p r : ℕ} → p ≡ r → Stands a states p counters opened ts →
      Stands a states r counters opened ts
  stands_eq opened ts e h = subst (λ n. Stands a states n counters opened ts) e h

  -- behind nothing
  stands_here : (opened : List ℕ) (ts : List Task) (p : ℕ) → Stands a states (p + 0) counters opened ts → Stands a states p counters opened ts
  stands_here opened ts p h = let e : p + 0 ≡ p = omega arith in stands_eq opened ts e h

  -- behind two, one after the other
  stands_behind : (opened : List ℕ) (ts : List Task) (p : ℕ) (x y : NfaCode) → Stands a states (behind a states p (x >> y)) counters opened ts →
      Stands a states (behind a states (behind a states p x) y) counters opened ts
  stands_behind opened ts p x y h =
      let e : behind a states p (x >> y) ≡ behind a states (behind a states p x) y
      = omega (arith, length-append (x p) (y (p + length (x p)))) in
      stands_eq opened ts e h

  first_laid : (p : ℕ) (x y : NfaCode) → IsLaidAt a states p (x >> y) → IsLaidAt a states p x
  first_laid p x y h = lies_front states p (x p) (y (p + length (x p))) h

  second_laid : (p : ℕ) (x y : NfaCode) → IsLaidAt a states p (x >> y) → IsLaidAt a states (behind a states p x) y
  second_laid p x y h = lies_back states p (x p) (y (p + length (x p))) h

  state_laid : (p : ℕ) (x : NfaState) → IsLaidAt a states p (one x) → IsAt a states p x
  state_laid p x h = h.0

  -- behind these states, where they are before a join
  stands_joined : (opened : List ℕ) (ts : List Task) (p : ℕ) (xs : List NfaState) → LiesAt states p (xs ++ Join ∷ []) →
      Stands a states (p + length (xs ++ Join ∷ [])) counters opened ts →
      Stands a states (p + length xs) counters opened (Joins ∷ ts)
  stands_joined opened ts p xs l h =
      let e : p + length (xs ++ Join ∷ []) ≡ p + length xs + 1 = omega (arith, length-append xs (Join ∷ [])) in
      ((lies_back states p xs (Join ∷ []) l).0, stands_eq opened ts e h)

  count_laid : (p : ℕ) (e : Tree) (loop : Loop) (opened : List ℕ) (ts : List Task) →
      IsLaidAt a states p (counted loop (laid a.tree e)) →
      Stands a states (behind a states p (counted loop (laid a.tree e))) counters opened ts →
      Stands a states p counters opened (Counts loop e ∷ Joins ∷ ts)
  count_laid p e loop opened ts l h =
      let xs : List NfaState = (one CounterBegin >> around (λ here after. CounterLoop loop after) (laid a.tree e)) p in
      (lies_front states p xs (Join ∷ []) l, stands_joined opened ts p xs l h)

  loop_laid : (p : ℕ) (greedy : Bool) (e : Tree) (f : LoopForm) (opened : List ℕ) (ts : List Task) →
      IsLaidAt a states p (repeated greedy (laid a.tree e) f) →
      Stands a states (behind a states p (repeated greedy (laid a.tree e) f)) counters opened ts →
      Stands a states p counters opened (with_loop a greedy e (with_node a e) f ts)
  loop_laid p greedy e Never opened ts l h = stands_here opened ts p h
  loop_laid p greedy e AtMostOnce opened ts l h =
      let code : NfaCode = headed (λ here after. preferring Split greedy (here + 1) after) (laid a.tree e) in
      (first_laid p code (one Join) l, stands_joined opened ts p (code p) l h)
  loop_laid p greedy e (Epsilon lo) opened ts l h = count_laid p e (a_loop lo None greedy true) opened ts l h
  loop_laid p greedy e Star opened ts l h = (l, h)
  loop_laid p greedy e Plus opened ts l h = (l, h)
  loop_laid p greedy e (Counted lo hi) opened ts l h = count_laid p e (a_loop lo hi greedy false) opened ts l h

  mutual
    pub node_laid : (e : Tree) (p : ℕ) (opened : List ℕ) (ts : List Task) → IsLaidAt a states p (laid a.tree e) →
        Stands a states (behind a states p (laid a.tree e)) counters opened ts → Stands a states p counters opened (with_node a e ts)
    node_laid (Any newline crlf) p opened ts l h = (state_laid p _ l, h)
    node_laid (Literal c casei) p opened ts l h = (state_laid p _ l, h)
    node_laid (Delegate inner casei) p opened ts l h = (state_laid p _ l, h)
    node_laid (Assert within x) p opened ts l h = (state_laid p _ l, h)
    node_laid (Concat es) p opened ts l h = nodes_laid es p opened ts l h
    node_laid (Alt es) p opened ts l h =
        branches_laid es true p opened (Joins ∷ ts) (first_laid p (branches Split (each_laid a.tree es)) (one Join) l)
        (stands_joined opened ts p (branches Split (each_laid a.tree es) p) l h)
    node_laid (Group g e) p opened ts l h = (l, h)
    node_laid (Repeat lo hi greedy e) p opened ts l h =
        loop_laid p greedy e (loop_form lo hi (may_be_empty a e)) opened ts l h
    node_laid e p opened ts l h = stands_here opened ts p h

    nodes_laid : (es : Trees) (p : ℕ) (opened : List ℕ) (ts : List Task) →
        IsLaidAt a states p (in_sequence (each_laid a.tree es)) →
        Stands a states (behind a states p (in_sequence (each_laid a.tree es))) counters opened ts →
        Stands a states p counters opened (with_nodes a es ts)
    nodes_laid none p opened ts l h = stands_here opened ts p h
    nodes_laid (more e es) p opened ts l h =
        let rest : NfaCode = in_sequence (each_laid a.tree es) in
        node_laid e p opened (with_nodes a es ts) (first_laid p (laid a.tree e) rest l)
        (nodes_laid es (behind a states p (laid a.tree e)) opened ts (second_laid p (laid a.tree e) rest l)
        (stands_behind opened ts p (laid a.tree e) rest h))

    pub branches_laid : (es : Trees) (is_first : Bool) (p : ℕ) (opened : List ℕ) (ts : List Task) →
        IsLaidAt a states p (branches (choosing is_first) (each_laid a.tree es)) →
        Stands a states (behind a states p (branches (choosing is_first) (each_laid a.tree es))) counters opened ts →
        Stands a states p counters opened (with_branches a is_first es ts)
    branches_laid none is_first p opened ts l h = stands_here opened ts p h
    branches_laid (more e none) is_first p opened ts l h = node_laid e p opened ts l h
    branches_laid (more e (more f es)) is_first p opened ts l h = (l, h)

-- a loop: its head, its body with the jump to the head, and what is behind it
module _ (a : Analysis) (states : List NfaState) (head : ℕ → ℕ → NfaState) (e : Tree) (p : ℕ) where
  abbrev round : NfaCode
  round = around head (laid a.tree e)

  abbrev round_end : ℕ
  round_end = p + 1 + length ((laid a.tree e >> one (Jump p)) (p + 1))

  round_head : IsLaidAt a states p round → IsAt a states p (head p round_end)
  round_head l = l.0

  round_body : IsLaidAt a states p round → IsLaidAt a states (p + 1) (laid a.tree e >> one (Jump p))
  round_body l = l.1

  -- the body stands in front of the loop
  round_again : (counters : List LoopCounter) (opened : List ℕ) (ts : List Task) → IsLaidAt a states p round →
      Stands a states p counters opened ts → Stands a states (p + 1) counters opened (with_node a e (Jumps ∷ ts))
  round_again counters opened ts l h =
      let body : NfaCode = laid a.tree e in
      node_laid a states counters e (p + 1) opened (Jumps ∷ ts) (first_laid a states counters (p + 1) body (one (Jump p)) (round_body l)) (
        p,
        state_laid a states counters (p + 1 + length (body (p + 1))) (Jump p)
            (second_laid a states counters (p + 1) body (one (Jump p)) (round_body l)),
        h,
      )

  round_behind : (counters : List LoopCounter) (opened : List ℕ) (ts : List Task) → Stands a states (behind a states p round) counters opened ts →
      Stands a states round_end counters opened ts
  round_behind counters opened ts h =
      let same : behind a states p round ≡ round_end = omega arith in stands_eq a states counters opened ts same h

module _ (q : Setting) (a : Analysis) (states : List NfaState) where
  abbrev step_result_of : Option NfaState → NfaConfig → StepResult
  step_result_of = step_at q.text q.unicode

  -- the configuration that is there, in this match state
  abbrev config_in : ℕ → MatchState → List LoopCounter → List ℕ → List (ℕ × Span) → NfaConfig
  config_in p m counters opened spans =
      record { at = p; place = m.place; counters = counters; opened = opened; spans = spans }

  abbrev LeadsAs : Option NfaState → NfaConfig → TaskStep → Type 0
  LeadsAs o s k = IsStepOf q a states (step_result_of o s) k

  by_state : {o : Option NfaState} (x : NfaState) (s : NfaConfig) (k : TaskStep) → o ≡ Some x → LeadsAs (Some x) s k → LeadsAs o s k
  by_state x s k e h = subst (λ o. LeadsAs o s k) (sym e) h

  module _ (m : MatchState) (spans : List (ℕ × Span)) (same : spans_of spans ≡ m.captures) where
    is_config : (p : ℕ) (counters : List LoopCounter) (opened : List ℕ) (ts : List Task) → Stands a states p counters opened ts →
        IsConfigOf a states (config_in p m counters opened spans) ts m
    is_config p counters opened ts h = record { stands = h; place = refl; spans = same }

    past_leads : (p : ℕ) (counters : List LoopCounter) (opened : List ℕ) (ts : List Task) (i : Option ℕ) → Stands a states (p + 1) counters opened ts →
        IsStepOf q a states (search.goes_past (config_in p m counters opened spans) i) (goes_past a q ts m i)
    past_leads p counters opened ts None h = tt
    past_leads p counters opened ts (Some i) h = record { stands = h; place = refl; spans = same }

    asserts_step : (p : ℕ) (counters : List LoopCounter) (opened : List ℕ) (ts : List Task) (b ends : Bool) → Stands a states (p + 1) counters opened ts →
        IsStepOf q a states (if b then search.Goes (search.forward (config_in p m counters opened spans)) else search.Lost)
        (if b then Tasks.Goes ts (if ends then record m { text_end = true } else m) else Tasks.Lost)
    asserts_step p counters opened ts true true h = record { stands = h; place = refl; spans = same }
    asserts_step p counters opened ts true false h = is_config (p + 1) counters opened ts h
    asserts_step p counters opened ts false ends h = tt

    -- into one or the other
    choice_steps : (on off : NfaConfig) (us vs : List Task) (greedy : Bool) → IsConfigOf a states on us m → IsConfigOf a states off vs m →
        IsStepOf q a states (search.choice_step greedy on off) (tries_in_order a greedy us vs m)
    choice_steps on off us vs true h k = (refl, (h, (k, tt)))
    choice_steps on off us vs false h k = (refl, (k, (h, tt)))

    counter_steps : (loop : Loop) (after p : ℕ) (e : Tree) (t : LoopCounter) (counters : List LoopCounter) (opened : List ℕ) (ts : List Task) →
        Stands a states (p + 1) (next_counter loop m.place t ∷ counters) opened
        (with_node a e (Jumps ∷ Iterates loop e (next_counter loop m.place t) ∷ ts)) →
        Stands a states after counters opened ts →
        IsStepOf q a states (counter_loop_step loop after (config_in p m (t ∷ counters) opened spans) (t ∷ counters)) (counter_step a q loop e t ts m)
    counter_steps loop after p e t counters opened ts on off = go (is_over loop m.place t) (nat_lt t.count loop.lo)
      where
        us : List Task
        us = with_node a e (Jumps ∷ Iterates loop e (next_counter loop m.place t) ∷ ts)

        goes_on : NfaConfig
        goes_on = config_in (p + 1) m (next_counter loop m.place t ∷ counters) opened spans

        goes_off : NfaConfig
        goes_off = config_in after m counters opened spans

        stands_on : IsConfigOf a states goes_on us m
        stands_on = is_config (p + 1) (next_counter loop m.place t ∷ counters) opened us on

        stands_off : IsConfigOf a states goes_off ts m
        stands_off = is_config after counters opened ts off

        go : (over below : Bool) → IsStepOf q a states
            (if over then search.Tries true goes_off [] else if below then search.Tries true goes_on []
            else search.choice_step loop.greedy goes_on goes_off)
            (if over then Tasks.Tries true (ts ∷ []) m else if below then Tasks.Tries true (us ∷ []) m
            else tries_in_order a loop.greedy us ts m)
        go true below = (refl, (stands_off, tt))
        go false true = (refl, (stands_on, tt))
        go false false = choice_steps goes_on goes_off us ts loop.greedy stands_on stands_off

    opens : (g : ℕ) (e : Tree) (p : ℕ) (counters : List LoopCounter) (opened : List ℕ) (ts : List Task) →
        Stands a states p counters opened (Opens g e ∷ ts) →
        LeadsAs (slice_get states p) (config_in p m counters opened spans) (task_step a q (Opens g e ∷ ts) m)
    opens g e p counters opened ts h =
        let body : NfaCode = laid a.tree e in
        let end : ℕ = p + 1 + length (body (p + 1)) in
        let rest = h.0.1 in
        let past : p + length (Open ∷ (body (p + 1) ++ Close g ∷ [])) ≡ end + 1
        = omega (arith, length-append (body (p + 1)) (Close g ∷ [])) in
        let inner = node_laid a states counters e (p + 1) (m.place ∷ opened) (Closes g m.place ∷ ts)
        (first_laid a states counters (p + 1) body (one (Close g)) rest) (
          refl,
          state_laid a states counters end (Close g) (second_laid a states counters (p + 1) body (one (Close g)) rest),
          stands_eq a states counters opened ts past h.1,
        ) in
        by_state Open (config_in p m counters opened spans) (task_step a q (Opens g e ∷ ts) m)
        h.0.0
        (is_config (p + 1) counters (m.place ∷ opened) (with_node a e (Closes g m.place ∷ ts)) inner)

    closes : (g from i p : ℕ) (counters : List LoopCounter) (opened : List ℕ) (ts : List Task) →
        Stands a states p counters (i ∷ opened) (Closes g from ∷ ts) →
        LeadsAs (slice_get states p) (config_in p m counters (i ∷ opened) spans) (task_step a q (Closes g from ∷ ts) m)
    closes g from i p counters opened ts h =
        by_state (Close g) (config_in p m counters (i ∷ opened) spans) (task_step a q (Closes g from ∷ ts) m) h.1
        record {
          stands = h.2;
          place = refl;
          spans = ap₂ (λ j f. put g (Some (j, m.place)) f) h.0 same;
        }

    -- a state where the first and then the second is tried
    splits : (is_first : Bool) (first second p : ℕ) (counters : List LoopCounter) (opened : List ℕ) (us vs : List Task) →
        Stands a states first counters opened us → Stands a states second counters opened vs →
        LeadsAs (Some (choosing is_first first second)) (config_in p m counters opened spans) (Tasks.Tries false (us ∷ vs ∷ []) m)
    splits true first second p counters opened us vs h k =
        (refl, (is_config first counters opened us h, (is_config second counters opened vs k, tt)))
    splits false first second p counters opened us vs h k =
        (refl, (is_config first counters opened us h, (is_config second counters opened vs k, tt)))

    chooses : (is_first : Bool) (e : Tree) (es : Trees) (p : ℕ) (counters : List LoopCounter) (opened : List ℕ) (ts : List Task) →
        Stands a states p counters opened (Chooses is_first e es ∷ ts) →
        LeadsAs (slice_get states p) (config_in p m counters opened spans) (task_step a q (Chooses is_first e es ∷ ts) m)
    chooses is_first e es p counters opened ts h =
        let body : List NfaState = laid a.tree e (p + 1) in
        let other : ℕ = p + 1 + length body + 1 in
        let second : List NfaState = branches BranchSplit (each_laid a.tree es) other in
        let end : ℕ = other + length second in
        let choice : NfaState = choosing is_first (p + 1) other in
        let rest = h.0.1 in
        let jump = lies_back states (p + 1) body (Jump end ∷ second) rest in
        let past : p + length (choice ∷ (body ++ (Jump end ∷ second))) ≡ end
        = omega (arith, length-append body (Jump end ∷ second)) in
        let behind_all = stands_eq a states counters opened ts past h.1 in
        let on = node_laid a states counters e (p + 1) opened (Jumps ∷ ts) (lies_front states (p + 1) body (Jump end ∷ second) rest)
        (end, jump.0, behind_all) in
        let off = branches_laid a states counters es false other opened ts
        jump.1 behind_all in
        by_state choice (config_in p m counters opened spans) (task_step a q (Chooses is_first e es ∷ ts) m)
        h.0.0
        (splits is_first (p + 1) other p counters opened (with_node a e (Jumps ∷ ts)) (with_branches a false es ts) on off)

    may : (greedy : Bool) (on off p : ℕ) (e : Tree) (counters : List LoopCounter) (opened : List ℕ) (ts : List Task) →
        Stands a states on counters opened (with_node a e ts) → Stands a states off counters opened ts →
        LeadsAs (Some (preferring Split greedy on off)) (config_in p m counters opened spans) (task_step a q (May greedy e ∷ ts) m)
    may true on off p e counters opened ts h k = splits true on off p counters opened (with_node a e ts) ts h k
    may false on off p e counters opened ts h k = splits true off on p counters opened ts (with_node a e ts) k h

    may_be : (greedy : Bool) (e : Tree) (p : ℕ) (counters : List LoopCounter) (opened : List ℕ) (ts : List Task) →
        Stands a states p counters opened (May greedy e ∷ ts) →
        LeadsAs (slice_get states p) (config_in p m counters opened spans) (task_step a q (May greedy e ∷ ts) m)
    may_be greedy e p counters opened ts h =
        let body : List NfaState = laid a.tree e (p + 1) in
        let end : ℕ = p + 1 + length body in
        let choice : NfaState = preferring Split greedy (p + 1) end in
        let past : p + length (choice ∷ body) ≡ end = omega arith in
        let off = stands_eq a states counters opened ts past h.1 in
        by_state choice (config_in p m counters opened spans) (task_step a q (May greedy e ∷ ts) m) h.0.0
        (may greedy (p + 1) end p e counters opened ts
        (node_laid a states counters e (p + 1) opened ts h.0.1 off) off)

    loop_splits : (greedy : Bool) (on off p : ℕ) (counters : List LoopCounter) (opened : List ℕ) (us vs : List Task) →
        Stands a states on counters opened us → Stands a states off counters opened vs →
        LeadsAs (Some (preferring LoopSplit greedy on off)) (config_in p m counters opened spans) (tries_in_order a greedy us vs m)
    loop_splits true on off p counters opened us vs h k =
        (refl, (is_config on counters opened us h, (is_config off counters opened vs k, tt)))
    loop_splits false on off p counters opened us vs h k =
        (refl, (is_config off counters opened vs k, (is_config on counters opened us h, tt)))

    stars : (greedy : Bool) (e : Tree) (p : ℕ) (counters : List LoopCounter) (opened : List ℕ) (ts : List Task) →
        Stands a states p counters opened (Stars greedy e ∷ ts) →
        LeadsAs (slice_get states p) (config_in p m counters opened spans) (task_step a q (Stars greedy e ∷ ts) m)
    stars greedy e p counters opened ts h =
        let head : ℕ → ℕ → NfaState = λ here after. preferring LoopSplit greedy (here + 1) after in
        let end : ℕ = round_end a states head e p in
        by_state (head p end) (config_in p m counters opened spans) (task_step a q (Stars greedy e ∷ ts) m)
        (round_head a states head e p h.0)
        (loop_splits greedy (p + 1) end p counters opened (with_node a e (Jumps ∷ Stars greedy e ∷ ts)) ts
        (round_again a states head e p counters opened (Stars greedy e ∷ ts) h.0 h)
        (round_behind a states head e p counters opened ts h.1))

    starts_plus : (greedy : Bool) (e : Tree) (p : ℕ) (counters : List LoopCounter) (opened : List ℕ) (ts : List Task) →
        Stands a states p counters opened (StartsPlus greedy e ∷ ts) →
        LeadsAs (slice_get states p) (config_in p m counters opened spans) (task_step a q (StartsPlus greedy e ∷ ts) m)
    starts_plus greedy e p counters opened ts h =
        let head : ℕ → ℕ → NfaState = λ here after. preferring LoopSplit greedy (here + 1) after in
        let loop : List NfaState = star greedy (laid a.tree e) (p + 1) in
        let l = h.0.1 in
        let past : p + length (Jump (p + 2) ∷ loop) ≡ p + 1 + length loop = omega arith in
        let next : p + 1 + 1 ≡ p + 2 = omega arith in
        let on = round_again a states head e (p + 1) counters opened (Stars greedy e ∷ ts) l
        (l, stands_eq a states counters opened ts past h.1) in
        by_state (Jump (p + 2)) (config_in p m counters opened spans) (task_step a q (StartsPlus greedy e ∷ ts) m)
        h.0.0
        (is_config (p + 2) counters opened (with_node a e (Jumps ∷ Stars greedy e ∷ ts))
        (stands_eq a states counters opened (with_node a e (Jumps ∷ Stars greedy e ∷ ts)) next on))

    counts : (loop : Loop) (e : Tree) (p : ℕ) (counters : List LoopCounter) (opened : List ℕ) (ts : List Task) →
        Stands a states p counters opened (Counts loop e ∷ ts) →
        LeadsAs (slice_get states p) (config_in p m counters opened spans) (task_step a q (Counts loop e ∷ ts) m)
    counts loop e p counters opened ts h =
        let t : LoopCounter = record { count = 0; since = None } in
        let code : List NfaState = around (λ here after. CounterLoop loop after) (laid a.tree e) (p + 1) in
        let past : p + length (CounterBegin ∷ code) ≡ p + 1 + length code = omega arith in
        by_state CounterBegin (config_in p m counters opened spans) (task_step a q (Counts loop e ∷ ts) m) h.0.0
        (is_config (p + 1) (t ∷ counters) opened (Iterates loop e t ∷ ts)
        (refl, h.0.1, stands_eq a states counters opened ts past h.1))

    counters_on : (loop : Loop) (e : Tree) (t : LoopCounter) (p : ℕ) (counters : List LoopCounter) (opened : List ℕ) (ts : List Task) →
        Stands a states p (t ∷ counters) opened (Iterates loop e t ∷ ts) →
        LeadsAs (slice_get states p) (config_in p m (t ∷ counters) opened spans) (task_step a q (Iterates loop e t ∷ ts) m)
    counters_on loop e t p counters opened ts h =
        let head : ℕ → ℕ → NfaState = λ here after. CounterLoop loop after in
        let end : ℕ = round_end a states head e p in
        let next : LoopCounter = next_counter loop m.place t in
        by_state (CounterLoop loop end) (config_in p m (t ∷ counters) opened spans) (task_step a q (Iterates loop e t ∷ ts) m)
        (round_head a states head e p h.1)
        (counter_steps loop end p e t counters opened ts
        (round_again a states head e p (next ∷ counters) opened (Iterates loop e next ∷ ts) h.1 (refl, h.1, h.2))
        (round_behind a states head e p counters opened ts h.2))

    leads : (ts : List Task) (p : ℕ) (counters : List LoopCounter) (opened : List ℕ) → Stands a states p counters opened ts →
        LeadsAs (slice_get states p) (config_in p m counters opened spans) (task_step a q ts m)
    leads [] p [] [] h = by_state Match (config_in p m [] [] spans) Tasks.Found h tt
    leads [] p [] (i ∷ opened) h = absurd h
    leads [] p (t ∷ counters) opened h = absurd h
    leads (Takes test ∷ ts) p counters opened h =
        by_state (Character test) (config_in p m counters opened spans) (task_step a q (Takes test ∷ ts) m) h.0
        (past_leads p counters opened ts (past_char q.text (passes q.text q.unicode test) m.place) h.1)
    leads (Asserts x ∷ ts) p counters opened h =
        by_state (Holds x) (config_in p m counters opened spans) (task_step a q (Asserts x ∷ ts) m) h.0
        (asserts_step p counters opened ts (holds q.text m.place q.unicode x) (is_of_end x) h.1)
    leads (Opens g e ∷ ts) p counters opened h = opens g e p counters opened ts h
    leads (Closes g from ∷ ts) p counters [] h = absurd h
    leads (Closes g from ∷ ts) p counters (i ∷ opened) h = closes g from i p counters opened ts h
    leads (Chooses is_first e es ∷ ts) p counters opened h = chooses is_first e es p counters opened ts h
    leads (May greedy e ∷ ts) p counters opened h = may_be greedy e p counters opened ts h
    leads (Stars greedy e ∷ ts) p counters opened h = stars greedy e p counters opened ts h
    leads (StartsPlus greedy e ∷ ts) p counters opened h = starts_plus greedy e p counters opened ts h
    leads (Counts loop e ∷ ts) p counters opened h = counts loop e p counters opened ts h
    leads (Iterates loop e u ∷ ts) p [] opened h = absurd h
    leads (Iterates loop e u ∷ ts) p (t ∷ counters) opened h =
        subst (λ v. LeadsAs (slice_get states p) (config_in p m (t ∷ counters) opened spans) (task_step a q (Iterates loop e v ∷ ts) m)) h.0
        (counters_on loop e t p counters opened ts (refl, h.1, h.2))
    leads (Jumps ∷ ts) p counters opened h =
        by_state (Jump h.0) (config_in p m counters opened spans) (Tasks.Goes ts m) h.1 (is_config h.0 counters opened ts h.2)
    leads (Joins ∷ ts) p counters opened h =
        by_state Join (config_in p m counters opened spans) (Tasks.Tries true (ts ∷ []) m) h.0
        (refl, (is_config (p + 1) counters opened ts h.1, tt))

  pub config_steps : (s : NfaConfig) (ts : List Task) (m : MatchState) → IsConfigOf a states s ts m →
      IsStepOf q a states (step_at q.text q.unicode (slice_get states s.at) s) (task_step a q ts m)
  config_steps s ts m h =
      subst (λ i. LeadsAs (slice_get states s.at) (record s { place = i }) (task_step a q ts m)) (sym h.place)
      (leads m s.spans h.spans ts s.at s.counters s.opened h.stands)

module _ (a : Analysis) (states : List NfaState) where
  all_laid : (es : List Tree) (p : ℕ) → IsLaidAt a states p (in_sequence (map (laid a.tree) es)) →
      IsAt a states (behind a states p (in_sequence (map (laid a.tree) es))) Match → Stands a states p [] [] (tasks_of a es)
  all_laid [] p l h = stands_here a states [] [] [] p h
  all_laid (e ∷ es) p l h =
      let first : NfaCode = laid a.tree e in
      let rest : NfaCode = in_sequence (map (laid a.tree) es) in
      let past : behind a states p (first >> rest) ≡ behind a states (behind a states p first) rest
      = omega (arith, length-append (first p) (rest (p + length (first p)))) in
      node_laid a states [] e p [] (tasks_of a es) (first_laid a states [] p first rest l)
      (all_laid es (behind a states p first) (second_laid a states [] p first rest l) (subst (λ n. IsAt a states n Match) past h))

pub first_config_is : (a : Analysis) (es : List Tree) (i : ℕ) →
    IsConfigOf a (states_of a.tree es) (first_config i) (tasks_of a es) (first_state i)
first_config_is a es i =
    let states : List NfaState = states_of a.tree es in
    let code : NfaCode = in_sequence (map (laid a.tree) es) in
    let whole : LiesAt states 0 (code 0 ++ Match ∷ []) = lies_itself states in
    record {
      stands = all_laid a states es 0 (lies_front states 0 (code 0) (Match ∷ []) whole)
          (lies_back states 0 (code 0) (Match ∷ []) whole).0;
      place = refl;
      spans = refl;
    }
