-- What is left of a fragment to be matched, as a list of tasks: where a step of it leads, and its ways.
use Rattle.std.specs.Prelude.{◌≡◌, ◌≤◌, ◌<◌, ℕ, suc, ◌-◌, Bool, true, false, ◌&&◌, ◌||◌, not, List, [], ◌∷◌, Option, Some, None, option_map, length, if◌then◌else◌, ◌==◌, nat_lt}
use Rattle.fancy_meaning.specs.Tree.{Tree, Trees, none, more, Any, Assert, Literal, Delegate, Concat, Alt, Group, Repeat, Assertion}
use Rattle.fancy_meaning.specs.Options.{Analysis}
use Rattle.fancy_meaning.specs.Hard.{is_hard, any_hard}
use Rattle.fancy_meaning.specs.Sizes.{size}
use Rattle.fancy_meaning.specs.WellFormed.{IsFine}
use Rattle.fancy_meaning.specs.Assertions.{holds, assertion_within, is_of_end}
use Rattle.fancy_meaning.specs.Moves.{past_char}
use Rattle.fancy_meaning.specs.MatchState.{MatchState, Ways, stays, fails, one_of, moved_to, with_span}
use Rattle.fancy_meaning.specs.Loops.{prefer, repeats}
use Rattle.fancy_meaning.specs.Ways.{Setting, ways_with, each_ways, moves, asserts, captured}
use Rattle.fancy_meaning.specs.Constructs.{LoopForm, Never, AtMostOnce, Epsilon, Star, Plus, Counted, loop_form}
use Rattle.fancy_delegation.proofs.Everywhere.{Everywhere, EachBelow}
use Rattle.fancy_nfa_laws.specs.NfaStates.{CharTest, AnyChar, OneChar, InClass, Loop}
use Rattle.fancy_nfa_laws.specs.NfaCode.{a_loop}
use Rattle.fancy_nfa_laws.specs.NfaSearch.{LoopCounter, passes, has_stayed, is_over, next_counter}

pub data Task : Type 0 where
  Takes : CharTest → Task
  Asserts : Assertion → Task
  -- a group with its number and body, and its end with the place where it began
  Opens : (group : ℕ) → Tree → Task
  Closes : (group from : ℕ) → Task
  -- one of several branches, the first or a further choice
  Chooses : (is_first : Bool) → Tree → Trees → Task
  -- the body, or not
  May : (greedy : Bool) → Tree → Task
  -- at the head of a loop over a body that takes something, and before its first iteration where one is required
  Stars StartsPlus : (greedy : Bool) → Tree → Task
  -- a loop that counts, and at its head
  Counts : Loop → Tree → Task
  Iterates : Loop → Tree → LoopCounter → Task
  -- to the head of a loop, or behind the last branch
  Jumps : Task
  Joins : Task

pub data TaskStep : Type 0 where
  Found Lost : TaskStep
  Goes : List Task → MatchState → TaskStep
  -- the first of these, and if it has no way the next; all from this state
  Tries : (is_memoized : Bool) → List (List Task) → MatchState → TaskStep

module _ (a : Analysis) where
  abbrev pub may_be_empty : Tree → Bool
  may_be_empty e = (size a.tree e).least == 0

  abbrev pub with_loop : Bool → Tree → (List Task → List Task) → LoopForm → List Task → List Task
  with_loop greedy e with_body Never ts = ts
  with_loop greedy e with_body AtMostOnce ts = May greedy e ∷ Joins ∷ ts
  with_loop greedy e with_body (Epsilon lo) ts = Counts (a_loop lo None greedy true) e ∷ Joins ∷ ts
  with_loop greedy e with_body Star ts = Stars greedy e ∷ ts
  with_loop greedy e with_body Plus ts = StartsPlus greedy e ∷ ts
  with_loop greedy e with_body (Counted lo hi) ts = Counts (a_loop lo hi greedy false) e ∷ Joins ∷ ts

  -- a node and then these
  abbrev mutual
    pub with_node : Tree → List Task → List Task
    with_node (Any newline crlf) ts = Takes (AnyChar newline crlf) ∷ ts
    with_node (Literal c casei) ts = Takes (OneChar c casei) ∷ ts
    with_node (Delegate inner casei) ts = Takes (InClass inner casei) ∷ ts
    with_node (Assert within x) ts = Asserts (assertion_within within x) ∷ ts
    with_node (Concat es) ts = with_nodes es ts
    with_node (Alt es) ts = with_branches true es (Joins ∷ ts)
    with_node (Group g e) ts = Opens g e ∷ ts
    with_node (Repeat lo hi greedy e) ts =
        with_loop greedy e (with_node e) (loop_form lo hi (may_be_empty e)) ts
    with_node e ts = ts

    pub with_nodes : Trees → List Task → List Task
    with_nodes none ts = ts
    with_nodes (more e es) ts = with_node e (with_nodes es ts)

    -- one of these branches, and then these
    pub with_branches : Bool → Trees → List Task → List Task
    with_branches is_first none ts = ts
    with_branches is_first (more e none) ts = with_node e ts
    with_branches is_first (more e (more f es)) ts = Chooses is_first e (more f es) ∷ ts

  -- the tasks of neighbouring nodes
  abbrev pub tasks_of : List Tree → List Task
  tasks_of [] = []
  tasks_of (e ∷ es) = with_node e (tasks_of es)

  abbrev pub tries_in_order : Bool → List Task → List Task → MatchState → TaskStep
  tries_in_order true on off m = Tries true (on ∷ off ∷ []) m
  tries_in_order false on off m = Tries true (off ∷ on ∷ []) m

  module _ (q : Setting) where
    abbrev pub goes_past : List Task → MatchState → Option ℕ → TaskStep
    goes_past ts m None = Lost
    goes_past ts m (Some i) = Goes ts (moved_to i m)

    abbrev pub counter_step : Loop → Tree → LoopCounter → List Task → MatchState → TaskStep
    counter_step loop e t ts m =
        let on = with_node e (Jumps ∷ Iterates loop e (next_counter loop m.place t) ∷ ts) in
        if is_over loop m.place t then Tries true (ts ∷ []) m
        else if nat_lt t.count loop.lo then Tries true (on ∷ []) m
        else tries_in_order loop.greedy on ts m

    -- where these tasks lead from a state
    abbrev pub task_step : List Task → MatchState → TaskStep
    task_step [] m = Found
    task_step (Takes test ∷ ts) m = goes_past ts m (past_char q.text (passes q.text q.unicode test) m.place)
    task_step (Asserts x ∷ ts) m =
        if holds q.text m.place q.unicode x
        then Goes ts (if is_of_end x then record m { text_end = true } else m) else Lost
    task_step (Opens g e ∷ ts) m = Goes (with_node e (Closes g m.place ∷ ts)) m
    task_step (Closes g from ∷ ts) m = Goes ts (with_span g (from, m.place) m)
    task_step (Chooses is_first e es ∷ ts) m =
        Tries false (with_node e (Jumps ∷ ts) ∷ with_branches false es ts ∷ []) m
    task_step (May true e ∷ ts) m = Tries false (with_node e ts ∷ ts ∷ []) m
    task_step (May false e ∷ ts) m = Tries false (ts ∷ with_node e ts ∷ []) m
    task_step (Stars greedy e ∷ ts) m =
        tries_in_order greedy (with_node e (Jumps ∷ Stars greedy e ∷ ts)) ts m
    task_step (StartsPlus greedy e ∷ ts) m = Goes (with_node e (Jumps ∷ Stars greedy e ∷ ts)) m
    task_step (Counts loop e ∷ ts) m = Goes (Iterates loop e (record { count = 0; since = None }) ∷ ts) m
    task_step (Iterates loop e t ∷ ts) m = counter_step loop e t ts m
    task_step (Jumps ∷ ts) m = Goes ts m
    task_step (Joins ∷ ts) m = Tries true (ts ∷ []) m

    -- ---- the ways of tasks

    abbrev pub plain_ways : Tree → Ways
    plain_ways e = ways_with q (λ g. fails) e

    abbrev pub counter_ways : Loop → Tree → LoopCounter → Ways
    counter_ways loop e t m =
        if has_stayed m.place t.since then m ∷ []
        else repeats q.text (loop.lo - t.count) (option_map (λ hi. hi - t.count) loop.hi) loop.greedy (plain_ways e) m

    abbrev pub ways_of_task : Task → Ways
    ways_of_task (Takes test) = moves q (past_char q.text (passes q.text q.unicode test))
    ways_of_task (Asserts x) = asserts q x
    ways_of_task (Opens g e) = captured g (plain_ways e)
    ways_of_task (Closes g from) = λ m. with_span g (from, m.place) m ∷ []
    ways_of_task (Chooses is_first e es) = one_of (plain_ways e ∷ each_ways q (λ g. fails) es)
    ways_of_task (May greedy e) = λ m. prefer greedy (plain_ways e m) (m ∷ [])
    ways_of_task (Stars greedy e) = repeats q.text 0 None greedy (plain_ways e)
    ways_of_task (StartsPlus greedy e) = repeats q.text 1 None greedy (plain_ways e)
    ways_of_task (Counts loop e) = repeats q.text loop.lo loop.hi loop.greedy (plain_ways e)
    ways_of_task (Iterates loop e t) = counter_ways loop e t
    ways_of_task Jumps = stays
    ways_of_task Joins = stays

    abbrev pub ways_of_tasks : List Task → Ways
    ways_of_tasks [] = stays
    ways_of_tasks (t ∷ ts) = λ m. Rattle.std.specs.Prelude.flat_map (ways_of_tasks ts) (ways_of_task t m)

  -- ---- what is kept to: easy bodies, which take something where the loop goes by it

  -- not hard, and all below has branches and bounds in order
  abbrev pub IsEasy : Tree → Type 0
  IsEasy e = (is_hard a e ≡ false) × Everywhere IsFine e

  abbrev pub AreAllEasy : Trees → Type 0
  AreAllEasy es = (any_hard a es ≡ false) × EachBelow IsFine es

  abbrev pub TakesSomething : Tree → Type 0
  TakesSomething e = may_be_empty e ≡ false

  -- a loop without a bound asks whether its iterations move, or over a body that takes something does not
  abbrev pub LoopFits : Loop → Tree → Type 0
  LoopFits loop e = IsAsked loop.hi loop.asks_moved
    where
      IsAsked : Option ℕ → Bool → Type 0
      IsAsked None true = may_be_empty e ≡ true
      IsAsked None false = TakesSomething e
      IsAsked (Some hi) true = ⊥
      IsAsked (Some hi) false = loop.lo ≤ hi

  abbrev pub CountFits : Loop → Option ℕ → ℕ → Type 0
  CountFits loop None count = count ≤ loop.lo
  CountFits loop (Some hi) count = count ≤ hi

  abbrev pub SinceFits : Loop → Option ℕ → ℕ → Type 0
  SinceFits loop None place = Unit {0}
  SinceFits loop (Some since) place = (since ≤ place) × (loop.asks_moved ≡ true)

  abbrev pub TaskFits : ℕ → Task → Type 0
  TaskFits place (Takes test) = Unit {0}
  TaskFits place (Asserts x) = Unit {0}
  TaskFits place (Opens g e) = IsEasy e
  TaskFits place (Closes g from) = Unit {0}
  TaskFits place (Chooses is_first e es) = IsEasy e × AreAllEasy es × IsFine (Alt es)
  TaskFits place (May greedy e) = IsEasy e
  TaskFits place (Stars greedy e) = IsEasy e × TakesSomething e
  TaskFits place (StartsPlus greedy e) = IsEasy e × TakesSomething e
  TaskFits place (Counts loop e) = IsEasy e × LoopFits loop e
  TaskFits place (Iterates loop e t) =
      IsEasy e × LoopFits loop e × CountFits loop loop.hi t.count × SinceFits loop t.since place
  TaskFits place Jumps = Unit {0}
  TaskFits place Joins = Unit {0}

  abbrev pub TasksFit : ℕ → List Task → Type 0
  TasksFit place [] = Unit {0}
  TasksFit place (t ∷ ts) = TaskFits place t × TasksFit place ts
