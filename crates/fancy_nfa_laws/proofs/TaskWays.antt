-- The tasks of easy nodes have the ways of the nodes, and are kept to.
use Rattle.std.proofs.Common.{◌≡◌, ℕ, zero, suc, ◌≤◌, Bool, true, false, List, [], ◌∷◌, flat_map, Option, Some, None, refl, sym, ap, ◌∙◌, append-nil, arith}
use Rattle.std.proofs.lemmas.Grind.{flat_map-append}
use Rattle.fancy_meaning.specs.Tree.{Tree, Trees, none, more, Empty, Any, Assert, Literal, Delegate, Concat, Alt, Group, Repeat, DefineGroup}
use Rattle.fancy_meaning.specs.Options.{Analysis}
use Rattle.fancy_meaning.specs.WellFormed.{IsFine}
use Rattle.fancy_meaning.specs.MatchState.{MatchState, Ways, stays, fails, in_order, one_of}
use Rattle.fancy_meaning.specs.Loops.{prefer}
use Rattle.fancy_meaning.specs.Ways.{Setting, each_ways}
use Rattle.fancy_meaning.specs.Constructs.{loop_form}
use Rattle.fancy_delegation.proofs.Binding.{flat_map_through, flat_map_same}
use Rattle.fancy_delegation.proofs.EasyNodes.{easy_group, easy_repeat, easy_concat, easy_alt, easy_each}
use Rattle.fancy_delegation.proofs.Everywhere.{everywhere_from}
use Rattle.fancy_delegation.proofs.Items.{contained_is_in}
use Rattle.fancy_nfa_laws.specs.NfaStates.{Loop}
use Rattle.fancy_nfa_laws.specs.FirstWays.{ways_of_nodes, AreEasy}
use Rattle.fancy_nfa_laws.proofs.Tasks.{Task, Iterates, Joins, may_be_empty, with_loop, with_node, with_nodes, with_branches, tasks_of, plain_ways, ways_of_tasks, IsEasy, AreAllEasy, SinceFits, TaskFits, TasksFit}

-- ---- lists of ways

pub flat_map_stays : (xs : List MatchState) → flat_map stays xs ≡ xs
flat_map_stays [] = refl
flat_map_stays (x ∷ xs) = ap (λ l. x ∷ l) (flat_map_stays xs)

pub flat_map_prefer : (f : Ways) (greedy : Bool) (on off : List MatchState) →
    flat_map f (prefer greedy on off) ≡ prefer greedy (flat_map f on) (flat_map f off)
flat_map_prefer f true on off = flat_map-append f on off
flat_map_prefer f false on off = flat_map-append f off on

pub flat_map_one : (f : Ways) (m : MatchState) → flat_map f (m ∷ []) ≡ f m
flat_map_one f m = append-nil (f m)

pub each_easy : (a : Analysis) (e : Tree) (es : Trees) → AreAllEasy a (more e es) → IsEasy a e × AreAllEasy a es
each_easy a e es h = let p = easy_each a e es h.0 in ((p.0, (h.1).0), (p.1, (h.1).1))

module _ (a : Analysis) (q : Setting) where
  -- a node's tasks before others have the node's ways before those of the others
  abbrev Leads : (List Task → List Task) → Ways → Type 0
  Leads with_it w = (ts : List Task) (m : MatchState) → ways_of_tasks a q (with_it ts) m ≡ flat_map (ways_of_tasks a q ts) (w m)

  nothing_leads : Leads (λ ts. ts) stays
  nothing_leads ts m = sym (flat_map_one (ways_of_tasks a q ts) m)

  -- behind its ways comes a task that takes nothing
  joins_after : (ts : List Task) (w : List MatchState) → flat_map (ways_of_tasks a q (Joins ∷ ts)) w ≡ flat_map (ways_of_tasks a q ts) w
  joins_after ts w =
      flat_map_same (ways_of_tasks a q (Joins ∷ ts)) (ways_of_tasks a q ts) (λ x. flat_map_one (ways_of_tasks a q ts) x) w

  loop_steps : (lo : ℕ) (hi : Option ℕ) (greedy : Bool) (e : Tree) (v : Bool) → IsFine (Repeat lo hi greedy e) →
      Leads (with_loop a greedy e (with_node a e) (loop_form lo hi v)) (plain_ways a q (Repeat lo hi greedy e))
  loop_steps (suc lo) (Some zero) greedy e v fine ts m = let le = fine.1.0 in absurd (omega (arith, le))
  loop_steps zero (Some zero) greedy e v fine ts m = nothing_leads ts m
  loop_steps zero (Some (suc zero)) greedy e v fine ts m =
      joins_after ts (prefer greedy (plain_ways a q e m) (m ∷ []))
      ∙ ap (λ l. flat_map (ways_of_tasks a q ts) (prefer greedy l (m ∷ []))) (sym (flat_map_stays (plain_ways a q e m)))
  loop_steps zero (Some (suc (suc hi))) greedy e v fine ts m = joins_after ts _
  loop_steps (suc lo) (Some (suc hi)) greedy e v fine ts m = joins_after ts _
  loop_steps lo None greedy e true fine ts m = joins_after ts _
  loop_steps zero None greedy e false fine ts m = refl
  loop_steps (suc zero) None greedy e false fine ts m = refl
  loop_steps (suc (suc lo)) None greedy e false fine ts m = joins_after ts _

  mutual
    pub node_steps : (e : Tree) → IsEasy a e → Leads (with_node a e) (plain_ways a q e)
    node_steps Empty h ts m = nothing_leads ts m
    node_steps (DefineGroup e) h ts m = nothing_leads ts m
    node_steps (Any newline crlf) h ts m = refl
    node_steps (Literal c casei) h ts m = refl
    node_steps (Delegate inner casei) h ts m = refl
    node_steps (Assert within x) h ts m = refl
    node_steps (Group g e) h ts m = refl
    node_steps (Concat es) h ts m = nodes_step es (easy_concat a es h.0, (h.1).1) ts m
    node_steps (Alt es) h ts m =
        branches_step true es (easy_alt a es h.0, (h.1).1) (h.1).0 (Joins ∷ ts) m
        ∙ joins_after ts (one_of (each_ways q (λ g. fails) es) m)
    node_steps (Repeat lo hi greedy e) h ts m = loop_steps lo hi greedy e (may_be_empty a e) (h.1).0 ts m
    node_steps e h ts m = cc

    pub nodes_step : (es : Trees) → AreAllEasy a es → Leads (with_nodes a es) (in_order (each_ways q (λ g. fails) es))
    nodes_step none h ts m = nothing_leads ts m
    nodes_step (more e es) h ts m =
        let parts = each_easy a e es h in
        node_steps e parts.0 (with_nodes a es ts) m
        ∙ flat_map_same (ways_of_tasks a q (with_nodes a es ts))
        (λ x. flat_map (ways_of_tasks a q ts) (in_order (each_ways q (λ g. fails) es) x)) (nodes_step es parts.1 ts)
        (plain_ways a q e m)
        ∙ sym (flat_map_through (in_order (each_ways q (λ g. fails) es)) (ways_of_tasks a q ts) (plain_ways a q e m))

    pub branches_step : (is_first : Bool) (es : Trees) → AreAllEasy a es → IsFine (Alt es) →
        Leads (with_branches a is_first es) (one_of (each_ways q (λ g. fails) es))
    branches_step is_first none h some ts m = absurd some
    branches_step is_first (more e none) h some ts m =
        node_steps e (each_easy a e none h).0 ts m
        ∙ ap (flat_map (ways_of_tasks a q ts)) (sym (append-nil (plain_ways a q e m)))
    branches_step is_first (more e (more f es)) h some ts m = refl

-- ---- what is kept to

module _ (a : Analysis) where
  since_fits_on : (loop : Loop) (since : Option ℕ) (i j : ℕ) → i ≤ j → SinceFits a loop since i → SinceFits a loop since j
  since_fits_on loop None i j le h = tt
  since_fits_on loop (Some since) i j le h = (let from = h.0 in omega (arith, from, le), h.1)

  task_fits_on : (t : Task) (i j : ℕ) → i ≤ j → TaskFits a i t → TaskFits a j t
  task_fits_on (Iterates loop e t) i j le h = (h.0, h.1, h.2, since_fits_on loop t.since i j le h.3)
  task_fits_on t i j le h = h

  -- further on in the text they still fit
  pub tasks_fit_on : (ts : List Task) (i j : ℕ) → i ≤ j → TasksFit a i ts → TasksFit a j ts
  tasks_fit_on [] i j le h = tt
  tasks_fit_on (t ∷ ts) i j le h = (task_fits_on t i j le h.0, tasks_fit_on ts i j le h.1)

  -- a node's tasks fit before others that do
  abbrev Fits : (List Task → List Task) → Type 0
  Fits with_it = (place : ℕ) (ts : List Task) → TasksFit a place ts → TasksFit a place (with_it ts)

  loop_fits : (lo : ℕ) (hi : Option ℕ) (greedy : Bool) (e : Tree) (v : Bool) → may_be_empty a e ≡ v →
      IsEasy a e → IsFine (Repeat lo hi greedy e) → Fits (with_loop a greedy e (with_node a e) (loop_form lo hi v))
  loop_fits lo (Some zero) greedy e v is h fine place ts fit = fit
  loop_fits zero (Some (suc zero)) greedy e v is h fine place ts fit = (h, (tt, fit))
  loop_fits zero (Some (suc (suc hi))) greedy e v is h fine place ts fit = ((h, fine.1.0), (tt, fit))
  loop_fits (suc lo) (Some (suc hi)) greedy e v is h fine place ts fit = ((h, fine.1.0), (tt, fit))
  loop_fits lo None greedy e true is h fine place ts fit = ((h, is), (tt, fit))
  loop_fits zero None greedy e false is h fine place ts fit = ((h, is), fit)
  loop_fits (suc zero) None greedy e false is h fine place ts fit = ((h, is), fit)
  loop_fits (suc (suc lo)) None greedy e false is h fine place ts fit = ((h, is), (tt, fit))

  mutual
    pub node_fits : (e : Tree) → IsEasy a e → Fits (with_node a e)
    node_fits Empty h place ts fit = fit
    node_fits (DefineGroup e) h place ts fit = fit
    node_fits (Any newline crlf) h place ts fit = (tt, fit)
    node_fits (Literal c casei) h place ts fit = (tt, fit)
    node_fits (Delegate inner casei) h place ts fit = (tt, fit)
    node_fits (Assert within x) h place ts fit = (tt, fit)
    node_fits (Group g e) h place ts fit = (((easy_group a g e h.0).1, (h.1).1), fit)
    node_fits (Concat es) h place ts fit = nodes_fit es (easy_concat a es h.0, (h.1).1) place ts fit
    node_fits (Alt es) h place ts fit =
        branches_fit true es (easy_alt a es h.0, (h.1).1) (h.1).0 place (Joins ∷ ts) (tt, fit)
    node_fits (Repeat lo hi greedy e) h place ts fit =
        loop_fits lo hi greedy e (may_be_empty a e) refl (easy_repeat a lo hi greedy e h.0, (h.1).1) (h.1).0 place ts fit
    node_fits e h place ts fit = cc

    nodes_fit : (es : Trees) → AreAllEasy a es → Fits (with_nodes a es)
    nodes_fit none h place ts fit = fit
    nodes_fit (more e es) h place ts fit =
        let parts = each_easy a e es h in
        node_fits e parts.0 place (with_nodes a es ts) (nodes_fit es parts.1 place ts fit)

    pub branches_fit : (is_first : Bool) (es : Trees) → AreAllEasy a es → IsFine (Alt es) → Fits (with_branches a is_first es)
    branches_fit is_first none h some place ts fit = fit
    branches_fit is_first (more e none) h some place ts fit = node_fits e (each_easy a e none h).0 place ts fit
    branches_fit is_first (more e (more f es)) h some place ts fit =
        let parts = each_easy a e (more f es) h in ((parts.0, parts.1, tt), fit)

-- ---- neighbouring nodes

first_easy : (a : Analysis) (e : Tree) (es : List Tree) → AreEasy a (e ∷ es) → IsEasy a e
first_easy a e es h = (h.0, everywhere_from IsFine e (λ d i. h.1 d (contained_is_in i)))

pub tasks_have_ways : (q : Setting) (a : Analysis) (es : List Tree) (m : MatchState) → AreEasy a es →
    ways_of_tasks a q (tasks_of a es) m ≡ ways_of_nodes q es m
tasks_have_ways q a [] m h = refl
tasks_have_ways q a (e ∷ es) m h =
    node_steps a q e (first_easy a e es h) (tasks_of a es) m
    ∙ flat_map_same (ways_of_tasks a q (tasks_of a es)) (ways_of_nodes q es) (λ x. tasks_have_ways q a es x h.2)
    (plain_ways a q e m)

pub tasks_of_fit : (a : Analysis) (es : List Tree) (place : ℕ) → AreEasy a es → TasksFit a place (tasks_of a es)
tasks_of_fit a [] place h = tt
tasks_of_fit a (e ∷ es) place h =
    node_fits a e (first_easy a e es h) place (tasks_of a es) (tasks_of_fit a es place h.2)
