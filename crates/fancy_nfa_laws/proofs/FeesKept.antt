-- Each step of the search keeps to the fees.
use Rattle.std.proofs.Common.{◌≡◌, ℕ, suc, ◌+◌, Bool, true, false, List, [], ◌∷◌, ◌++◌, length, Option, Some, None, if◌then◌else◌, nat_lt, slice_get, sym, subst, arith, length-append}
use Rattle.fancy_meaning.specs.Tree.{Tree, Trees, none, more}
use Rattle.fancy_meaning.specs.Options.{Analysis}
use Rattle.fancy_meaning.specs.Assertions.{holds, is_of_end}
use Rattle.fancy_meaning.specs.Moves.{past_char}
use Rattle.fancy_meaning.specs.MatchState.{MatchState, with_span}
use Rattle.fancy_meaning.specs.Ways.{Setting}
use Rattle.fancy_nfa_laws.specs.NfaStates.{Loop, NfaState, Match, Character, Holds, Open, Close, Split, BranchSplit, LoopSplit, Jump, Join, CounterBegin, CounterLoop}
use Rattle.fancy_nfa_laws.specs.NfaCode.{preferring, laid, each_laid, branches}
use Rattle.fancy_nfa_laws.specs.NfaSearch as search
use Rattle.fancy_nfa_laws.specs.NfaSearch.{LoopCounter, NfaConfig, StepResult, step_by, step_at, step_result, is_counted, passes, is_over, next_counter, counter_loop_step, choice_step, close_step, forward, goes_to}
use Rattle.fancy_nfa_laws.proofs.Tasks.{Task, TaskStep, Found, Lost, Goes, Tries, task_step, goes_past, counter_step, tries_in_order, Takes, Asserts, Opens, Closes, Chooses, May, Stars, StartsPlus, Counts, Iterates, Jumps, Joins, with_node, with_branches}
use Rattle.fancy_nfa_laws.proofs.Standing.{IsConfigOf}
use Rattle.fancy_nfa_laws.proofs.StepLaws.{StepIsHere}
use Rattle.fancy_nfa_laws.proofs.Weights.{weigh, weight}
use Rattle.fancy_nfa_laws.proofs.Fees.{Fee, keys_of, fee_with, node_fees, branch_fees}
use Rattle.fancy_nfa_laws.proofs.Segments.{LiesAt, lies_front, lies_behind}
use Rattle.fancy_nfa_laws.proofs.CounterLoops.{CounterLoopLaid, stands_head, stands_counters, counters_of}
use Rattle.fancy_nfa_laws.proofs.FeePlaces.{FeesStand, LieBefore, around_of, config_here, node_stands, branches_stand, node_as_long, branch_as_long}

module _ (q : Setting) (a : Analysis) (states : List NfaState) (fees : List (Option Fee)) where
  abbrev FeeStands : ℕ → List Task → Type 0
  FeeStands p ts = FeesStand a states fees p ts

  -- where the search is led, the tasks stand among the fees
  abbrev pub KeepsFees : StepResult → TaskStep → Type 0
  KeepsFees = StepIsHere (λ s ts. FeeStands s.at ts)

  -- the state is known
  kept_at : (p : NfaState) (s : NfaConfig) (k : TaskStep) → slice_get states s.at ≡ Some p → KeepsFees (step_by q.text q.unicode p s) k →
      KeepsFees (step_result q.text q.unicode states s) k
  kept_at p s k e h = subst (λ o. KeepsFees (step_at q.text q.unicode o s) k) (sym e) h

  past_kept : (s : NfaConfig) (ts : List Task) (m : MatchState) (i j : Option ℕ) → FeeStands (s.at + 1) ts →
      KeepsFees (search.goes_past s i) (goes_past a q ts m j)
  past_kept s ts m None None h = tt
  past_kept s ts m None (Some j) h = tt
  past_kept s ts m (Some i) None h = tt
  past_kept s ts m (Some i) (Some j) h = h

  if_kept : (s : NfaConfig) (ts : List Task) (m : MatchState) (b c : Bool) → FeeStands s.at ts →
      KeepsFees (if b then search.Goes s else search.Lost) (if c then Goes ts m else Lost)
  if_kept s ts m true true h = h
  if_kept s ts m true false h = tt
  if_kept s ts m false true h = tt
  if_kept s ts m false false h = tt

  close_kept : (g : ℕ) (s : NfaConfig) (opened : List ℕ) (ts : List Task) (m : MatchState) → FeeStands (s.at + 1) ts →
      KeepsFees (close_step g s opened) (Goes ts m)
  close_kept g s [] ts m h = h
  close_kept g s (from ∷ opened) ts m h = h

  -- what is between one fee and another
  inside : (p : ℕ) (n k : Option Fee) (ns : List (Option Fee)) (ts : List Task) → LieBefore a states fees p (n ∷ (ns ++ (k ∷ []))) ts →
      LiesAt fees (p + 1) ns × FeeStands (p + 1 + length ns + 1) ts
  inside p n k ns ts h =
      let both = length-append ns (k ∷ []) in (
        lies_front fees (p + 1) ns (k ∷ []) h.0.1,
        config_here a states fees (p + length (n ∷ (ns ++ (k ∷ [])))) (p + 1 + length ns + 1) ts (omega (arith, both)) h.1,
      )

  opens_kept : (s : NfaConfig) (g : ℕ) (e : Tree) (ts : List Task) (m : MatchState) → CounterLoopLaid a states s.at (Opens g e ∷ ts) →
      FeeStands s.at (Opens g e ∷ ts) → KeepsFees (step_result q.text q.unicode states s) (task_step a q (Opens g e ∷ ts) m)
  opens_kept s g e ts m is h =
      kept_at Open s (Goes (with_node a e (Closes g m.place ∷ ts)) m) is.0
      (node_stands a states fees e (Closes g m.place ∷ ts) (s.at + 1)
      (inside s.at None None (node_fees a e (around_of ts) (weight a ts)) ts h))

  -- ---- alternations and bodies that may be left out

  -- the first branch, and the others
  branch_stands : (p : ℕ) (is_first : Bool) (e f : Tree) (es : Trees) (ts : List Task) →
      CounterLoopLaid a states p (Chooses is_first e (more f es) ∷ ts) → FeeStands p (Chooses is_first e (more f es) ∷ ts) →
      FeeStands (p + 1) (with_node a e (Jumps ∷ ts))
      × FeeStands (p + 1 + length (laid a.tree e (p + 1)) + 1) (with_branches a false (more f es) ts)
  branch_stands p is_first e f es ts is h =
      let cs = around_of ts in
      let x = weight a ts in
      let first = laid a.tree e (p + 1) in
      let other = p + 1 + length first + 1 in
      let second = branches BranchSplit (each_laid a.tree (more f es)) other in
      let ns = node_fees a e cs x in
      let ks = branch_fees a (more f es) cs x in
      let same : length ns ≡ length first = node_as_long a e cs x (p + 1) in
      let same' : length ks ≡ length second = branch_as_long a BranchSplit (more f es) cs x other in
      let both : length (ns ++ (None ∷ ks)) ≡ length ns + length (None ∷ ks) = length-append ns (None ∷ ks) in
      let jump : LiesAt states (p + 1 + length ns) (Jump (other + length second) ∷ second) =
      lies_behind states (p + 1) (p + 1 + length ns) first (Jump (other + length second) ∷ second) (omega (arith, same)) is.1 in
      let before = lies_front fees (p + 1) ns (None ∷ ks) h.0.1 in
      let frames : LiesAt fees (p + 1 + length first) (None ∷ ks) =
      lies_behind fees (p + 1) (p + 1 + length first) ns (None ∷ ks) (omega (arith, same)) h.0.1 in
      let after : FeeStands (other + length second) ts =
      config_here a states fees (p + length (None ∷ (ns ++ (None ∷ ks)))) (other + length second) ts
      (omega (arith, same, same', both)) h.1 in (
        node_stands a states fees e (Jumps ∷ ts) (p + 1) (before, (other + length second, jump.0, after)),
        branches_stand a states fees false (more f es) ts other
            (frames.1, config_here a states fees (other + length second) (other + length ks) ts (omega (arith, same')) after),
      )

  chooses_kept : (s : NfaConfig) (is_first : Bool) (e f : Tree) (es : Trees) (ts : List Task) (m : MatchState) →
      CounterLoopLaid a states s.at (Chooses is_first e (more f es) ∷ ts) → FeeStands s.at (Chooses is_first e (more f es) ∷ ts) →
      KeepsFees (step_result q.text q.unicode states s) (task_step a q (Chooses is_first e (more f es) ∷ ts) m)
  chooses_kept s true e f es ts m is h =
      let on = s.at + 1 in
      let off = s.at + 1 + length (laid a.tree e (s.at + 1)) + 1 in
      let config = branch_stands s.at true e f es ts is h in
      kept_at (Split on off) s (task_step a q (Chooses true e (more f es) ∷ ts) m) is.0 (config.0, (config.1, tt))
  chooses_kept s false e f es ts m is h =
      let on = s.at + 1 in
      let off = s.at + 1 + length (laid a.tree e (s.at + 1)) + 1 in
      let config = branch_stands s.at false e f es ts is h in
      kept_at (BranchSplit on off) s (task_step a q (Chooses false e (more f es) ∷ ts) m) is.0 (config.0, (config.1, tt))

  may_stand : (p : ℕ) (greedy : Bool) (e : Tree) (ts : List Task) → FeeStands p (May greedy e ∷ ts) →
      FeeStands (p + 1) (with_node a e ts) × FeeStands (p + 1 + length (laid a.tree e (p + 1))) ts
  may_stand p greedy e ts h =
      let ns = node_fees a e (around_of ts) (weight a ts) in
      let same = node_as_long a e (around_of ts) (weight a ts) (p + 1) in (
        node_stands a states fees e ts (p + 1)
            (h.0.1, config_here a states fees (p + length (None ∷ ns)) (p + 1 + length ns) ts (omega arith) h.1),
        config_here a states fees (p + length (None ∷ ns)) (p + 1 + length (laid a.tree e (p + 1))) ts (omega (arith, same)) h.1,
      )

  may_kept : (s : NfaConfig) (greedy : Bool) (e : Tree) (ts : List Task) (m : MatchState) → CounterLoopLaid a states s.at (May greedy e ∷ ts) →
      FeeStands s.at (May greedy e ∷ ts) → KeepsFees (step_result q.text q.unicode states s) (task_step a q (May greedy e ∷ ts) m)
  may_kept s true e ts m is h =
      let config = may_stand s.at true e ts h in
      kept_at (Split (s.at + 1) (s.at + 1 + length (laid a.tree e (s.at + 1)))) s (task_step a q (May true e ∷ ts) m) is.0
      (config.0, (config.1, tt))
  may_kept s false e ts m is h =
      let config = may_stand s.at false e ts h in
      kept_at (Split (s.at + 1 + length (laid a.tree e (s.at + 1))) (s.at + 1)) s (task_step a q (May false e ∷ ts) m) is.0
      (config.1, (config.0, tt))

  -- ---- loops

  -- the body of a loop, and what is behind
  body_stands : (p : ℕ) (n : Option Fee) (nfa_state : NfaState) (e : Tree) (us ts : List Task) →
      LiesAt states p (nfa_state ∷ (laid a.tree e (p + 1) ++ (Jump p ∷ []))) →
      LieBefore a states fees p (n ∷ (node_fees a e (around_of us) (weight a us) ++ (None ∷ []))) ts → FeeStands p us →
      FeeStands (p + 1) (with_node a e (Jumps ∷ us))
      × FeeStands (p + 1 + length (laid a.tree e (p + 1) ++ (Jump p ∷ []))) ts
  body_stands p n nfa_state e us ts is h k =
      let ns = node_fees a e (around_of us) (weight a us) in
      let code = laid a.tree e (p + 1) in
      let same : length ns ≡ length code = node_as_long a e (around_of us) (weight a us) (p + 1) in
      let both : length (code ++ (Jump p ∷ [])) ≡ length code + length (Jump p ∷ []) = length-append code (Jump p ∷ []) in
      let jump : LiesAt states (p + 1 + length ns) (Jump p ∷ []) =
      lies_behind states (p + 1) (p + 1 + length ns) code (Jump p ∷ []) (omega (arith, same)) is.1 in
      let within = inside p n None ns ts h in (
        node_stands a states fees e (Jumps ∷ us) (p + 1) (within.0, (p, jump.0, k)),
        config_here a states fees (p + 1 + length ns + 1) (p + 1 + length (code ++ (Jump p ∷ []))) ts (omega (arith, same, both)) within.1,
      )

  loop_split_kept : (s : NfaConfig) (on off : ℕ) (us ts : List Task) (m : MatchState) (greedy : Bool) → FeeStands on us → FeeStands off ts →
      KeepsFees (step_by q.text q.unicode (preferring LoopSplit greedy on off) s) (tries_in_order a greedy us ts m)
  loop_split_kept s on off us ts m true h k = (h, (k, tt))
  loop_split_kept s on off us ts m false h k = (k, (h, tt))

  stars_kept : (s : NfaConfig) (greedy : Bool) (e : Tree) (ts : List Task) (m : MatchState) → CounterLoopLaid a states s.at (Stars greedy e ∷ ts) →
      FeeStands s.at (Stars greedy e ∷ ts) → KeepsFees (step_result q.text q.unicode states s) (task_step a q (Stars greedy e ∷ ts) m)
  stars_kept s greedy e ts m is h =
      let p = s.at in
      let after = p + 1 + length (laid a.tree e (p + 1) ++ (Jump p ∷ [])) in
      let head = preferring LoopSplit greedy (p + 1) after in
      let us = Stars greedy e ∷ ts in
      let config = body_stands p (fee_with (around_of ts) (1 + weigh a e 0 + weight a ts)) head e us ts is h h in
      kept_at head s (task_step a q us m) is.0
      (loop_split_kept s (p + 1) after (with_node a e (Jumps ∷ us)) ts m greedy config.0 config.1)

  plus_kept : (s : NfaConfig) (greedy : Bool) (e : Tree) (ts : List Task) (m : MatchState) → CounterLoopLaid a states s.at (StartsPlus greedy e ∷ ts) →
      FeeStands s.at (StartsPlus greedy e ∷ ts) →
      KeepsFees (step_result q.text q.unicode states s) (task_step a q (StartsPlus greedy e ∷ ts) m)
  plus_kept s greedy e ts m is h =
      let p = s.at in
      let after = p + 1 + 1 + length (laid a.tree e (p + 1 + 1) ++ (Jump (p + 1) ∷ [])) in
      let us = Stars greedy e ∷ ts in
      let ns = node_fees a e (around_of ts) 0 ++ (None ∷ []) in
      let behind = config_here a states fees (p + suc (suc (length ns))) (p + 1 + suc (length ns)) ts (omega arith) h.1 in
      let config =
      body_stands (p + 1) (fee_with (around_of ts) (1 + weigh a e 0 + weight a ts)) (preferring LoopSplit greedy (p + 1 + 1) after) e us ts
      is.1 (h.0.1, behind) (h.0.1, behind) in
      kept_at (Jump (p + 2)) s (Goes (with_node a e (Jumps ∷ us)) m) is.0
      (config_here a states fees (p + 1 + 1) (p + 2) (with_node a e (Jumps ∷ us)) (omega arith) config.0)

  counts_kept : (s : NfaConfig) (loop : Loop) (e : Tree) (ts : List Task) (m : MatchState) → CounterLoopLaid a states s.at (Counts loop e ∷ ts) →
      FeeStands s.at (Counts loop e ∷ ts) → KeepsFees (step_result q.text q.unicode states s) (task_step a q (Counts loop e ∷ ts) m)
  counts_kept s loop e ts m is h =
      let p = s.at in
      let ns = node_fees a e (keys_of loop ∷ around_of ts) 0 ++ (None ∷ []) in
      kept_at CounterBegin s (task_step a q (Counts loop e ∷ ts) m) is.0
      (h.0.1, config_here a states fees (p + suc (suc (length ns))) (p + 1 + suc (length ns)) ts (omega arith) h.1)

  choice_kept : (greedy : Bool) (on off : NfaConfig) (us ts : List Task) (m : MatchState) → FeeStands on.at us → FeeStands off.at ts →
      KeepsFees (choice_step greedy on off) (tries_in_order a greedy us ts m)
  choice_kept true on off us ts m h k = (h, (k, tt))
  choice_kept false on off us ts m h k = (k, (h, tt))

  counter_loop_kept : (loop : Loop) (on off : NfaConfig) (us ts : List Task) (m : MatchState) (over begins : Bool) → FeeStands on.at us →
      FeeStands off.at ts →
      KeepsFees
      (if over then search.Tries true off [] else if begins then search.Tries true on [] else choice_step loop.greedy on off)
      (if over then Tries true (ts ∷ []) m else if begins then Tries true (us ∷ []) m else tries_in_order a loop.greedy us ts m)
  counter_loop_kept loop on off us ts m true begins h k = (k, tt)
  counter_loop_kept loop on off us ts m false true h k = (h, tt)
  counter_loop_kept loop on off us ts m false false h k = choice_kept loop.greedy on off us ts m h k

  counters_kept : (s : NfaConfig) (loop : Loop) (e : Tree) (t : LoopCounter) (ts : List Task) (m : MatchState) → s.place ≡ m.place →
      s.counters ≡ t ∷ counters_of ts → CounterLoopLaid a states s.at (Iterates loop e t ∷ ts) → FeeStands s.at (Iterates loop e t ∷ ts) →
      KeepsFees (step_result q.text q.unicode states s) (task_step a q (Iterates loop e t ∷ ts) m)
  counters_kept s loop e t ts m placed counters is h =
      let p = s.at in
      let after = p + 1 + length (laid a.tree e (p + 1) ++ (Jump p ∷ [])) in
      let head = CounterLoop loop after in
      let us = Iterates loop e (next_counter loop m.place t) ∷ ts in
      let config = body_stands p (fee_with (keys_of loop ∷ around_of ts) (1 + weigh a e 0 + weight a ts)) head e us ts is h h in
      let into = with_node a e (Jumps ∷ us) in
      let on = record (forward s) { counters = next_counter loop s.place t ∷ counters_of ts } in
      let off = record (goes_to after s) { counters = counters_of ts } in
      kept_at head s (counter_step a q loop e t ts m) is.0
      (subst (λ vs. KeepsFees (counter_loop_step loop after s vs) (counter_step a q loop e t ts m)) (sym counters)
      (subst (λ i. KeepsFees (counter_loop_step loop after s (t ∷ counters_of ts))
      (if is_over loop i t then Tries true (ts ∷ []) m
      else if nat_lt t.count loop.lo then Tries true (into ∷ []) m else tries_in_order a loop.greedy into ts m))
      placed
      (counter_loop_kept loop on off into ts m (is_over loop s.place t) (nat_lt t.count loop.lo) config.0 config.1)))

  pub fees_kept : (s : NfaConfig) (ts : List Task) (m : MatchState) → IsConfigOf a states s ts m → FeeStands s.at ts →
      KeepsFees (step_result q.text q.unicode states s) (task_step a q ts m)
  fees_kept s ts m is h =
      kept s ts m is h (stands_head a states s.at s.counters s.opened ts is.stands)
    where
      kept : (s : NfaConfig) (ts : List Task) (m : MatchState) → IsConfigOf a states s ts m → FeeStands s.at ts →
          CounterLoopLaid a states s.at ts → KeepsFees (step_result q.text q.unicode states s) (task_step a q ts m)
      kept s [] m is h at = kept_at Match s Found at tt
      kept s (Takes test ∷ ts) m is h at =
          kept_at (Character test) s (task_step a q (Takes test ∷ ts) m) at
          (past_kept s ts m (past_char q.text (passes q.text q.unicode test) s.place)
          (past_char q.text (passes q.text q.unicode test) m.place) h)
      kept s (Asserts x ∷ ts) m is h at =
          kept_at (Holds x) s (task_step a q (Asserts x ∷ ts) m) at
          (if_kept (forward s) ts (if is_of_end x then record m { text_end = true } else m) (holds q.text s.place q.unicode x)
          (holds q.text m.place q.unicode x) h)
      kept s (Opens g e ∷ ts) m is h at = opens_kept s g e ts m at h
      kept s (Closes g from ∷ ts) m is h at =
          kept_at (Close g) s (task_step a q (Closes g from ∷ ts) m) at (close_kept g s s.opened ts (with_span g (from, m.place) m) h)
      kept s (Chooses is_first e none ∷ ts) m is h at = absurd h
      kept s (Chooses is_first e (more f es) ∷ ts) m is h at = chooses_kept s is_first e f es ts m at h
      kept s (May greedy e ∷ ts) m is h at = may_kept s greedy e ts m at h
      kept s (Stars greedy e ∷ ts) m is h at = stars_kept s greedy e ts m at h
      kept s (StartsPlus greedy e ∷ ts) m is h at = plus_kept s greedy e ts m at h
      kept s (Counts loop e ∷ ts) m is h at = counts_kept s loop e ts m at h
      kept s (Iterates loop e t ∷ ts) m is h at =
          counters_kept s loop e t ts m is.place (stands_counters a states s.at s.counters s.opened (Iterates loop e t ∷ ts) is.stands) at h
      kept s (Jumps ∷ ts) m is h at = kept_at (Jump h.0) s (Goes ts m) h.1 h.2
      kept s (Joins ∷ ts) m is h at = kept_at Join s (task_step a q (Joins ∷ ts) m) at (h.1, tt)
