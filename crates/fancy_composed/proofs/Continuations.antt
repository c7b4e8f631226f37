-- What the machine comes to, by how many instructions are left.
use Rattle.std.proofs.Common.{◌≡◌, ℕ, suc, ◌+◌, true, false, if◌then◌else◌, nat_lt, List, [], ◌∷◌, ◌++◌, length, Option, Some, refl, sym, ap, ◌∙◌, subst, arith}
use Rattle.std.specs.Prelude.{slice_get}
use Rattle.std.proofs.Math.Nat.{zero-add, add_assoc}
use Rattle.fancy_meaning.specs.Options.{Plan}
use Rattle.fancy_meaning.specs.Instr.{Instr}
use Rattle.fancy_meaning.specs.Config.{Slots, Branch, Config, Outcome, BacktrackLimitExceeded, StackOverflow, Next, Goes, Ends, push, most_branches}
use Rattle.fancy_meaning.specs.Machine.{Task, fail_to, step, step_at, exec, then_on}
use Rattle.fancy_meaning.specs.Enumerates.{IsBranchLimit}
use Rattle.fancy_meaning.specs.Premises.{IsText}
use Rattle.fancy_meaning.specs.Theorems.{IsProgramFor}

-- an outcome for each number of instructions
abbrev pub Continuation : Type 0
Continuation = ℕ → Outcome

-- a limit on backtracks or branches, or the other outcome
pub data Meets (r p : Outcome) : Type 0 where
  limit : IsBranchLimit r → Meets r p
  same : r ≡ p → Meets r p

-- one continuation leads to another after so many instructions
pub record To (o p : Continuation) : Type 0 where
  pub steps : ℕ
  pub by : (n : ℕ) → Meets (o (steps + n)) (p n)

-- after none
pub to_now : {o p : Continuation} → ((n : ℕ) → Meets (o n) (p n)) → To o p
to_now {o} {p} h = record { steps = 0; by = λ n. subst (λ k. Meets (o k) (p n)) (sym (zero-add n)) (h n) }

pub to_eq : {o p : Continuation} → ((n : ℕ) → o n ≡ p n) → To o p
to_eq e = to_now (λ n. same (e n))

pub to_same : {o : Continuation} → To o o
to_same = to_eq (λ n. refl)

meets_on : {r p q : Outcome} → Meets r p → Meets p q → Meets r q
meets_on (limit l) m = limit l
meets_on (same e) (limit l) = limit (subst IsBranchLimit (sym e) l)
meets_on (same e) (same f) = same (e ∙ f)

pub to_trans : {o p q : Continuation} → To o p → To p q → To o q
to_trans {o} {p} {q} f g = record {
  steps = f.steps + g.steps;
  by = λ n.
      subst (λ k. Meets (o k) (q n)) (sym (add_assoc f.steps g.steps n)) (meets_on (f.by (g.steps + n)) (g.by n));
}

-- the machine goes on
abbrev pub after : Task → Next → Continuation
after t next n = then_on t (exec t n) next

-- what a run carries along: how many backtracks were made, and the numbers of the longest match so far
pub record Tally : Type 0 where
  pub backtracks : ℕ
  pub longest : Option (List ℕ)

abbrev pub tally_of : Config → Tally
tally_of c = record { backtracks = c.backtracks; longest = c.longest }

abbrev pub once_more : Tally → Tally
once_more count = record { backtracks = count.backtracks + 1; longest = count.longest }

-- a configuration with these branches
abbrev pub config : ℕ → ℕ → Slots → List ℕ → List Branch → ℕ → Tally → Config
config pc ix slots marks bs start count =
    record {
      now = record { pc = pc; ix = ix; slots = slots; marks = marks };
      branches = bs;
      start = start;
      backtracks = count.backtracks;
      longest = count.longest;
    }

-- one instruction
pub task_step : (t : Task) (i : Instr) (c : Config) → slice_get (t.program).body c.pc ≡ Some i →
    To (λ n. exec t n c) (after t (step t i c))
task_step t i c h = record { steps = 1; by = λ n. subst (λ k. Meets (exec t k c) (after t (step t i c) n)) (one_more n) (taken n) }
  where
    one_more : (n : ℕ) → suc n ≡ 1 + n
    one_more n = omega arith

    taken : (n : ℕ) → Meets (exec t (suc n) c) (after t (step t i c) n)
    taken n = same (ap (λ o. then_on t (exec t n) (step_at t o c)) h)

-- a task for a plan, and branches that lie below all that is told of, with what falling into them leads to
pub record Ground : Type 0 where
  pub plan : Plan
  pub task : Task
  pub is_text : IsText task.text
  pub fits : IsProgramFor plan task.program
  pub start : ℕ
  pub base : List Branch
  pub bottom : Tally → Continuation
  pub falls : (count : Tally) → To (after task (fail_to task base (config 0 0 (λ s. 0) [] [] start count))) (bottom count)

module _ (w : Ground) where
  -- the machine from here, with these branches above the base
  abbrev pub here : ℕ → ℕ → Slots → List ℕ → List Branch → Tally → Config
  here pc ix slots marks bs count = config pc ix slots marks (bs ++ w.base) w.start count

  abbrev pub go : ℕ → ℕ → Slots → List ℕ → List Branch → Tally → Continuation
  go pc ix slots marks bs count n = exec w.task n (here pc ix slots marks bs count)

  -- what a failure does
  abbrev pub resume : List Branch → Tally → Continuation
  resume [] count = w.bottom count
  resume (b ∷ bs) count = after w.task (fail_to w.task (b ∷ (bs ++ w.base)) (config 0 0 (λ s. 0) [] [] w.start count))

  fall_any : (c : Config) (bs : List Branch) → c.start ≡ w.start →
      fail_to w.task bs c ≡ fail_to w.task bs (config 0 0 (λ s. 0) [] [] w.start (tally_of c))
  fall_any c [] e = refl
  fall_any c (b ∷ bs) e =
      ap
      (λ v.
      if nat_lt c.backtracks (w.task).backtrack_limit then Goes
      (record { now = b; branches = bs; start = v; backtracks = c.backtracks + 1; longest = c.longest }) else Ends BacktrackLimitExceeded) e

  pub failed : (bs : List Branch) (c : Config) → c.start ≡ w.start →
      To (after w.task (fail_to w.task (bs ++ w.base) c)) (resume bs (tally_of c))
  failed [] c e =
      to_trans (to_eq (λ n. ap (λ x. then_on w.task (exec w.task n) x) (fall_any c w.base e))) (w.falls (tally_of c))
  failed (b ∷ bs) c e = to_eq (λ n. ap (λ x. then_on w.task (exec w.task n) x) (fall_any c (b ∷ (bs ++ w.base)) e))

  pub resumed : (b : Branch) (bs : List Branch) (count : Tally) →
      To (resume (b ∷ bs) count) (go b.pc b.ix b.slots b.marks bs (once_more count))
  resumed b bs count =
      to_now
      (λ n.
      elim (nat_lt count.backtracks (w.task).backtrack_limit) as
      (λ v.
      Meets
      (then_on w.task (exec w.task n)
      (if v then Goes (here b.pc b.ix b.slots b.marks bs (once_more count)) else Ends BacktrackLimitExceeded))
      (go b.pc b.ix b.slots b.marks bs (once_more count) n)) [
        | true ↦ same refl
        | false ↦ limit tt
      ])

  -- one instruction
  pub step_at_pc : (i : Instr) (pc ix : ℕ) (slots : Slots) (marks : List ℕ) (bs : List Branch) (count : Tally) →
      slice_get ((w.task).program).body pc ≡ Some i →
      To (go pc ix slots marks bs count) (after w.task (step w.task i (here pc ix slots marks bs count)))
  step_at_pc i pc ix slots marks bs count h = task_step w.task i (here pc ix slots marks bs count) h

  -- a branch at y, and on from x
  pub pushed : (z y x ix jx : ℕ) (slots r : Slots) (marks : List ℕ) (bs : List Branch) (count : Tally) → To
      (after w.task (push y (here z ix slots marks bs count) (here x jx r marks bs count)))
      (go x jx r marks (record { pc = y; ix = ix; slots = slots; marks = marks } ∷ bs) count)
  pushed z y x ix jx slots r marks bs count =
      let held = here x jx r marks (record { pc = y; ix = ix; slots = slots; marks = marks } ∷ bs) count in
      to_now
      (λ n.
      elim (nat_lt (length (bs ++ w.base)) most_branches) as
      (λ v. Meets (then_on w.task (exec w.task n) (if v then Goes held else Ends StackOverflow)) (exec w.task n held)) [
        | true ↦ same refl
        | false ↦ limit tt
      ])
