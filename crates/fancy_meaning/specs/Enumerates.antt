-- How a part of a program runs: from a state it enumerates a list of states, one each time it is failed back.
-- Limits on backtracks and on branches are set aside, and so is the answer that nothing matches which a `\G` gives
-- before the branches are used up.
use Rattle.std.specs.Prelude.{◌≡◌, ℕ, ◌+◌, ◌*◌, ◌<◌, ◌≤◌, ◌⊎◌, Bool, List, [], ◌∷◌, ◌++◌, length, Option, Some, None, if◌then◌else◌, slice_get}
use Rattle.fancy_meaning.specs.MatchState.{MatchState, Span}
use Rattle.fancy_meaning.specs.Numbers.{usize_max}
use Rattle.fancy_meaning.specs.Instr.{Instr}
use Rattle.fancy_meaning.specs.Config.{Config, Outcome, Match, NoMatch, BacktrackLimitExceeded, StackOverflow, StepLimitExceeded, Next, Goes}
use Rattle.fancy_meaning.specs.Machine.{Task, flag_slot, is_search, fail_to, exec, then_on}
use Rattle.fancy_meaning.specs.Keys.{bit}

-- a limit was passed
abbrev pub IsLimit : Outcome → Type 0
IsLimit (Match numbers) = ⊥
IsLimit NoMatch = ⊥
IsLimit BacktrackLimitExceeded = Unit {0}
IsLimit StackOverflow = Unit {0}
IsLimit StepLimitExceeded = Unit {0}

-- a limit on backtracks or on branches was passed
abbrev pub IsBranchLimit : Outcome → Type 0
IsBranchLimit (Match numbers) = ⊥
IsBranchLimit NoMatch = ⊥
IsBranchLimit BacktrackLimitExceeded = Unit {0}
IsBranchLimit StackOverflow = Unit {0}
IsBranchLimit StepLimitExceeded = ⊥

abbrev pub start_number : Option Span → ℕ
start_number None = usize_max
start_number (Some (from, to)) = from

abbrev pub end_number : Option Span → ℕ
end_number None = usize_max
end_number (Some (from, to)) = to

-- these instructions stand in the program from a place on
abbrev pub HasAt : List Instr → ℕ → List Instr → Type 0
HasAt body pc [] = Unit {0}
HasAt body pc (i ∷ is) = (slice_get body pc ≡ Some i) × HasAt body (pc + 1) is

-- where a part begins, where it is left, and which slots it takes
pub record PartBounds : Type 0 where
  pub entry : Config
  pub exit : ℕ
  pub taken_from : ℕ
  pub taken_to : ℕ

module _ (t : Task) where
  -- the machine goes on with at most n instructions
  abbrev pub outcome_after : ℕ → Next → Outcome
  outcome_after n next = then_on t (exec t n) next

  -- After these instructions, however many are left then, the machine goes on as from the other with what is left, or
  -- it passes a limit on backtracks or on branches.
  pub record Leads (from to : Next) : Type 0 where
    pub instructions : ℕ
    pub by : (n : ℕ) →
        let outcome = outcome_after (instructions + n) from in
        IsBranchLimit outcome ⊎ (outcome ≡ outcome_after n to)

  -- above these branches no `\G` gives up the search
  pub data GoesOn (c : Config) : Type 0 where
    no_search : is_search (slice_get (t.program).body 0) ≡ Bool.false → GoesOn c
    one_start : t.anchored ≡ Bool.true → GoesOn c
    two_branches : 2 ≤ length c.branches → GoesOn c

  -- the slots stand for the state
  pub record Stands (c : Config) (s : MatchState) : Type 0 where
    pub place : c.ix ≡ s.place
    pub kept : c.slots 0 ≡ s.kept
    pub starts : (g : ℕ) → 0 < g → 2 * g < flag_slot t.program → c.slots (2 * g) ≡ start_number (s.captures g)
    pub ends : (g : ℕ) → 0 < g → 2 * g < flag_slot t.program → c.slots (2 * g + 1) ≡ end_number (s.captures g)
    pub flag : (t.program).end_text ≡ Bool.true → c.slots (flag_slot t.program) ≡ (if s.text_end then 1 else usize_max)

  -- nothing of the state stands in this slot: it is the end of group 0, or behind the groups and the flag
  abbrev pub IsOutsideState : ℕ → Type 0
  IsOutsideState k = (k ≡ 1) ⊎ (flag_slot t.program + bit (t.program).end_text ≤ k)

  -- At c the part is left with state s, over branches of its own. Slots outside the state that it did not take are as
  -- at its entry.
  pub record IsLeft (part : PartBounds) (s : MatchState) (c : Config) (own : List _) : Type 0 where
    pub at_exit : c.pc ≡ part.exit
    pub branches : c.branches ≡ own ++ (part.entry).branches
    pub marks : c.marks ≡ (part.entry).marks
    pub start : c.start ≡ (part.entry).start
    pub stands : Stands c s
    pub keeps : (k : ℕ) → IsOutsideState k → (k < part.taken_from) ⊎ (part.taken_to ≤ k) →
        c.slots k ≡ (part.entry).slots k

  -- The part is left with these states in turn, and after the last it fails into the branches below. The longest match
  -- so far is the one with which it was entered, or failed back.
  pub data Enumerates (part : PartBounds) : (longest : Option (List ℕ)) → Next → List MatchState → Type 0 where
    no_more : {longest : Option (List ℕ)} {from : Next} (d : Config) → d.start ≡ (part.entry).start → d.longest ≡ longest →
        Leads from (fail_to t (part.entry).branches d) →
        Enumerates part longest from []
    next_way : {longest : Option (List ℕ)} {from : Next} {s : MatchState} {ss : List MatchState} (c : Config) (own : List _) →
        c.longest ≡ longest → Leads from (Goes c) → IsLeft part s c own →
        ((d : Config) → d.start ≡ c.start → Enumerates part d.longest (fail_to t c.branches d) ss) →
        Enumerates part longest from (s ∷ ss)
