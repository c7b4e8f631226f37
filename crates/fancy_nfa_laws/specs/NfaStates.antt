-- The states of a plain search, as plain values: what an easy fragment is searched by.
use Rattle.std.specs.Prelude.{ℕ, Bool, List, Option}
use Rattle.fancy_meaning.specs.Tree.{Assertion}

-- a test on one character
pub data CharTest : Type 0 where
  AnyChar : (newline crlf : Bool) → CharTest
  OneChar : (char : ℕ) (casei : Bool) → CharTest
  -- a class, by its text
  InClass : (inner : List ℕ) (casei : Bool) → CharTest

-- a loop that counts its iterations, or asks whether one has moved
pub record Loop : Type 0 where
  pub lo : ℕ
  pub hi : Option ℕ
  pub greedy : Bool
  -- an iteration begun at or past `lo` that moves nothing leaves the loop
  pub asks_moved : Bool

-- Where nothing is said, a state goes on at the next one.
pub data NfaState : Type 0 where
  -- the fragment's end
  Match : NfaState
  Character : CharTest → NfaState
  Holds : Assertion → NfaState
  -- a group begins, and ends
  Open : NfaState
  Close : (group : ℕ) → NfaState
  -- on at the first, and else at the second: before an alternation or a body that may be left out; before a further
  -- branch; and at the head of a loop
  Split BranchSplit LoopSplit : (first second : ℕ) → NfaState
  Jump : (to : ℕ) → NfaState
  -- where several ways on meet
  Join : NfaState
  -- a loop that counts begins
  CounterBegin : NfaState
  -- before each of its iterations, which begin at the next state; `after` is behind the loop
  CounterLoop : Loop → (after : ℕ) → NfaState
