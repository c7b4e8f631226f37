-- Loops whose iterations are counted, and which ways on the definition finds at the head of one.
use Rattle.std.specs.Prelude.{◌≡◌, ℕ, true, false, nat_lt}
use Rattle.fancy_nfa_laws.specs.NfaStates as states
use Rattle.fancy_nfa_laws.specs.NfaSearch as plain
use Rattle.fancy_nfa_laws.specs.NfaSearch.{LoopCounter}
use Rattle.fancy_expr.specs.Views.{bound_of}
use Rattle.fancy_backtrack.specs.declared.loops.Loop.{Loop}
use Rattle.fancy_backtrack.specs.declared.loops.LoopChoice.{LoopChoice}
use Rattle.fancy_backtrack.specs.declared.loops.LoopChoice.TheVariants as loop_choice

abbrev pub loop_of : Loop → states.Loop
loop_of l = record { lo = l.lo; hi = bound_of l.hi; greedy = l.greedy; asks_moved = l.asks_moved }

-- the ways on that the definition finds
abbrev pub ChoosesBy : LoopChoice → states.Loop → (place : ℕ) → LoopCounter → Type 0
ChoosesBy loop_choice.Out l place t = plain.is_over l place t ≡ true
ChoosesBy loop_choice.In l place t = (plain.is_over l place t ≡ false) × (nat_lt t.count l.lo ≡ true)
ChoosesBy loop_choice.InOrOut l place t =
    (plain.is_over l place t ≡ false) × (nat_lt t.count l.lo ≡ false) × (l.greedy ≡ true)
ChoosesBy loop_choice.OutOrIn l place t =
    (plain.is_over l place t ≡ false) × (nat_lt t.count l.lo ≡ false) × (l.greedy ≡ false)
