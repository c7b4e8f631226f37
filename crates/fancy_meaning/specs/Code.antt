-- Code: instructions that know their place. Laid at a place, with the first fresh slot, it gives its instructions and
-- the first slot that is fresh after it. Each target is computed from the lengths of the instructions before it.
use Rattle.std.specs.Prelude.{ℕ, ◌+◌, List, [], ◌∷◌, ◌++◌, length}
use Rattle.fancy_meaning.specs.Instr.{Instr}

pub record Laid : Type 0 where
  pub instrs : List Instr
  pub fresh : ℕ

abbrev pub Code : Type 0
Code = (base fresh : ℕ) → Laid

abbrev pub nothing : Code
nothing base fresh = record { instrs = []; fresh = fresh }

abbrev pub one : Instr → Code
one i base fresh = record { instrs = i ∷ []; fresh = fresh }

-- the second after the first
infixr 30 ◌>>◌
abbrev pub ◌>>◌ : Code → Code → Code
(a >> b) base fresh =
    let first = a base fresh in
    let second = b (base + length first.instrs) first.fresh in
    record { instrs = first.instrs ++ second.instrs; fresh = second.fresh }

abbrev pub in_turn : List Code → Code
in_turn [] = nothing
in_turn (c ∷ cs) = c >> in_turn cs

-- code over a fresh slot
abbrev pub over_fresh_slot : (ℕ → Code) → Code
over_fresh_slot code base fresh = code fresh base (fresh + 1)

-- an instruction that knows its own place and the place after the construct, and then the rest of the construct
abbrev pub headed : (ℕ → ℕ → Instr) → Code → Code
headed head rest base fresh =
    let below = rest (base + 1) fresh in
    record { instrs = head base (base + 1 + length below.instrs) ∷ below.instrs; fresh = below.fresh }

-- code that knows the place where it begins
abbrev pub from_here : (ℕ → Code) → Code
from_here code base fresh = code base base fresh

-- an instruction that knows its own place
abbrev pub one_at : (ℕ → Instr) → Code
one_at i base fresh = one (i base) base fresh

-- one or the other: the second where the first fails
abbrev pub branch : Code → Code → Code
branch a b base fresh =
    let first = a (base + 1) fresh in
    let other = base + 1 + length first.instrs + 1 in
    let second = b other first.fresh in
    record {
      instrs =
          Instr.Split (base + 1) other
          ∷ (first.instrs ++ (Instr.Jmp (other + length second.instrs) ∷ second.instrs));
      fresh = second.fresh;
    }

-- each branch but the last goes on behind the last
abbrev pub branches : List Code → Code
branches [] = nothing
branches (c ∷ []) = c
branches (c ∷ d ∷ cs) = branch c (branches (d ∷ cs))
