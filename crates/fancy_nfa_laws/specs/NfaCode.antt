-- How easy nodes are laid out as states. Each place is computed from the lengths of the lists before it.
use Rattle.std.specs.Prelude.{ℕ, ◌+◌, Bool, true, false, List, [], ◌∷◌, ◌++◌, length, map, Option, None, ◌==◌}
use Rattle.fancy_meaning.specs.Tree.{Tree, Trees, none, more, Any, Assert, Literal, Delegate, Concat, Alt, Group, Repeat}
use Rattle.fancy_meaning.specs.Assertions.{assertion_within}
use Rattle.fancy_meaning.specs.Sizes.{size}
use Rattle.fancy_meaning.specs.Constructs.{LoopForm, Never, AtMostOnce, Epsilon, Star, Plus, Counted, loop_form}
use Rattle.fancy_nfa_laws.specs.NfaStates.{AnyChar, OneChar, InClass, Loop, NfaState, Match, Character, Holds, Open, Close, Split, BranchSplit, LoopSplit, Jump, Join, CounterBegin, CounterLoop}

-- states that know the place of the first
abbrev pub NfaCode : Type 0
NfaCode = (base : ℕ) → List NfaState

abbrev pub nothing : NfaCode
nothing base = []

abbrev pub one : NfaState → NfaCode
one p base = p ∷ []

-- the second after the first
infixr 30 ◌>>◌
abbrev pub ◌>>◌ : NfaCode → NfaCode → NfaCode
(a >> b) base = let first = a base in first ++ b (base + length first)

-- a state that knows its own place and the place behind the rest, and then the rest
abbrev pub headed : (ℕ → ℕ → NfaState) → NfaCode → NfaCode
headed head rest base = let below = rest (base + 1) in head base (base + 1 + length below) ∷ below

-- all after each other
abbrev pub in_sequence : List NfaCode → NfaCode
in_sequence [] = nothing
in_sequence (c ∷ cs) = c >> in_sequence cs

-- ---- one of several

-- the first branch and then the others, where `choice` chooses between them
abbrev pub branch : (ℕ → ℕ → NfaState) → NfaCode → NfaCode → NfaCode
branch choice a b base =
    let first = a (base + 1) in
    let other = base + 1 + length first + 1 in
    let second = b other in
    choice (base + 1) other ∷ (first ++ (Jump (other + length second) ∷ second))

-- each branch but the last goes on behind the last
abbrev pub branches : (ℕ → ℕ → NfaState) → List NfaCode → NfaCode
branches choice [] = nothing
branches choice (c ∷ []) = c
branches choice (c ∷ d ∷ cs) = branch choice c (branches BranchSplit (d ∷ cs))

abbrev pub one_of : List NfaCode → NfaCode
one_of cs = branches Split cs >> one Join

-- ---- loops

-- greedy goes on first, lazy goes off first
abbrev pub preferring : (ℕ → ℕ → NfaState) → Bool → ℕ → ℕ → NfaState
preferring choice true on off = choice on off
preferring choice false on off = choice off on

-- the body, or not
abbrev pub optional : Bool → NfaCode → NfaCode
optional greedy body = headed (λ here after. preferring Split greedy (here + 1) after) body >> one Join

-- a loop's head, its body, and the jump to the head
abbrev pub around : (ℕ → ℕ → NfaState) → NfaCode → NfaCode
around head body base = headed head (body >> one (Jump base)) base

-- any number of a body that takes something
abbrev pub star : Bool → NfaCode → NfaCode
star greedy body = around (λ here after. preferring LoopSplit greedy (here + 1) after) body

-- once at least: past the head, into the body
abbrev pub plus : Bool → NfaCode → NfaCode
plus greedy body base = Jump (base + 2) ∷ star greedy body (base + 1)

abbrev pub counted : Loop → NfaCode → NfaCode
counted loop body = one CounterBegin >> around (λ here after. CounterLoop loop after) body >> one Join

abbrev pub a_loop : ℕ → Option ℕ → Bool → Bool → Loop
a_loop lo hi greedy asks_moved = record { lo = lo; hi = hi; greedy = greedy; asks_moved = asks_moved }

abbrev pub repeated : Bool → NfaCode → LoopForm → NfaCode
repeated greedy body Never = nothing
repeated greedy body AtMostOnce = optional greedy body
repeated greedy body (Epsilon lo) = counted (a_loop lo None greedy true) body
repeated greedy body Star = star greedy body
repeated greedy body Plus = plus greedy body
repeated greedy body (Counted lo hi) = counted (a_loop lo hi greedy false) body

-- ---- nodes, of which the whole tree tells the sizes

module _ (whole : Tree) where
  abbrev mutual
    pub laid : Tree → NfaCode
    laid (Any newline crlf) = one (Character (AnyChar newline crlf))
    laid (Literal c casei) = one (Character (OneChar c casei))
    laid (Delegate inner casei) = one (Character (InClass inner casei))
    laid (Assert within a) = one (Holds (assertion_within within a))
    laid (Concat es) = in_sequence (each_laid es)
    laid (Alt es) = one_of (each_laid es)
    laid (Group g e) = one Open >> laid e >> one (Close g)
    laid (Repeat lo hi greedy e) = repeated greedy (laid e) (loop_form lo hi ((size whole e).least == 0))
    -- what takes nothing
    laid e = nothing

    pub each_laid : Trees → List NfaCode
    each_laid none = []
    each_laid (more e es) = laid e ∷ each_laid es

  -- neighbouring nodes, and their end
  abbrev pub states_of : List Tree → List NfaState
  states_of es = (in_sequence (map laid es) >> one Match) 0
