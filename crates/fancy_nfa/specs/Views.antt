-- What the states of the code stand for.
use Rattle.std.specs.Prelude.{◌≡◌, ℕ, Bool, List}
use Rattle.fancy_meaning.specs.Instr.{CharClass, Codepoint, Newline}
use Rattle.fancy_nfa_laws.specs.NfaStates as plain
use Rattle.fancy_expr.specs.Views.{assertion_of}
use Rattle.fancy_characters.specs.Classes.{class_of}
use Rattle.fancy_backtrack.specs.Loops.{loop_of}
use Rattle.fancy_nfa.specs.declared.nfa_state.CharTest.{CharTest}
use Rattle.fancy_nfa.specs.declared.nfa_state.CharTest.TheVariants as test
use Rattle.fancy_nfa.specs.declared.nfa_state.NfaState.{NfaState}
use Rattle.fancy_nfa.specs.declared.nfa_state.NfaState.TheVariants as code

-- a class of characters as a test; the one of newlines does not occur
abbrev pub class_test_of : CharClass → plain.CharTest
class_test_of (Codepoint inner casei unicode) = plain.InClass inner casei
class_test_of (Newline unicode) = plain.AnyChar unicode unicode

abbrev pub test_of : CharTest → plain.CharTest
test_of (test.Any newline crlf) = plain.AnyChar newline crlf
test_of (test.One c casei) = plain.OneChar c casei
test_of (test.Class class) = class_test_of (class_of class.value)

abbrev pub state_of : NfaState → plain.NfaState
state_of code.Match = plain.Match
state_of (code.Character t) = plain.Character (test_of t)
state_of (code.Holds a) = plain.Holds (assertion_of a)
state_of code.Open = plain.Open
state_of (code.Close group) = plain.Close group
state_of (code.Split first second) = plain.Split first second
state_of (code.BranchSplit first second) = plain.BranchSplit first second
state_of (code.LoopSplit first second) = plain.LoopSplit first second
state_of (code.Jump to) = plain.Jump to
state_of code.Join = plain.Join
state_of code.CounterBegin = plain.CounterBegin
state_of (code.CounterLoop bounds after) = plain.CounterLoop (loop_of bounds) after

-- a class is read with this option
abbrev pub IsReadBy : Bool → CharTest → Type 0
IsReadBy unicode (test.Any newline crlf) = Unit {0}
IsReadBy unicode (test.One c casei) = Unit {0}
IsReadBy unicode (test.Class class) =
    (inner : List ℕ) × ((casei : Bool) × (class_of class.value ≡ Codepoint inner casei unicode))

abbrev pub IsStateReadBy : Bool → NfaState → Type 0
IsStateReadBy unicode (code.Character t) = IsReadBy unicode t
IsStateReadBy unicode p = Unit {0}
