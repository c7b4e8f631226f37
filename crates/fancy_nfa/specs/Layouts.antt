-- What laying out does to the states so far.
use Rattle.std.specs.Prelude.{◌≡◌, ℕ, Bool, List, ◌++◌, length, map, Option, Result, Ok, Err}
use Rattle.fancy_meaning.specs.Tree.{Repeat}
use Rattle.fancy_meaning.specs.Options.{Analysis}
use Rattle.fancy_nfa_laws.specs.NfaStates as plain
use Rattle.fancy_nfa_laws.specs.NfaCode.{NfaCode, laid, each_laid}
use Rattle.fancy_expr.specs.declared.error.Error.{Error}
use Rattle.fancy_expr.specs.Each.{Each}
use Rattle.fancy_info.specs.declared.info.Info.{Info}
use Rattle.fancy_info.specs.Infos.{info_tree}
use Rattle.fancy_nfa.specs.declared.layout.Layout.{Layout}
use Rattle.fancy_nfa.specs.Views.{state_of, IsStateReadBy}
use Rattle.fancy_nfa.specs.Neighbours.{IsEasy, trees_of}
use Rattle.fancy_nfa.specs.ClassTexts.{Texts, texts_of, texts_in, AreClasses, IsRefusal}

abbrev pub states_in : Layout → List plain.NfaState
states_in l = map state_of l.states.items

-- these are the states, read with the same option
pub record Replaces (after : List plain.NfaState) (s t : Layout) : Type 0 where
  pub states : states_in t ≡ after
  pub unicode : t.unicode ≡ s.unicode
  pub reads : Each (IsStateReadBy s.unicode) s.states.items → Each (IsStateReadBy s.unicode) t.states.items

-- these states stand at the end, and the texts are classes
pub record Adds (code : NfaCode) (texts : Texts) (s t : Layout) : Type 0 where
  pub added : Replaces (states_in s ++ code (length (states_in s))) s t
  pub classes : AreClasses s.unicode texts

-- they are added, or a text is refused
abbrev pub Lays : {X : Type 0} → NfaCode → Texts → Layout → Layout → Result X Error → Type 0
Lays code texts s t (Ok x) = Adds code texts s t
Lays code texts s t (Err error) = IsRefusal s.unicode texts error

-- what is made of the states of a node is laid out
abbrev pub LaysOver : {X : Type 0} → (NfaCode → NfaCode) → Info → Layout → Layout → Result X Error → Type 0
LaysOver over i s t result =
    (a : Analysis) → IsEasy a i → Lays (over (laid a.tree (info_tree i))) (texts_of (info_tree i)) s t result

abbrev pub LaysNode : {X : Type 0} → Info → Layout → Layout → Result X Error → Type 0
LaysNode = LaysOver (λ code. code)

-- what is made of the states of each of these nodes is laid out
abbrev pub LaysEach : {X : Type 0} → (List NfaCode → NfaCode) → List Info → Layout → Layout → Result X Error →
    Type 0
LaysEach over is s t result =
    (a : Analysis) → Each (IsEasy a) is →
    Lays (over (each_laid a.tree (trees_of is))) (texts_in (trees_of is)) s t result

-- a loop over a node, whose size the whole tree tells
abbrev pub LaysRepeat : {X : Type 0} → ℕ → Option ℕ → Bool → Info → Layout → Layout → Result X Error → Type 0
LaysRepeat lo hi greedy i s t result =
    (a : Analysis) → IsEasy a i →
    Lays (laid a.tree (Repeat lo hi greedy (info_tree i))) (texts_of (Repeat lo hi greedy (info_tree i))) s t result
