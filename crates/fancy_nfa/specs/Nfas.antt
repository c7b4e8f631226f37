-- Which NFA is that of some nodes, and when one is refused.
use Rattle.std.specs.Prelude.{◌≡◌, Bool, List, [], ◌∷◌, map, Contains}
use Rattle.fancy_meaning.specs.Tree.{Tree}
use Rattle.fancy_meaning.specs.Nodes.{nodes}
use Rattle.fancy_meaning.specs.Options.{Analysis}
use Rattle.fancy_meaning.specs.WellFormed.{IsFine}
use Rattle.fancy_nfa_laws.specs.FirstWays.{AreEasy}
use Rattle.fancy_nfa_laws.specs.NfaCode.{states_of}
use Rattle.fancy_expr.specs.declared.error.Error.{Error}
use Rattle.fancy_expr.specs.Each.{Each}
use Rattle.fancy_info.specs.declared.info.Info.{Info}
use Rattle.fancy_nfa.specs.declared.nfa.Nfa.{Nfa}
use Rattle.fancy_nfa.specs.Views.{state_of, IsStateReadBy}
use Rattle.fancy_nfa.specs.Neighbours.{trees_of}
use Rattle.fancy_nfa.specs.ClassTexts.{texts_in, AreClasses, IsRefusal}

-- each node of these is well formed
abbrev pub AreFine : List Tree → Type 0
AreFine [] = Unit {0}
AreFine (e ∷ es) = ((d : Tree) → Contains (nodes e) d → IsFine d) × AreFine es

-- the NFA of these neighbouring nodes
pub record IsNfaOf (a : Analysis) (es : List Tree) (is_unicode : Bool) (f : Nfa) : Type 0 where
  pub states : map state_of f.states.items ≡ states_of a.tree es
  pub unicode : f.unicode ≡ is_unicode
  pub reads : Each (IsStateReadBy is_unicode) f.states.items
  pub easy : AreEasy a es

-- each class text that is written out in these nodes is a class
abbrev pub HaveClasses : Bool → List Info → Type 0
HaveClasses unicode infos = AreClasses unicode (texts_in (trees_of infos))

-- want of memory, or a class text that is written out in these nodes is refused
abbrev pub IsRefusedFor : Bool → List Info → Error → Type 0
IsRefusedFor unicode infos = IsRefusal unicode (texts_in (trees_of infos))
