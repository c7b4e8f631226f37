-- Delegates that instructions share.
use Rattle.std.specs.Prelude.{◌≡◌, ℕ, Bool, List, map}
use Rattle.std.specs.List.{slice_get}
use Rattle.std.specs.Option.{ForSome}
use Rattle.std.specs.declared.sync.Arc.{Arc}
use Rattle.fancy_meaning.specs.Tree.{Tree, trees}
use Rattle.fancy_meaning.specs.Batches.{fragment, group_range, pattern_of}
use Rattle.fancy_meaning.specs.Instr.{Instr}
use Rattle.fancy_info.specs.declared.info.Info.{Info}
use Rattle.fancy_info.specs.Infos.{info_tree}
use Rattle.fancy_nfa.specs.ClassTexts.{AreClasses, texts_in}
use Rattle.fancy_nfa.specs.Nfas.{HaveClasses}
use Rattle.fancy_fragments.specs.declared.delegate.Delegate.{Delegate}
use Rattle.fancy_fragments.specs.Delegates.{delegate_instr}

-- the name and the groups are those of the nodes, and each class text that is written out in these is a class
abbrev pub IsNamed : Instr → Type 0
IsNamed (Instr.Delegate text f range) =
    (text ≡ pattern_of f.unicode f.nodes)
    × (range ≡ group_range f.nodes)
    × AreClasses f.unicode (texts_in (trees f.nodes))
IsNamed i = ⊥

abbrev pub IsNamedAlike : {Z : Type 0} → Arc Delegate Z → Type 0
IsNamedAlike d = IsNamed (delegate_instr d.value)

abbrev pub AreNamedAlike : {Z : Type 0} → List (Arc Delegate Z) → Type 0
AreNamedAlike ds = (place : ℕ) → ForSome (slice_get ds place) IsNamedAlike

-- the delegate of these nodes
abbrev pub delegate_of : Bool → List Tree → Instr
delegate_of unicode es = Instr.Delegate (pattern_of unicode es) (fragment unicode es) (group_range es)

-- the delegate of these nodes, whose class texts are classes
pub record IsDelegateOf (unicode : Bool) (is : List Info) (i : Instr) : Type 0 where
  pub instr : i ≡ delegate_of unicode (map info_tree is)
  pub classes : HaveClasses unicode is
