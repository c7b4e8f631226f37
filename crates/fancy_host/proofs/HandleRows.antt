-- The rows of what a handle points to, and the machine values of a handle.
use Rattle.std.proofs.Common.{List, [], ◌∷◌, refl, w64}
use seplogic.Ra.Ura.{Ura}
use mir.Val.{Val, vint}
use types.Logic.{Logic}
use types.Kit.{Item, Goal, Step, step, ‵, ◌$◌, move, fjoin, fpack, feq_i}
use denote.RattleType.{RattleType, Valss}
use denote.Builtin.{RawPtr}
use denote.Param.Laws.{Laws}
use denote.RawPtr.{null_ptr}
use denote.Signature.{Slot, plain}
use denote.Steps.{nothing}
use denote.Struct.Struct.{within}
use denote.Struct.Owning.{shape}
use Rattle.std.specs.Prelude.{◌≡◌, Option, None, Some}
use Rattle.std.specs.Option.{IsSome}
use Rattle.std.proofs.lemmas.Bool.{false≢true}
use Rattle.std.specs.contracts.alloc.Global as heap
use Rattle.std.proofs.alloc.Global.TheLaws as heap_laws
use Rattle.std.specs.contracts.impls.GlobalAllocator.TheImpl.{ghosts}
use Rattle.fancy_host.specs.contracts.searches.Searcher as searcher
use Rattle.fancy_host.specs.contracts.program.Handle as handle
use Rattle.fancy_host.proofs.Values.{both, RawBox}

abbrev pub R : RattleType
R = searcher.the_row

abbrev pub Z : RattleType
Z = heap.the_row

abbrev pub LZ : Laws Z
LZ = heap_laws.the_row_laws

abbrev pub Box : RattleType
Box = RawBox R Z LZ ghosts

abbrev pub Handle : RattleType
Handle = handle.the_row

abbrev pub FromBox : Slot 0
FromBox = plain (λ _. Box)

abbrev pub FromHandle : Slot 0
FromHandle = plain (λ _. Handle)

pub what_is_there : {X : Type 0} → (m : Option X) → IsSome m → (x : X) × (m ≡ Some x)
what_is_there None none = absurd (false≢true none)
what_is_there (Some x) some = (x, refl)

-- a handle of nothing is made of what its allocator owns
module _ {M : Type 1} {𝓤 : Ura M} {𝓛 : Logic 𝓤} {K : Type 0} {Γ : List (Item 𝓤)} {G : Goal 𝓤 𝓛.H} where
  pub none_in : K → (h : Val) (a : Z.Denot)
      → Step K 𝓛 (‵ (Handle.own_val (record { at = null_ptr; alloc = a; searcher = None }) (both (vint w64 0) h ∷ [])) ∷ Γ) G (‵ (Z.own_val a (h ∷ [])) ∷ Γ) G
  none_in t h a = step (λ s. let v : Val = both (vint w64 0) h in
      nothing t $ nothing t $ move t (2 ∷ 0 ∷ []) $ fjoin t $ feq_i t (List Val) (vint w64 0 ∷ []) (vint w64 0 ∷ []) refl $ fjoin t $
      feq_i t (List Val) (v ∷ []) (v ∷ []) refl $ fjoin t $
      fpack t (Valss (RawPtr ∷ Z ∷ [])) (within (shape handle.the_type) (null_ptr, (_, tt)) (v ∷ [])) (vint w64 0 ∷ [], (h ∷ [], tt)) $ fjoin t $ s)
