-- What writing neighbouring easy nodes does.
use Rattle.std.specs.Prelude.{◌≡◌, ℕ, Bool, true, false, List, [], ◌∷◌, ◌++◌, Option, Some, None, map, Result}
use Rattle.fancy_meaning.specs.Batches.{batch, fragment, group_range, pattern_of}
use Rattle.fancy_meaning.specs.Code.{Code, nothing, one}
use Rattle.fancy_meaning.specs.Instr.{Instr}
use Rattle.fancy_meaning.specs.Tree.{Tree}
use Rattle.fancy_expr.specs.Each.{Each}
use Rattle.fancy_expr.specs.declared.error.Error.{Error}
use Rattle.fancy_info.specs.declared.info.Info.{Info}
use Rattle.fancy_info.specs.Infos.{info_tree}
use Rattle.fancy_nfa.specs.Neighbours.{IsEasy}
use Rattle.fancy_program.specs.Insns.{insn_of}
use Rattle.fancy_program.specs.declared.insn.Insn.{Insn}
use Rattle.fancy_code.specs.Drafts.{Draft, Writes}
use Rattle.fancy_code.specs.Faults.{StayWithin}
use Rattle.fancy_code.specs.Neighbours.{IsMadeOf}
use Rattle.fancy_code.specs.Sites.{Site}

-- Where there are characters, they are put behind those so far, and no other part was met.
abbrev pub Collects : Option (List (ℕ × Bool)) → (old new : List (ℕ × Bool)) → (is_other : Bool) → Type 0
Collects (Some cs) old new is_other = (is_other ≡ false) × (new ≡ old ++ cs)
Collects None old new is_other = is_other ≡ true

-- an instruction, or none
abbrev pub code_of : Option Insn → Code
code_of (Some i) = one (insn_of i)
code_of None = nothing

-- the instruction of neighbouring easy nodes, if they need one, is this code
abbrev pub IsInsnOf : Bool → List Info → Code → Result (Option Insn) Error → Type 0
IsInsnOf unicode is code = IsMadeOf unicode is (λ i. code_of i ≡ code)

-- neighbouring easy nodes for which there is room, as one instruction
abbrev pub WritesBatch : (unicode : Bool) → List Info → Draft → Draft → Type 0
WritesBatch unicode is s t =
    (p : Site) → p.unicode ≡ unicode → Each (IsEasy p.analysis) is → StayWithin p (map info_tree is) →
    Writes p (batch p.unicode (map info_tree is)) (map info_tree is) s t

abbrev pub easy_repeater : Bool → Tree → Instr
easy_repeater unicode e =
    let es = e ∷ [] in
    Instr.AbsentRepeater (pattern_of unicode es) (fragment unicode es) (group_range es)

-- the instruction of an absent repeater of an easy node for which there is room
abbrev pub WritesRepeater : (unicode : Bool) → Info → Draft → Draft → Type 0
WritesRepeater unicode i s t =
    (p : Site) → p.unicode ≡ unicode → IsEasy p.analysis i → StayWithin p (info_tree i ∷ []) →
    Writes p (one (easy_repeater p.unicode (info_tree i))) (info_tree i ∷ []) s t
