-- What a step of the compiler does to the program so far.
use Rattle.std.specs.Prelude.{◌≡◌, ℕ, ◌+◌, ◌<◌, ◌⊎◌, Bool, not, ◌&&◌, if◌then◌else◌, List, [], ◌∷◌, ◌++◌, length, map, slice_set, Option, Some, None}
use Rattle.fancy_meaning.specs.Tree.{Tree}
use Rattle.fancy_meaning.specs.Instr.{Instr}
use Rattle.fancy_meaning.specs.Code.{Code, Laid}
use Rattle.fancy_code.specs.Sites.{Site}
use Rattle.fancy_meaning.specs.Batches.{batch}
use Rattle.fancy_meaning.specs.Hard.{is_hard}
use Rattle.fancy_meaning.specs.Options.{Analysis}
use Rattle.fancy_meaning.specs.Layout.{written}
use Rattle.fancy_meaning.specs.AnalysisRefusals as plain
use Rattle.fancy_program.specs.Insns.{insn_of}
use Rattle.fancy_expr.specs.declared.error.Error.{Error}
use Rattle.fancy_expr.specs.declared.error.Error.TheVariants as error
use Rattle.fancy_code.specs.declared.writer.CodeWriter.{CodeWriter}
use Rattle.fancy_expr.specs.Errors.{error_of}
use Rattle.fancy_code.specs.Faults.{AreCompilable, HasRejected, refused_as, too_deep}

-- the program so far
pub record Draft : Type 0 where
  pub instrs : List Instr
  pub fresh : ℕ
  -- the most instructions that it may have
  pub limit : Option ℕ
  -- after a fault nothing more is written
  pub fault : Option Error

abbrev pub draft_of : CodeWriter → Draft
draft_of c = record { instrs = map insn_of c.code.items; fresh = c.fresh; limit = c.limit; fault = c.fault }

-- one instruction is written over
abbrev pub with_patch : Draft → ℕ → Instr → Draft
with_patch s at i = record s { instrs = slice_set s.instrs at i }

-- the last of these jumps first, to the end of the code
abbrev pub with_jumps : List ℕ → ℕ → Draft → Draft
with_jumps [] end s = s
with_jumps (j ∷ js) end s = with_patch (with_jumps js end s) j (Instr.Jmp end)

-- so many instructions are too many
abbrev pub IsOver : Option ℕ → ℕ → Type 0
IsOver None n = ⊥
IsOver (Some most) n = most < n

-- these instructions stand at the end
pub record Extends (a : Laid) (s t : Draft) : Type 0 where
  pub instrs : t.instrs ≡ s.instrs ++ a.instrs
  pub fresh : t.fresh ≡ a.fresh

-- Why these instructions, which write these nodes out, were not all added: the limit of instructions, a node, how deep
-- they nest, or memory.
abbrev pub Breaks : Site → Laid → List Tree → Draft → Error → Type 0
Breaks p a es s error.Memory = Unit {0}
Breaks p a es s (error.CompileError x) =
    ((error_of x ≡ plain.PatternTooComplex) × IsOver s.limit (length s.instrs + length a.instrs)) ⊎ HasRejected p es
    (refused_as (error_of x))
Breaks p a es s (error.RuntimeError x) = ⊥
Breaks p a es s (error.TreeFault at) = ⊥
Breaks p a es s error.NestLimitExceeded = HasRejected p es too_deep

-- from one fault to another
abbrev pub Turns : Site → Laid → List Tree → Draft → Draft → Option Error → Option Error → Type 0
Turns p a es s t None None = Extends a s t × AreCompilable p es
Turns p a es s t None (Some x) = Breaks p a es s x
Turns p a es s t (Some x) None = ⊥
Turns p a es s t (Some x) (Some y) = x ≡ y

-- the instructions, which write these nodes out, are added, or there is a fault
pub record Adds (p : Site) (a : Laid) (es : List Tree) (s t : Draft) : Type 0 where
  pub limit : t.limit ≡ s.limit
  pub turns : Turns p a es s t s.fault t.fault

-- the code is laid at the end
abbrev pub Writes : Site → Code → List Tree → Draft → Draft → Type 0
Writes p k es s t = Adds p (k (length s.instrs) s.fresh) es s t

-- an instruction that takes a slot
abbrev pub one_over_slot : Instr → Code
one_over_slot i base fresh = record { instrs = i ∷ []; fresh = fresh + 1 }

-- which nodes may be left to a plain search
abbrev pub is_easy : Analysis → Tree → Bool
is_easy a e = not (is_hard a e)

-- a node's code where it is written out
abbrev pub written_code : Site → (ℕ → Bool → Code) → Tree → (at_start in_hard : Bool) → Code
written_code p call e at_start in_hard = written p.plan (is_easy p.analysis) call e at_start in_hard

-- a node's code in a context, where the node is easy or not
abbrev pub code_in : Site → (ℕ → Bool → Code) → (easy : Bool) → Tree → (at_start in_hard : Bool) → Code
code_in p call easy e at_start in_hard =
    if easy && not in_hard then batch p.unicode (e ∷ []) else written_code p call e at_start in_hard

abbrev pub node_code : Site → (ℕ → Bool → Code) → Tree → (at_start in_hard : Bool) → Code
node_code p call e at_start in_hard = code_in p call (is_easy p.analysis e) e at_start in_hard
