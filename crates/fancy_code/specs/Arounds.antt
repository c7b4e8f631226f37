-- What is written around a node's code.
use Rattle.std.specs.Prelude.{◌≡◌, ℕ, Bool, true, false, List, [], length, Option, Some, None}
use Rattle.fancy_meaning.specs.Tree.{Tree}
use Rattle.fancy_meaning.specs.Instr.{Instr}
use Rattle.fancy_meaning.specs.Code.{Code, nothing, one, ◌>>◌}
use Rattle.fancy_meaning.specs.Constructs.{LoopForm, Never, AtMostOnce, Epsilon, Star, Plus, Counted, group_code, atomic_code, look_code, negative_look_code, repeat_code}
use Rattle.fancy_code.specs.Sites.{Site}
use Rattle.fancy_expr.specs.Views.{bound_of}
use Rattle.fancy_code.specs.declared.around.Construct.{Construct}
use Rattle.fancy_code.specs.declared.around.Construct.TheVariants as around
use Rattle.fancy_code.specs.declared.looks.LookKind.{LookKind}
use Rattle.fancy_code.specs.declared.looks.LookKind.TheVariants as look
use Rattle.fancy_code.specs.declared.loops.LoopKind.{LoopKind}
use Rattle.fancy_code.specs.declared.loops.LoopKind.TheVariants as kind
use Rattle.fancy_code.specs.declared.around.Start.{Start}
use Rattle.fancy_code.specs.Drafts.{Draft, Writes, one_over_slot}

abbrev pub kind_form : LoopKind → LoopForm
kind_form kind.AtMostOnce = AtMostOnce
kind_form (kind.Epsilon lo) = Epsilon lo
kind_form kind.Star = Star
kind_form kind.Plus = Plus
kind_form (kind.Counted lo hi) = Counted lo (bound_of hi)

abbrev pub form_of : Option LoopKind → LoopForm
form_of None = Never
form_of (Some k) = kind_form k

abbrev pub look_over : LookKind → Code → Code
look_over look.Ahead body = look_code body
look_over look.NotAhead body = negative_look_code body
look_over (look.Behind n) body = look_code (one (Instr.GoBack n) >> body)
look_over (look.NotBehind n) body = negative_look_code (one (Instr.GoBack n) >> body)

-- with the body's code
abbrev pub around_code : Construct → Code → Code
around_code (around.Group g) body = group_code g body
around_code around.Atomic body = atomic_code body
around_code (around.Look k) body = look_over k body
around_code (around.Loop k greedy) body = repeat_code greedy body (kind_form k)

abbrev pub ahead : Construct
ahead = around.Look look.Ahead

abbrev pub not_ahead : Construct
not_ahead = around.Look look.NotAhead

abbrev pub behind : ℕ → Construct
behind n = around.Look (look.Behind n)

abbrev pub not_behind : ℕ → Construct
not_behind n = around.Look (look.NotBehind n)

-- so many characters back, there is the body, or there is not
abbrev pub behind_kind : (negative : Bool) → ℕ → LookKind
behind_kind true n = look.NotBehind n
behind_kind false n = look.Behind n

-- ---- what is written before the body, where an instruction that knows the place after it is not known yet

abbrev pub open_split : Instr
open_split = Instr.Split 0 0

abbrev pub over_slot : (ℕ → Instr) → Code
over_slot i base fresh = one_over_slot (i fresh) base fresh

abbrev pub loop_opening : LoopKind → Code
loop_opening kind.AtMostOnce = one open_split
loop_opening (kind.Epsilon lo) = over_slot Instr.Save0 >> one_over_slot open_split
loop_opening kind.Star = one open_split
loop_opening kind.Plus = nothing
loop_opening (kind.Counted lo hi) = over_slot Instr.Save0 >> one open_split

abbrev pub look_opening : LookKind → Code
look_opening look.Ahead = over_slot Instr.Save
look_opening look.NotAhead = one open_split
look_opening (look.Behind n) = over_slot Instr.Save >> one (Instr.GoBack n)
look_opening (look.NotBehind n) = one open_split >> one (Instr.GoBack n)

abbrev pub opening : Construct → Code
opening (around.Group g) = over_slot (Instr.SaveCaptureGroupStart g)
opening around.Atomic = one Instr.BeginAtomic
opening (around.Look k) = look_opening k
opening (around.Loop k greedy) = loop_opening k

-- ---- what is written behind it

-- a construct begins here
pub record IsStart (at : Start) (s : Draft) : Type 0 where
  pub base : at.base ≡ length s.instrs
  pub fresh : at.fresh ≡ s.fresh

-- whatever body was written behind the opening, the construct is whole
abbrev pub Ends : Construct → Start → Draft → Draft → Type 0
Ends a at u v =
    (p : Site) (body : Code) (es : List Tree) (s t : Draft)
    → IsStart at s
    → Writes p (opening a) [] s t
    → Writes p body es t u
    → Writes p (around_code a body) es s v
