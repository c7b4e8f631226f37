-- The code of each construct, from that of its parts.
use Rattle.std.specs.Prelude.{ℕ, zero, suc, ◌+◌, Bool, true, false, List, [], ◌∷◌, map, Option, Some, None, if◌then◌else◌}
use Rattle.fancy_meaning.specs.Tree.{Look, LookAhead, LookAheadNeg, LookBehind, LookBehindNeg}
use Rattle.fancy_meaning.specs.Sizes.{Size}
use Rattle.fancy_meaning.specs.Instr.{Instr, Newline}
use Rattle.fancy_meaning.specs.Code.{Code, nothing, one, ◌>>◌, in_turn, over_fresh_slot, headed, from_here, one_at, branch, branches}

abbrev pub group_code : ℕ → Code → Code
group_code g body =
    over_fresh_slot (λ slot. one (Instr.SaveCaptureGroupStart g slot) >> body >> one (Instr.SaveCaptureGroup g slot))

abbrev pub atomic_code : Code → Code
atomic_code body = one Instr.BeginAtomic >> body >> one Instr.EndAtomic

abbrev pub conditional_code : Code → Code → Code → Code
conditional_code c t f =
    one Instr.BeginAtomic >> branch (c >> one Instr.EndAtomic >> t) (one Instr.EndAtomic >> f)

-- CR LF, or else one newline
abbrev pub newline_code : Bool → Code
newline_code unicode =
    atomic_code (branch (one (Instr.Lit (13 ∷ 10 ∷ []))) (one (Instr.Class (Newline unicode))))

-- ---- look-around

abbrev pub look_code : Code → Code
look_code inner = over_fresh_slot (λ slot. one (Instr.Save slot) >> inner >> one (Instr.Restore slot))

abbrev pub negative_look_code : Code → Code
negative_look_code inner =
    headed (λ here after. Instr.Split (here + 1) after) (inner >> one Instr.FailNegativeLookAround)

-- a lookbehind of a body with this size; without a constant size it is refused, and not written
abbrev pub behind_code : (Code → Code) → Size × Code → Code
behind_code look (s, body) = if s.is_const then look (one (Instr.GoBack s.least) >> body) else nothing

-- a look-around of a body, which has these branches where it is an alternation
abbrev pub look_around_code : Look → Size × Code → List (Size × Code) → Code
look_around_code LookAhead body bodies = look_code body.1
look_around_code LookAheadNeg body bodies = negative_look_code body.1
look_around_code LookBehind body bodies =
    if body.0.is_const then behind_code look_code body else branches (map (behind_code look_code) bodies)
look_around_code LookBehindNeg body bodies =
    if body.0.is_const then behind_code negative_look_code body
    else in_turn (map (behind_code negative_look_code) bodies)

-- ---- loops

-- how a loop is written
pub data LoopForm : Type 0 where
  Never AtMostOnce : LoopForm
  -- a body that may take nothing
  Epsilon : (lo : ℕ) → LoopForm
  -- without a count
  Star Plus : LoopForm
  Counted : (lo : ℕ) (hi : Option ℕ) → LoopForm

-- by the bounds, and by whether the body may take nothing: the first that fits
abbrev pub loop_form : ℕ → Option ℕ → Bool → LoopForm
loop_form lo (Some zero) may_be_empty = Never
loop_form zero (Some (suc zero)) may_be_empty = AtMostOnce
loop_form lo None true = Epsilon lo
loop_form zero None false = Star
loop_form (suc zero) None false = Plus
loop_form lo hi may_be_empty = Counted lo hi

abbrev pub split : Bool → ℕ → ℕ → Instr
split true on off = Instr.Split on off
split false on off = Instr.Split off on

-- a loop's head, its body, and the jump to the head
abbrev pub loop_code : (ℕ → ℕ → Instr) → Code → Code
loop_code head body = from_here (λ here. headed head (body >> one (Instr.Jmp here)))

abbrev pub epsilon_code : Bool → ℕ → Code → Code
epsilon_code greedy lo body =
    over_fresh_slot (λ repeat. over_fresh_slot (λ check.
    one (Instr.Save0 repeat) >> loop_code (λ here after. Instr.RepeatEpsilon greedy lo after repeat check) body))

abbrev pub counted_code : Bool → ℕ → Option ℕ → Code → Code
counted_code greedy lo hi body =
    over_fresh_slot (λ repeat.
    one (Instr.Save0 repeat) >> loop_code (λ here after. Instr.Repeat greedy lo hi after repeat) body)

abbrev pub repeat_code : Bool → Code → LoopForm → Code
repeat_code greedy body Never = nothing
repeat_code greedy body AtMostOnce = headed (λ here after. split greedy (here + 1) after) body
repeat_code greedy body (Epsilon lo) = epsilon_code greedy lo body
repeat_code greedy body Star = loop_code (λ here after. split greedy (here + 1) after) body
repeat_code greedy body Plus = from_here (λ start. body >> one_at (λ here. split greedy start (here + 1)))
repeat_code greedy body (Counted lo hi) = counted_code greedy lo hi body

-- one character at a time, as long as the body has no way
abbrev pub absent_code : Code → Code
absent_code body = epsilon_code true 0 (conditional_code (negative_look_code body) (one Instr.Any) nothing)
