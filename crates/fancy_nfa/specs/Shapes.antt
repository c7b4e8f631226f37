-- The parts of which states are made.
use Rattle.std.specs.Prelude.{ℕ, ◌+◌, Bool, true, false, List, [], ◌∷◌, slice_set, Option, Some, None}
use Rattle.fancy_meaning.specs.Constructs as plain_form
use Rattle.fancy_nfa_laws.specs.NfaStates as plain
use Rattle.fancy_nfa_laws.specs.NfaCode.{NfaCode, ◌>>◌, one, headed}
use Rattle.fancy_expr.specs.Views.{bound_of}
use Rattle.fancy_nfa.specs.declared.layout.LoopForm.{LoopForm}
use Rattle.fancy_nfa.specs.declared.layout.LoopForm.TheVariants as form

abbrev pub form_of : Option LoopForm → plain_form.LoopForm
form_of None = plain_form.Never
form_of (Some form.AtMostOnce) = plain_form.AtMostOnce
form_of (Some (form.Epsilon lo)) = plain_form.Epsilon lo
form_of (Some form.Star) = plain_form.Star
form_of (Some form.Plus) = plain_form.Plus
form_of (Some (form.Counted lo hi)) = plain_form.Counted lo (bound_of hi)

abbrev pub group_code : ℕ → NfaCode → NfaCode
group_code g body = one plain.Open >> body >> one (plain.Close g)

-- the state before the first branch, or a further one
abbrev pub branch_choice : (is_first : Bool) → ℕ → ℕ → plain.NfaState
branch_choice true = plain.Split
branch_choice false = plain.BranchSplit

-- a branch before others, whose jump behind the last has no target yet
abbrev pub ended_by_jump : (is_first : Bool) → NfaCode → NfaCode
ended_by_jump is_first body =
    headed (λ here after. branch_choice is_first (here + 1) after) (body >> one (plain.Jump 0))

-- the last of these jumps first, to this place
abbrev pub with_jumps : List ℕ → ℕ → List plain.NfaState → List plain.NfaState
with_jumps [] end states = states
with_jumps (j ∷ js) end states = slice_set (with_jumps js end states) j (plain.Jump end)
