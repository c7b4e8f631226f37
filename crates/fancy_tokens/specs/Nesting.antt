-- How groups stand in one another: what holds behind a token, and how many groups it opens.
use Rattle.std.specs.Prelude.{◌≡◌, ℕ, ◌+◌, ◌-◌, ◌*◌, ◌<◌, ◌≤◌, Bool, true, false, if◌then◌else◌, List, [], ◌∷◌, ◌++◌, length, Result, Ok, Err}
use Rattle.fancy_tokens.specs.declared.error.Fault.{Fault}
use Rattle.fancy_tokens.specs.declared.error.ErrorKind.TheVariants.{RecursionExceeded, UnopenedCloseParen}
use Rattle.fancy_tokens.specs.declared.flags.Flags.{Flags}
use Rattle.fancy_tokens.specs.declared.lexing.Lexing.{Lexing}
use Rattle.fancy_tokens.specs.Tokens.{Opening, Group, IfPattern, IfLook, Token, Open, Close}

-- so many groups may stand in one another
abbrev pub most_nested : ℕ
most_nested = 250

-- an opening token with two parentheses
abbrev pub has_two : Opening → Bool
has_two IfPattern = true
has_two (IfLook look) = true
has_two o = false

abbrev pub levels : Opening → ℕ
levels o = if has_two o then 2 else 1

-- the flags around a group, once for each of its parentheses
abbrev pub around_it : Opening → Flags → List Flags
around_it o f = if has_two o then f ∷ f ∷ [] else f ∷ []

-- A group is entered, and the flags around it are kept; or it is too deep, and the fault is at its first parenthesis
-- that is.
abbrev pub Enters : List Flags → Flags → Opening → ℕ → Result (Unit {0}) Fault → List Flags → Type 0
Enters outer f o left (Ok u) new = (length outer + levels o ≤ most_nested) × (new ≡ outer ++ around_it o f)
Enters outer f o left (Err fault) new =
    (most_nested < length outer + levels o)
    × (fault ≡ record { left = left - 2 * (most_nested - length outer); kind = RecursionExceeded })

-- A group is left, and the flags around it hold again; or none is open.
abbrev pub Leaves : List Flags → Lexing → ℕ → Result Lexing Fault → List Flags → Type 0
Leaves outer behind left (Ok now) new = (outer ≡ new ++ now.flags ∷ []) × (now ≡ record behind { flags = now.flags })
Leaves outer behind left (Err fault) new =
    (outer ≡ []) × (fault ≡ record { left = left; kind = UnopenedCloseParen })

abbrev pub EntersTo : List Flags → Flags → Opening → Lexing → ℕ → Result Lexing Fault → List Flags → Type 0
EntersTo outer f o behind left (Ok now) new = Enters outer f o left (Ok tt) new × (now ≡ behind)
EntersTo outer f o behind left (Err fault) new = Enters outer f o left (Err fault) new

abbrev pub Stays : List Flags → Lexing → Result Lexing Fault → List Flags → Type 0
Stays outer behind (Ok now) new = (now ≡ behind) × (new ≡ outer)
Stays outer behind (Err fault) new = ⊥

-- what holds behind a token where it begins a group, ends one, or does neither; or why it cannot stand
abbrev pub GoesBy : Token → List Flags → Flags → Lexing → ℕ → Result Lexing Fault → List Flags → Type 0
GoesBy (Open o) outer f behind left r new = EntersTo outer f o behind left r new
GoesBy Close outer f behind left r new = Leaves outer behind left r new
GoesBy t outer f behind left r new = Stays outer behind r new

abbrev pub group_opened_by : Opening → ℕ
group_opened_by (Group number name) = 1
group_opened_by o = 0

-- how many groups a token opens
abbrev pub opened_by : Token → ℕ
opened_by (Open o) = group_opened_by o
opened_by t = 0
