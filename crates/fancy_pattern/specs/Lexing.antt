-- The tokens of a pattern: gaps are passed, and flags hold up to the end of the group around.
use Rattle.std.specs.Prelude.{◌≡◌, ◌<◌, List, [], ◌∷◌, length, Some, None, Ok, Err}
use Rattle.fancy_tokens.specs.declared.error.Fault.{Fault}
use Rattle.fancy_tokens.specs.declared.lexing.Head.TheVariants as head
use Rattle.fancy_tokens.specs.declared.flags.Flags.{Flags}
use Rattle.fancy_tokens.specs.declared.lexing.Lexing.{Lexing}
use Rattle.fancy_pattern.specs.Texts.{Text, gap_at}
use Rattle.fancy_tokens.specs.Tokens.{Placed, placed, broken}
use Rattle.fancy_tokens.specs.Nesting.{GoesBy}
use Rattle.fancy_pattern.specs.Items.{Found, found_at}

-- what holds at a place, and the flags around each group that is open, the innermost last
pub record State : Type 0 where
  pub now : Lexing
  pub outer : List Flags

abbrev pub at_start : Flags → State
at_start f =
    record {
      now = record { flags = f; opened = 0; class = record { depth = 0; head = head.Inner } };
      outer = [];
    }

-- no gap is at the front, and outside of classes there is something
pub record IsAtToken (s : State) (text : Text) : Type 0 where
  pub some : s.now.class.depth ≡ 0 → 0 < length text
  pub no_gap : s.now.class.depth ≡ 0 → gap_at s.now.flags.ignore_whitespace text ≡ None

-- the tokens of a text in a state
pub data Lexes : State → Text → List Placed → Type 0 where
  ended : {s : State} → s.now.class.depth ≡ 0 → Lexes s [] []
  gap : {s : State} {text after : Text} {ts : List Placed} →
      s.now.class.depth ≡ 0 →
      gap_at s.now.flags.ignore_whitespace text ≡ Some after →
      Lexes s after ts →
      Lexes s text ts
  token : {s : State} {text after : Text} {found : Found} {next : State} {ts : List Placed} →
      IsAtToken s text →
      found_at s.now text ≡ Ok (found, after) →
      GoesBy found.token s.outer s.now.flags found.behind (length text) (Ok next.now) next.outer →
      Lexes next after ts →
      Lexes s text (placed (length text) found.token ∷ ts)
  unread : {s : State} {text : Text} {fault : Fault} →
      IsAtToken s text →
      found_at s.now text ≡ Err fault →
      Lexes s text (broken fault ∷ [])
  misplaced : {s : State} {text after : Text} {found : Found} {fault : Fault} (left_over : List Flags) →
      IsAtToken s text →
      found_at s.now text ≡ Ok (found, after) →
      GoesBy found.token s.outer s.now.flags found.behind (length text) (Err fault) left_over →
      Lexes s text (broken fault ∷ [])
