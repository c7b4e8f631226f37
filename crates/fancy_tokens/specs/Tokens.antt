-- Tokens as plain values: what a pattern is made of, with the flags of the place taken into account.
use Rattle.std.specs.Prelude.{ℕ, ℤ, Bool, List, Option}
use Rattle.fancy_meaning.specs.Tree.{Tree, Look}
use Rattle.fancy_tokens.specs.declared.error.ErrorKind.{ErrorKind}
use Rattle.fancy_tokens.specs.declared.error.Fault.{Fault}
use Rattle.fancy_tokens.specs.declared.flags.Flags.{Flags}
use Rattle.fancy_tokens.specs.declared.tokens.Enclosing.{Enclosing}
use Rattle.fancy_tokens.specs.declared.tokens.Naming.{Naming}
use Rattle.fancy_tokens.specs.declared.tokens.Quantifier.{Quantifier}

-- how a group is named: by a name, by a number that was counted from here where it was relative, or by one that leads
-- nowhere
pub data Target : Type 0 where
  Name : (name : List ℕ) → Target
  Number : (number : ℕ) → Target
  Nowhere : Target

pub record Reference : Type 0 where
  pub naming : Naming
  pub target : Target
  pub level : Option ℤ
  -- how many characters of the pattern begin where the name or the number is
  pub left : ℕ

-- what an opening parenthesis begins
pub data Opening : Type 0 where
  Around : Enclosing → Opening
  Group : (number : ℕ) (name : Option (List ℕ)) → Opening
  AbsentBar IfPattern : Opening
  If : Reference → Opening
  IfLook : Look → Opening

pub data Token : Type 0 where
  -- an atom that is a node by itself
  Node : Tree → Token
  Refer : Reference → Token
  -- `(?i)`
  FlagsItem : Token
  Open : Opening → Token
  Bar Close : Token
  Quantified : Quantifier → (greedy : Bool) → Token
  -- the `[` of a class, what follows it as it is handed on, and its `]`
  ClassOpen : (casei : Bool) → Token
  ClassText : (text : List ℕ) → Token
  ClassClose : Token
  -- what cannot be read
  Broken : ErrorKind → Token

-- a token, and the flags that hold behind it
pub record Item : Type 0 where
  pub token : Token
  pub flags : Flags

abbrev pub item : Flags → Token → Item
item flags token = record { token = token; flags = flags }

-- a token, and how many characters of the pattern begin where it does
pub record Placed : Type 0 where
  pub left : ℕ
  pub token : Token

abbrev pub placed : ℕ → Token → Placed
placed left token = record { left = left; token = token }

-- what cannot be read, as a token
abbrev pub broken : Fault → Placed
broken fault = record { left = fault.left; token = Broken fault.kind }
