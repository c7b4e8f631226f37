-- What clauses see of the pieces of a text: those of the engine, with the errors of this crate.
use Rattle.std.specs.Prelude.{◌≡◌, ℕ, List, Option, Result}
use Rattle.std.specs.Borrow.{MutBor}
use Rattle.fancy_meaning.specs.Options as plain
use Rattle.fancy_meaning.specs.Premises.{Input}
use Rattle.fancy_replace.specs.Splits as parts
use Rattle.fancy_replace.specs.declared.pieces.Pieces.{Pieces}
use Rattle.fancy_regex.specs.Errors.{item_of, limit_of_item}
use Rattle.fancy_regex.specs.Regexes.{IsSame, IsToldBy, engine_of}
use Rattle.fancy_regex.specs.declared.error.Error.{Error}
use Rattle.fancy_regex.specs.declared.regexes.Regex.{Regex}
use Rattle.fancy_regex.specs.declared.splits.Split.{Split}

-- What is left to its regex lies ahead.
abbrev pub CanGoOn : Regex → Pieces → Type 0
CanGoOn r s = parts.CanGoOn (engine_of r) s

-- A call gives the next piece by this regex, or none where none is left, or the error of a search; the regex stays.
pub record GivesPiece {P : Type 0} (shown : P → List ℕ) (r : Regex) (s : Pieces) (item : Option (Result P Error)) (q : Regex)
    (t : Pieces) : Type 0 where
  pub gives : parts.GivesPiece shown (engine_of r) s (item_of item) (engine_of q) t
  pub same : IsSame r q
  pub limits : IsToldBy (limit_of_item item) r q

-- it holds this regex, and all these pieces of the text are left
pub record BeginsSplit (r : MutBor Regex) (text : List ℕ) (all : Input → plain.RunOptions → List (List ℕ)) (s : Split) :
    Type 0 where
  pub regex : s.regex.now ≡ r.now
  pub name : s.regex.ghost_name ≡ r.ghost_name
  pub pieces : parts.HasPieces (engine_of r.now) text all s.pieces
  pub can : CanGoOn s.regex.now s.pieces

-- so a call of the iterator steps, and its regex is lent by the same caller
pub record NextPiece {P : Type 0} (shown : P → List ℕ) (s : Split) (item : Option (Result P Error)) (t : Split) : Type 0 where
  pub gives : GivesPiece shown s.regex.now s.pieces item t.regex.now t.pieces
  pub name : t.regex.ghost_name ≡ s.regex.ghost_name
