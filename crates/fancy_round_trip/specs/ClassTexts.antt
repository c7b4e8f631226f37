-- Texts of classes that a pattern hands on just as they are written.
use Rattle.std.specs.Prelude.{◌≡◌, ℕ, true, false, ◌||◌, List, [], ◌∷◌, ◌++◌, encode_utf8_all, Ok, ◌==◌}
use Rattle.fancy_tokens.specs.declared.lexing.ClassPlace.{ClassPlace}
use Rattle.fancy_tokens.specs.declared.lexing.Head.TheVariants as head
use Rattle.fancy_pattern.specs.Texts.{Text}
use Rattle.fancy_tokens.specs.Tokens.{ClassClose}
use Rattle.fancy_pattern.specs.Escapes.{is_set, property_at}
use Rattle.fancy_pattern.specs.Classes.{piece_item, class_item_at}

-- directly behind the `[` of the outermost class
abbrev pub at_head : ClassPlace
at_head = record { depth = 1; head = head.Start }

-- behind its `]`
abbrev pub outside : ClassPlace
outside = record { depth = 0; head = head.Inner }

-- there, a piece is handed on as it is written, and leads to the other place
pub record IsPiece (p : ClassPlace) (piece : Text) (q : ClassPlace) : Type 0 where
  pub inside : (p.depth == 0) ≡ false
  pub read : (rest : Text) → class_item_at p (piece ++ rest) ≡ Ok (piece_item piece q, rest)

-- there, a `]` ends the outermost class
pub record IsLast (p : ClassPlace) : Type 0 where
  pub inside : (p.depth == 0) ≡ false
  pub read : (rest : Text) → class_item_at p (93 ∷ rest) ≡ Ok (record { token = ClassClose; place = outside }, rest)

-- from there up to the `]`, each piece is handed on as it is written
pub data AsWritten : ClassPlace → Text → Type 0 where
  ends : {p : ClassPlace} → IsLast p → AsWritten p []
  goes : {p q : ClassPlace} {piece text : Text} → IsPiece p piece q → AsWritten q text → AsWritten p (piece ++ text)

-- `\d` and the like, `\p{..}` and `\P{..}`, or a class in brackets
pub data IsClassText (cs : Text) : Type 0 where
  set : (c : ℕ) → cs ≡ 92 ∷ c ∷ [] → is_set c ≡ true → IsClassText cs
  property : (c : ℕ) (name : Text) → cs ≡ 92 ∷ c ∷ name → (c == 112 || c == 80) ≡ true →
      ((rest : Text) → property_at (name ++ rest) ≡ Ok (name, rest)) → IsClassText cs
  brackets : (body : Text) → cs ≡ 91 ∷ (body ++ 93 ∷ []) → AsWritten at_head body → IsClassText cs

-- the bytes of such a text
pub record IsClass (inner : List ℕ) : Type 0 where
  pub text : Text
  pub bytes : inner ≡ encode_utf8_all text
  pub is : IsClassText text
