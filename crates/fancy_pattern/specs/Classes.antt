-- What stands in a class, and how it is handed on to `regex`.
use Rattle.std.specs.Prelude.{ℕ, ◌+◌, ◌-◌, Bool, not, ◌||◌, [], ◌∷◌, codes, Option, Some, None, Ok, Err, if◌then◌else◌, ◌==◌, nat_le}
use Rattle.std.specs.Char.{is_ascii, is_ascii_alphanumeric}
use Rattle.fancy_tokens.specs.declared.error.ErrorKind.TheVariants.{InvalidClass, InvalidEscape}
use Rattle.fancy_pattern.specs.declared.classes.ClassItem as code
use Rattle.fancy_tokens.specs.declared.lexing.ClassPlace.{ClassPlace}
use Rattle.fancy_tokens.specs.declared.lexing.Head.TheVariants.{Start, Caret, Inner}
use Rattle.fancy_pattern.specs.Texts.{Text, Read, fault_at, ◌>>=◌, uncons}
use Rattle.fancy_pattern.specs.Escapes.{hex_at, property_at, is_set}
use Rattle.fancy_tokens.specs.Tokens.{Token, ClassText, ClassClose}
use Rattle.fancy_tokens.specs.PatternViews.{token_of, code_text}

-- a token of a class, and the place behind it
pub record ClassItem : Type 0 where
  pub token : Token
  pub place : ClassPlace

abbrev pub class_item_of : code.ClassItem → ClassItem
class_item_of i = record { token = token_of i.token; place = i.place }

-- a piece of the text that is handed on
abbrev pub piece_item : Text → ClassPlace → ClassItem
piece_item text place = record { token = ClassText text; place = place }

-- past the head of the innermost class
abbrev pub inner : ClassPlace → ClassPlace
inner place = record place { head = Inner }

-- `\d \D \s \S \w \W` and `\n \r \t \v \f \a` stay as they are
abbrev pub is_kept : ℕ → Bool
is_kept c = is_set c || c == 110 || c == 114 || c == 116 || c == 118 || c == 102 || c == 97

-- `\h \H \b \e`
abbrev pub fixed_escape : ℕ → Option Text
fixed_escape c =
    if c == 104 then Some (codes "0-9A-Fa-f")
    else if c == 72 then Some (codes "[^0-9A-Fa-f]")
    else if c == 98 then Some (codes "\\x08")
    else if c == 101 then Some (codes "\\x1B")
    else None

-- The character itself, with a backslash where `regex` takes one: it takes none before `<`, `>` and what is not ASCII.
abbrev pub own_piece : ℕ → Option Text
own_piece c =
    if is_ascii_alphanumeric c then None
    else if c == 60 || c == 62 || not (is_ascii c) then Some (c ∷ [])
    else Some (92 ∷ c ∷ [])

-- a character by its number
unfoldable pub coded_at : ℕ → Text → Read Text
coded_at count text = hex_at count text >>= λ c. Ok (code_text c.0, c.1)

-- a property, by its letter and its name
unfoldable pub kept_set_at : ℕ → Text → Read Text
kept_set_at letter text = property_at text >>= λ name. Ok (92 ∷ letter ∷ name.0, name.1)

-- the escapes of one character; `text` begins with it, and `after` follows it
unfoldable pub other_class_escape_at : ℕ → Text → Text → Read Text
other_class_escape_at c text after =
    if is_kept c then Ok (92 ∷ c ∷ [], after)
    else elim (fixed_escape c) [
      | Some piece ↦ Ok (piece, after)
      | None ↦ elim (own_piece c) [
        | Some piece ↦ Ok (piece, after)
        | None ↦ Err (fault_at InvalidEscape text)
      ]
    ]

-- from the character behind the backslash on
unfoldable pub class_escape_at : Text → Read Text
class_escape_at text =
    elim (uncons text) [
      | None ↦ Err (fault_at InvalidClass text)
      | Some p ↦ if p.0 == 120 then coded_at 2 p.1
          else if p.0 == 117 then coded_at 4 p.1
          else if p.0 == 85 then coded_at 8 p.1
          else if p.0 == 112 then kept_set_at p.0 p.1
          else if p.0 == 80 then kept_set_at p.0 p.1
          else other_class_escape_at p.0 text p.1
    ]

-- the end of the innermost class
abbrev pub closing_bracket : ClassPlace → ClassItem
closing_bracket place =
    if nat_le place.depth 1
    then (record { token = ClassClose; place = record { depth = place.depth - 1; head = Inner } })
    else piece_item (93 ∷ []) (record { depth = place.depth - 1; head = Inner })

-- a `]` directly behind `[` or `[^` is itself
abbrev pub bracket : ClassPlace → ClassItem
bracket place =
    elim place.head [
      | Start ↦ piece_item (92 ∷ 93 ∷ []) (inner place)
      | Caret ↦ piece_item (92 ∷ 93 ∷ []) (inner place)
      | Inner ↦ closing_bracket place
    ]

-- a `^` directly behind `[` does not end the head
abbrev pub caret : ClassPlace → ClassPlace
caret place =
    elim place.head [
      | Start ↦ record place { head = Caret }
      | Caret ↦ inner place
      | Inner ↦ inner place
    ]

-- the next token in a class
unfoldable pub class_item_at : ClassPlace → Text → Read ClassItem
class_item_at place text =
    elim (uncons text) [
      | None ↦ Err (fault_at InvalidClass text)
      | Some p ↦ if p.0 == 92 then (class_escape_at p.1 >>= λ e. Ok (piece_item e.0 (inner place), e.1))
          else if p.0 == 91
          then Ok (piece_item (p.0 ∷ []) (record { depth = place.depth + 1; head = Start }), p.1)
          else if p.0 == 93 then Ok (bracket place, p.1)
          else if p.0 == 94 then Ok (piece_item (p.0 ∷ []) (caret place), p.1)
          else Ok (piece_item (p.0 ∷ []) (inner place), p.1)
    ]
