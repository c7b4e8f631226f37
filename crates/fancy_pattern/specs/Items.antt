-- The token at the front of a text, and what holds behind it.
use Rattle.std.specs.Prelude.{ℕ, ◌+◌, true, false, not, Option, Some, None, Ok, Err, if◌then◌else◌, ◌==◌, nat_lt}
use Rattle.fancy_meaning.specs.Tree as tree
use Rattle.fancy_meaning.specs.Tree.{Tree}
use Rattle.fancy_meaning.specs.WellFormed.{most_groups}
use Rattle.fancy_tokens.specs.declared.error.ErrorKind.TheVariants.{GeneralParseError}
use Rattle.fancy_tokens.specs.declared.lexing.ClassPlace.{ClassPlace}
use Rattle.fancy_tokens.specs.declared.lexing.Head.TheVariants as head
use Rattle.fancy_tokens.specs.declared.flags.Flags.{Flags}
use Rattle.fancy_tokens.specs.declared.lexing.Lexing.{Lexing}
use Rattle.fancy_pattern.specs.declared.items.Found as code
use Rattle.fancy_tokens.specs.declared.tokens.Quantifier.{Quantifier}
use Rattle.fancy_tokens.specs.declared.tokens.Quantifier.TheVariants.{Star, Plus, Question}
use Rattle.fancy_pattern.specs.Texts.{Text, Read, fault_at, ◌>>=◌, uncons}
use Rattle.fancy_tokens.specs.Tokens.{Token, Node, Open, Bar, Close, Quantified, ClassOpen, Item, item}
use Rattle.fancy_pattern.specs.Escapes.{escape_at}
use Rattle.fancy_pattern.specs.Quantifiers.{counts_at}
use Rattle.fancy_pattern.specs.Groups.{opening_at}
use Rattle.fancy_pattern.specs.Classes.{class_item_at}
use Rattle.fancy_tokens.specs.PatternViews.{unboxed_of}
use Rattle.fancy_tokens.specs.Nesting.{opened_by}

-- `.`, by `s` and `R`
abbrev pub any_of : Flags → Tree
any_of f = if f.dot_all then tree.Any true false else tree.Any false f.crlf

-- `^`, by `m`, `R` and the option for Oniguruma
abbrev pub start_of : Flags → Tree
start_of f =
    if not f.multi_line then tree.Assert tree.NoLook tree.StartText
    else if f.oniguruma then tree.Assert tree.NoLook (tree.StartLineOniguruma f.crlf)
    else tree.Assert tree.NoLook (tree.StartLine f.crlf)

-- `$`, by `m` and `R`
abbrev pub end_of : Flags → Tree
end_of f =
    if f.multi_line then tree.Assert tree.NoLook (tree.EndLine f.crlf) else tree.Assert tree.NoLook tree.EndText

-- a quantifier is greedy but under `U`
abbrev pub quantified : Flags → Quantifier → Token
quantified f q = Quantified q (not f.swap_greed)

abbrev pub literal : Flags → ℕ → Token
literal f c = Node (tree.Literal c f.casei)

-- a `{` that begins no counts is a literal; `text` begins with it, and `after` follows it
unfoldable pub brace_at : Flags → Text → Text → Read Token
brace_at f text after =
    elim (counts_at f.ignore_whitespace after) [
      | None ↦ Ok (literal f 123, after)
      | Some counts ↦ elim counts.0 [
        | Ok q ↦ Ok (quantified f q, counts.1)
        | Err kind ↦ Err (fault_at kind text)
      ]
    ]

-- the tokens of one character that are no literals
abbrev pub sign_token : Flags → ℕ → Option Token
sign_token f c =
    if c == 46 then Some (Node (any_of f))
    else if c == 94 then Some (Node (start_of f))
    else if c == 36 then Some (Node (end_of f))
    else if c == 124 then Some Bar
    else if c == 41 then Some Close
    else if c == 42 then Some (quantified f Star)
    else if c == 43 then Some (quantified f Plus)
    else if c == 63 then Some (quantified f Question)
    else if c == 91 then Some (ClassOpen f.casei)
    else None

-- the token at the front, outside of classes; nothing is no token
unfoldable pub item_at : Flags → ℕ → Text → Read Item
item_at f opened text =
    elim (uncons text) [
      | None ↦ Err (fault_at GeneralParseError text)
      | Some p ↦ elim (sign_token f p.0) [
        | Some t ↦ Ok (item f t, p.1)
        | None ↦ if p.0 == 40 then opening_at f opened p.1
            else if p.0 == 92 then (escape_at f opened p.1 >>= λ t. Ok (item f t.0, t.1))
            else if p.0 == 123 then (brace_at f text p.1 >>= λ t. Ok (item f t.0, t.1))
            else Ok (item f (literal f p.0), p.1)
      ]
    ]

-- the class that is open behind a token
abbrev pub class_of : Token → ClassPlace
class_of (ClassOpen casei) = record { depth = 1; head = head.Start }
class_of t = record { depth = 0; head = head.Inner }

-- a token, and what holds behind it
pub record Found : Type 0 where
  pub token : Token
  pub behind : Lexing

abbrev pub found_of : code.Found → Found
found_of x = record { token = unboxed_of x.token; behind = x.behind }

-- outside of classes; a group may not be one too many
unfoldable pub outside_at : Lexing → Text → Read Found
outside_at now text =
    item_at now.flags now.opened text
    >>= λ i. if nat_lt most_groups (now.opened + opened_by i.0.token) then Err (fault_at GeneralParseError text)
    else Ok (
      record {
        token = i.0.token;
        behind = record {
          flags = i.0.flags;
          opened = now.opened + opened_by i.0.token;
          class = class_of i.0.token;
        };
      },
      i.1,
    )

-- in a class
unfoldable pub within_at : Lexing → Text → Read Found
within_at now text =
    class_item_at now.class text
    >>= λ i. Ok
    (record { token = i.0.token; behind = record { flags = now.flags; opened = now.opened; class = i.0.place } }, i.1)

unfoldable pub found_at : Lexing → Text → Read Found
found_at now text = if now.class.depth == 0 then outside_at now text else within_at now text

-- a token that neither begins nor ends a group
abbrev pub IsLone : Token → Type 0
IsLone (Open o) = ⊥
IsLone Close = ⊥
IsLone t = Unit {0}

-- outside of classes, a token behind which nothing changes
abbrev pub lone_found : Lexing → Token → Found
lone_found now t =
    record {
      token = t;
      behind = record { flags = now.flags; opened = now.opened; class = record { depth = 0; head = head.Inner } };
    }
