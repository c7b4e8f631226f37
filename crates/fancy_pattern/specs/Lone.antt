-- Tokens that are found at once, and what holds behind them.
use Rattle.std.specs.Prelude.{◌≡◌, ◌+◌, None}
use Rattle.fancy_tokens.specs.declared.lexing.ClassPlace.{ClassPlace}
use Rattle.fancy_tokens.specs.declared.lexing.Head.TheVariants as head
use Rattle.fancy_tokens.specs.declared.lexing.Lexing.{Lexing}
use Rattle.fancy_tokens.specs.Tokens.{Token, Open, Group}
use Rattle.fancy_tokens.specs.Nesting.{opened_by}
use Rattle.fancy_pattern.specs.Items.{Found, IsLone, class_of}

abbrev pub no_class : ClassPlace
no_class = record { depth = 0; head = head.Inner }

-- outside of classes, a token behind which nothing changes
pub record IsQuiet (t : Token) : Type 0 where
  pub lone : IsLone t
  pub opens_none : opened_by t ≡ 0
  pub no_class_behind : class_of t ≡ no_class

-- a token, and what holds behind it
abbrev pub found_token : Token → Lexing → Found
found_token t behind = record { token = t; behind = behind }

-- a token behind which only the class changes
abbrev pub lone_in : Lexing → Token → ClassPlace → Found
lone_in now t place = found_token t (record { flags = now.flags; opened = now.opened; class = place })

-- the next group, without a name
abbrev pub next_group : Lexing → Found
next_group now =
    found_token (Open (Group (now.opened + 1) None))
    (record { flags = now.flags; opened = now.opened + 1; class = no_class })
