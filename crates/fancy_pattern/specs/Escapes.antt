-- What follows a backslash.
use Rattle.std.specs.Prelude.{ℕ, ◌+◌, Bool, true, false, not, ◌&&◌, ◌||◌, [], ◌∷◌, length, take, drop, codes, encode_utf8_all, Option, Some, None, option_and_then, Ok, Err, if◌then◌else◌, ◌==◌, nat_lt}
use lib.Utf8.{scalar}
use Rattle.std.specs.Char.{is_ascii_digit, is_ascii_alphanumeric, is_digit}
use Rattle.std.specs.List.{take_while}
use Rattle.fancy_meaning.specs.Tree as tree
use Rattle.fancy_meaning.specs.Tree.{Tree}
use Rattle.fancy_tokens.specs.declared.error.ErrorKind.TheVariants.{TrailingBackslash, InvalidEscape, UnclosedUnicodeName, InvalidHex, InvalidCodepointValue}
use Rattle.fancy_tokens.specs.declared.flags.Flags.{Flags}
use Rattle.fancy_tokens.specs.declared.tokens.Naming.{Naming}
use Rattle.fancy_tokens.specs.declared.tokens.Naming.TheVariants as naming
use Rattle.fancy_pattern.specs.Texts.{Text, Read, fault_at, ◌>>=◌, uncons, skip_run, skip_word}
use Rattle.fancy_pattern.specs.Numbers.{number_of}
use Rattle.fancy_pattern.specs.Names.{number_at, delimited_at}
use Rattle.fancy_tokens.specs.Tokens.{Token, Node, Refer, Number}

-- a digit of a hexadecimal number
abbrev pub is_hex : ℕ → Bool
is_hex c = is_digit c 16

-- the character whose number the digits write
abbrev pub char_of : Text → Option ℕ
char_of digits = option_and_then (λ n. if scalar n then Some n else None) (number_of 16 digits)

-- so many digits
unfoldable pub bare_hex_at : ℕ → Text → Read ℕ
bare_hex_at count text =
    if nat_lt (length (take_while is_hex text)) count then Err (fault_at InvalidHex (skip_run is_hex text))
    else elim (char_of (take count text)) [
      | Some c ↦ Ok (c, drop count text)
      | None ↦ Err (fault_at InvalidCodepointValue text)
    ]

-- one to eight digits and the closing brace
unfoldable pub braced_hex_at : Text → Read ℕ
braced_hex_at text =
    if nat_lt 8 (length (take_while is_hex text)) then Err (fault_at InvalidHex (drop 8 text))
    else elim (uncons (skip_run is_hex text)) [
      | None ↦ Err (fault_at InvalidHex (skip_run is_hex text))
      | Some p ↦ if p.0 == 125 && not (length (take_while is_hex text) == 0)
          then elim (char_of (take_while is_hex text)) [
            | Some c ↦ Ok (c, p.1)
            | None ↦ Err (fault_at InvalidCodepointValue text)
          ]
          else Err (fault_at InvalidHex (skip_run is_hex text))
    ]

unfoldable pub hex_at : ℕ → Text → Read ℕ
hex_at count text =
    elim (uncons text) [
      | None ↦ bare_hex_at count text
      | Some p ↦ if p.0 == 123 then braced_hex_at p.1 else bare_hex_at count text
    ]

-- how long the name of a property is: one character, or all up to the closing brace
unfoldable pub property_length : Text → Option ℕ
property_length text =
    option_and_then
    (λ p. if not (p.0 == 123) then Some 1
    else if nat_lt (length (take_while (λ c. not (c == 125)) text)) (length text)
    then Some (length (take_while (λ c. not (c == 125)) text) + 1)
    else None)
    (uncons text)

unfoldable pub property_at : Text → Read Text
property_at text =
    elim (property_length text) [
      | Some n ↦ Ok (take n text, drop n text)
      | None ↦ Err (record { left = 0; kind = UnclosedUnicodeName })
    ]

-- what follows `\b`: the name of another boundary in braces, or nothing
unfoldable pub boundary_at : Text → tree.Assertion × Text
boundary_at text =
    elim (skip_word (codes "{start}") text) [
      | Some rest ↦ (tree.LeftWordBoundary, rest)
      | None ↦ elim (skip_word (codes "{end}") text) [
        | Some rest ↦ (tree.RightWordBoundary, rest)
        | None ↦ elim (skip_word (codes "{start-half}") text) [
          | Some rest ↦ (tree.LeftWordHalfBoundary, rest)
          | None ↦ elim (skip_word (codes "{end-half}") text) [
            | Some rest ↦ (tree.RightWordHalfBoundary, rest)
            | None ↦ (tree.WordBoundary, text)
          ]
        ]
      ]
    ]

-- the character itself, unless it is a letter or a digit of ASCII
abbrev pub own_escape : Bool → ℕ → Option Tree
own_escape casei c = if is_ascii_alphanumeric c then None else Some (tree.Literal c casei)

-- a e f n r t v
abbrev pub literal_escape : Flags → ℕ → Option Tree
literal_escape f c =
    if c == 97 then Some (tree.Literal 0x07 f.casei)
    else if c == 101 then Some (tree.Literal 0x1B f.casei)
    else if c == 102 then Some (tree.Literal 0x0C f.casei)
    else if c == 110 then Some (tree.Literal 0x0A f.casei)
    else if c == 114 then Some (tree.Literal 0x0D f.casei)
    else if c == 116 then Some (tree.Literal 0x09 f.casei)
    else if c == 118 then Some (tree.Literal 0x0B f.casei)
    else own_escape f.casei c

abbrev pub asserted : tree.Assertion → Option Tree
asserted a = Some (tree.Assert tree.NoLook a)

-- A z Z B < > G K R O N h H
abbrev pub leaf_escape : Flags → ℕ → Option Tree
leaf_escape f c =
    if c == 65 then asserted tree.StartText
    else if c == 122 then asserted tree.EndText
    else if c == 90 then asserted (tree.EndTextIgnoreTrailingNewlines f.crlf)
    else if c == 66 then asserted tree.NotWordBoundary
    else if c == 60 then asserted tree.LeftWordBoundary
    else if c == 62 then asserted tree.RightWordBoundary
    else if c == 71 then Some tree.ContinueFromPreviousMatchEnd
    else if c == 75 then Some tree.KeepOut
    else if c == 82 then Some (tree.GeneralNewline f.unicode)
    else if c == 79 then Some (tree.Any true false)
    else if c == 78 then Some (tree.Any false false)
    else if c == 104 then Some (tree.Delegate (codes "[0-9A-Fa-f]") false)
    else if c == 72 then Some (tree.Delegate (codes "[^0-9A-Fa-f]") false)
    else literal_escape f c

-- the class that is a backslash, this letter and this text
abbrev pub set : Flags → ℕ → Text → Token
set f letter text = Node (tree.Delegate (encode_utf8_all (92 ∷ letter ∷ text)) f.casei)

abbrev pub is_set : ℕ → Bool
is_set c = c == 100 || c == 68 || c == 115 || c == 83 || c == 119 || c == 87

unfoldable pub set_at : Flags → ℕ → Text → Read Token
set_at f letter text = property_at text >>= λ name. Ok (set f letter name.0, name.1)

unfoldable pub literal_at : Flags → ℕ → Text → Read Token
literal_at f count text = hex_at count text >>= λ c. Ok (Node (tree.Literal c.0 f.casei), c.1)

unfoldable pub refer_at : ℕ → Naming → Text → Read Token
refer_at opened n text = delimited_at opened n text >>= λ r. Ok (Refer r.0, r.1)

-- a reference by its number
unfoldable pub numbered_at : Flags → Text → Read Token
numbered_at f text =
    number_at text
    >>= λ n. Ok
    (Refer (record { naming = naming.Backref f.casei; target = Number n.0; level = None; left = length text }), n.1)

-- the escapes of one character, and references by number; `text` begins with the character, and `after` follows it
unfoldable pub other_escape_at : Flags → ℕ → Text → Text → Read Token
other_escape_at f c text after =
    if is_set c then Ok (set f c [], after)
    else if is_ascii_digit c then numbered_at f text
    else elim (leaf_escape f c) [
      | Some e ↦ Ok (Node e, after)
      | None ↦ Err (fault_at InvalidEscape text)
    ]

-- from the character behind the backslash on, where so many groups were opened
unfoldable pub escape_at : Flags → ℕ → Text → Read Token
escape_at f opened text =
    elim (uncons text) [
      | None ↦ Err (fault_at TrailingBackslash text)
      | Some p ↦ if p.0 == 120 then literal_at f 2 p.1
          else if p.0 == 117 then literal_at f 4 p.1
          else if p.0 == 85 then literal_at f 8 p.1
          else if p.0 == 112 then set_at f p.0 p.1
          else if p.0 == 80 then set_at f p.0 p.1
          else if p.0 == 98 then (let b = boundary_at p.1 in Ok (Node (tree.Assert tree.NoLook b.0), b.1))
          else if p.0 == 107 then refer_at opened (naming.Backref f.casei) p.1
          else if p.0 == 103 then refer_at opened naming.Call p.1
          else other_escape_at f p.0 text p.1
    ]
