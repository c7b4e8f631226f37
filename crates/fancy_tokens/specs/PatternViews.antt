-- The views of the parser's values: tokens as plain ones.
use Rattle.std.specs.Prelude.{ℕ, ◌+◌, ◌-◌, ◌/◌, ◌%◌, ◌++◌, drop, nat_lt, Bool, false, List, [], ◌∷◌, codes, encode_utf8_all, None, if◌then◌else◌}
use Rattle.std.specs.Option.{option_map}
use Rattle.fancy_meaning.specs.Tree as tree
use Rattle.fancy_meaning.specs.Tree.{Tree}
use Rattle.fancy_expr.specs.Views.{assertion_of, look_of, verb_of}
use Rattle.fancy_tokens.specs.declared.tokens.Leaf.{Leaf}
use Rattle.fancy_tokens.specs.declared.tokens.Leaf.TheVariants as leaf
use Rattle.fancy_tokens.specs.declared.tokens.Target as code_target
use Rattle.fancy_tokens.specs.declared.tokens.Target.TheVariants as target
use Rattle.fancy_tokens.specs.declared.tokens.Reference as code_reference
use Rattle.fancy_tokens.specs.declared.tokens.Opening as code_opening
use Rattle.fancy_tokens.specs.declared.tokens.Opening.TheVariants as opening
use Rattle.fancy_tokens.specs.declared.tokens.ClassPiece.{ClassPiece}
use Rattle.fancy_tokens.specs.declared.tokens.ClassPiece.TheVariants as piece
use Rattle.fancy_tokens.specs.declared.tokens.Quantifier.TheVariants as quantifier
use Rattle.fancy_tokens.specs.declared.tokens.Token as code_token
use Rattle.fancy_tokens.specs.declared.tokens.Token.TheVariants as token
use Rattle.fancy_tokens.specs.declared.tokens.Item as code_item
use Rattle.fancy_tokens.specs.declared.tokens.Placed as code_placed
use Rattle.fancy_tokens.specs.declared.tokens.Unboxed as code_unboxed
use Rattle.fancy_tokens.specs.declared.tokens.Unboxed.TheVariants as unboxed
use Rattle.fancy_tokens.specs.Tokens as plain

abbrev pub hex_class : Bool → List ℕ
hex_class negated = if negated then codes "[^0-9A-Fa-f]" else codes "[0-9A-Fa-f]"

abbrev pub leaf_of : Leaf → Tree
leaf_of (leaf.Any newline crlf) = tree.Any newline crlf
leaf_of (leaf.Assertion a) = tree.Assert tree.NoLook (assertion_of a)
leaf_of (leaf.GeneralNewline unicode) = tree.GeneralNewline unicode
leaf_of (leaf.Literal val casei) = tree.Literal val casei
leaf_of (leaf.HexDigits negated) = tree.Delegate (hex_class negated) false
leaf_of leaf.KeepOut = tree.KeepOut
leaf_of leaf.ContinueFromPreviousMatchEnd = tree.ContinueFromPreviousMatchEnd
leaf_of leaf.AbsentClear = tree.AbsentClear
leaf_of (leaf.Verb v) = tree.Control (verb_of v)

abbrev pub target_of : code_target.Target → plain.Target
target_of (target.Name name) = plain.Name name.now
target_of (target.Number n) = plain.Number n
target_of target.Nowhere = plain.Nowhere

abbrev pub reference_of : code_reference.Reference → plain.Reference
reference_of r = record { naming = r.naming; target = target_of r.target; level = r.level; left = r.left }

abbrev pub opening_of : code_opening.Opening → plain.Opening
opening_of (opening.Enclosing e) = plain.Around e
opening_of (opening.Group number name) = plain.Group number (option_map (λ n. n.now) name)
opening_of opening.AbsentBar = plain.AbsentBar
opening_of (opening.If r) = plain.If (reference_of r)
opening_of opening.IfPattern = plain.IfPattern
opening_of (opening.IfLook look) = plain.IfLook (look_of look)

-- a digit below 16
abbrev pub hex_digit : ℕ → ℕ
hex_digit d = if nat_lt d 10 then 48 + d else 55 + d

-- how many digits the number of a character has
abbrev pub hex_length : ℕ → ℕ
hex_length n =
    if nat_lt n 0x10 then 1
    else if nat_lt n 0x100 then 2
    else if nat_lt n 0x1000 then 3
    else if nat_lt n 0x1_0000 then 4
    else if nat_lt n 0x10_0000 then 5
    else 6

-- the number of a character in capital hexadecimal digits, without leading zeros
abbrev pub hex_digits : ℕ → List ℕ
hex_digits n =
    drop (6 - hex_length n)
    (hex_digit (n / 0x10_0000 % 16)
    ∷ hex_digit (n / 0x1_0000 % 16)
    ∷ hex_digit (n / 0x1000 % 16)
    ∷ hex_digit (n / 0x100 % 16)
    ∷ hex_digit (n / 0x10 % 16)
    ∷ hex_digit (n % 16)
    ∷ [])

-- a character by its number
abbrev pub code_text : ℕ → List ℕ
code_text c = codes "\\x{" ++ hex_digits c ++ 125 ∷ []

-- what stands for `\h` and `\H` in a class
abbrev pub hex_digits_text : Bool → List ℕ
hex_digits_text negated = if negated then codes "[^0-9A-Fa-f]" else codes "0-9A-Fa-f"

-- a piece of a class as it is handed on
abbrev pub piece_text : ClassPiece → List ℕ
piece_text (piece.Char c) = c ∷ []
piece_text (piece.Escaped c) = 92 ∷ c ∷ []
piece_text (piece.Code c) = code_text c
piece_text (piece.Set letter text) = 92 ∷ letter ∷ text.now
piece_text (piece.HexDigits negated) = hex_digits_text negated
piece_text piece.Backspace = codes "\\x08"
piece_text piece.Escape = codes "\\x1B"

abbrev pub token_of : code_token.Token → plain.Token
token_of (token.Leaf l) = plain.Node (leaf_of l)
token_of (token.Set casei letter text) = plain.Node (tree.Delegate (encode_utf8_all (92 ∷ letter ∷ text.now)) casei)
token_of (token.Numbered naming number left) =
    plain.Refer (record { naming = naming; target = plain.Number number; level = None; left = left })
token_of (token.Refer r) = plain.Refer (reference_of r.value.reference)
token_of token.Flags = plain.FlagsItem
token_of (token.Enclosing e) = plain.Open (plain.Around e)
token_of (token.Group number) = plain.Open (plain.Group number None)
token_of (token.Open o) = plain.Open (opening_of o.value.opening)
token_of token.Bar = plain.Bar
token_of token.Close = plain.Close
token_of (token.Star greedy) = plain.Quantified quantifier.Star greedy
token_of (token.Plus greedy) = plain.Quantified quantifier.Plus greedy
token_of (token.Question greedy) = plain.Quantified quantifier.Question greedy
token_of (token.Counts greedy lo hi) = plain.Quantified (quantifier.Counts lo hi) greedy
token_of (token.ClassOpen casei) = plain.ClassOpen casei
token_of (token.ClassChar c) = plain.ClassText (piece_text (piece.Char c))
token_of (token.ClassEscaped c) = plain.ClassText (piece_text (piece.Escaped c))
token_of (token.ClassCode c) = plain.ClassText (piece_text (piece.Code c))
token_of (token.ClassSet letter text) = plain.ClassText (piece_text (piece.Set letter text))
token_of (token.ClassHexDigits negated) = plain.ClassText (piece_text (piece.HexDigits negated))
token_of token.ClassBackspace = plain.ClassText (piece_text piece.Backspace)
token_of token.ClassEscape = plain.ClassText (piece_text piece.Escape)
token_of token.ClassClose = plain.ClassClose
token_of (token.Broken kind) = plain.Broken kind

abbrev pub placed_of : code_placed.Placed → plain.Placed
placed_of p = record { left = p.left; token = token_of p.token }

abbrev pub unboxed_of : code_unboxed.Unboxed → plain.Token
unboxed_of (unboxed.Token t) = token_of t
unboxed_of (unboxed.Refer r) = plain.Refer (reference_of r)
unboxed_of (unboxed.Open o) = plain.Open (opening_of o)

abbrev pub item_of : code_item.Item → plain.Item
item_of i = record { token = unboxed_of i.token; flags = i.flags }
