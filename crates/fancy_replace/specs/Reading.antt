-- How a text is read as a template. All that marks a reference is ASCII, so bytes serve as well as characters.
use Rattle.std.specs.Prelude.{◌≡◌, ℕ, zero, suc, ◌+◌, ◌^◌, ◌==◌, Bool, false, ◌&&◌, ◌||◌, nat_lt, List, [], ◌∷◌, codes, length, map, unwrap_or, if◌then◌else◌}
use Rattle.std.specs.Char.{is_ascii_alphanumeric, is_ascii_digit}
use Rattle.std.specs.List.{before_first, list_all, list_any, take_while}
use Rattle.std.specs.Map.{lookup}
use Rattle.std.specs.Str.{bytes_eq}
use Rattle.std.specs.Str.Parse.{digits_value}
use Rattle.fancy_replace.specs.Templates.{Groups, Segment, segments_text}
use Rattle.fancy_replace.specs.Templates as templates

-- ---- tokens

-- a part of the text: these bytes as they stand, or a reference by this number or name
pub data Token : Type 0 where
  Literal : List ℕ → Token
  Reference : List ℕ → Token

abbrev pub is_dollar : ℕ → Bool
is_dollar b = b == 36

abbrev pub is_opening : ℕ → Bool
is_opening b = b == 123

abbrev pub is_closing : ℕ → Bool
is_closing b = b == 125

-- [0-9A-Za-z_]
abbrev pub is_word_byte : ℕ → Bool
is_word_byte b = is_ascii_alphanumeric b || b == 95

-- The token of a `$`, by the bytes after it, and how many of them belong to it: a second `$` makes it a dollar; braces
-- hold a reference, up to the first `}`; else the longest word is a reference; and with none of these it is a dollar.
abbrev pub dollar_token : List ℕ → Token × ℕ
dollar_token [] = (Literal (codes "$"), 0)
dollar_token (b ∷ rest) =
    if is_dollar b then (Literal (codes "$"), 1)
    else if is_opening b && list_any is_closing rest
    then (let name = before_first is_closing rest in (Reference name, length name + 2))
    else if is_word_byte b
    then (let name = take_while is_word_byte (b ∷ rest) in (Reference name, length name))
    else (Literal (codes "$"), 0)

-- The token that begins with this byte, by the bytes after it, and how many of them belong to it. Any byte but a `$`
-- begins a literal, which ends before the next `$`.
abbrev pub token_at : ℕ → List ℕ → Token × ℕ
token_at b rest =
    if is_dollar b then dollar_token rest
    else (let more = before_first is_dollar rest in (Literal (b ∷ more), length more))

-- the tokens after so many bytes, which belong to the token before
unfoldable pub tokens_after : ℕ → List ℕ → List Token
tokens_after n [] = []
tokens_after (suc n) (b ∷ rest) = tokens_after n rest
tokens_after zero (b ∷ rest) = (token_at b rest).0 ∷ tokens_after (token_at b rest).1 rest

abbrev pub tokens : List ℕ → List Token
tokens text = tokens_after 0 text

-- ---- references

-- the names of groups, each with the numbers of its groups
abbrev pub Names : Type 0
Names = List (List ℕ × List ℕ)

-- one or more digits
abbrev pub is_numeral : List ℕ → Bool
is_numeral name = nat_lt 0 (length name) && list_all is_ascii_digit name

-- the group with this number; no group has one that does not fit a machine word
abbrev pub group_numbered : ℕ → List ℕ
group_numbered n = if nat_lt n (2 ^ 64) then n ∷ [] else []

-- the groups with this name
abbrev pub groups_named : Names → List ℕ → List ℕ
groups_named names name = unwrap_or (lookup (bytes_eq name) names) []

-- the groups that a reference can mean: digits are a number, and all else is a name
abbrev pub groups_of : Names → List ℕ → List ℕ
groups_of names name = if is_numeral name then group_numbered (digits_value 10 name) else groups_named names name

-- ---- templates

abbrev pub segment_for : Names → Token → Segment
segment_for names (Literal bytes) = templates.Literal bytes
segment_for names (Reference name) = Groups (groups_of names name)

-- the segments of the template that a text is, by the names of the groups
abbrev pub reading : Names → List ℕ → List Segment
reading names text = map (segment_for names) (tokens text)

-- the text that it stands for at a match, by the text that is searched and the start and end of each group
abbrev pub expansion : Names → List ℕ → List ℕ → List ℕ → List ℕ
expansion names template = segments_text (reading names template)

-- a text with no dollar
abbrev pub HasNoDollar : List ℕ → Type 0
HasNoDollar text = list_any is_dollar text ≡ false
