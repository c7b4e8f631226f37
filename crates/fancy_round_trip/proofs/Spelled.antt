-- The characters of a pattern text, with what follows it.
use Rattle.std.proofs.Common.{ℕ, ◌+◌, Bool, true, false, ◌&&◌, ◌∷◌, ◌++◌, Option, Some, None, if◌then◌else◌, ◌==◌, nat_lt, codes}
use Rattle.std.specs.Fmt.{decimal}
use Rattle.regex_syntax.specs.Reading.{◌∈◌}
use Rattle.fancy_meaning.specs.Tree.{Tree, Trees, none, more, Any, Assert, Literal, Delegate, Concat, Alt, Group, Repeat, Assertion, StartText, EndText, EndTextIgnoreTrailingNewlines, StartLine, StartLineOniguruma, EndLine, LeftWordBoundary, RightWordBoundary, LeftWordHalfBoundary, RightWordHalfBoundary, WordBoundary, NotWordBoundary}
use Rattle.fancy_pattern.specs.Texts.{Text}
use Rattle.fancy_round_trip.specs.Returning.{Returns, EachReturns}

abbrev pub in_brackets : Text → (Text → Text) → Text → Text
in_brackets begin own rest = begin ++ own (41 ∷ rest)

abbrev pub in_brackets_if : Bool → Text → (Text → Text) → Text → Text
in_brackets_if b begin own rest = if b then in_brackets begin own rest else own rest

abbrev pub spell_char : ℕ → Text → Text
spell_char c rest = if c ∈ "\\.+*?()|[]{}^$#" then 92 ∷ c ∷ rest else c ∷ rest

abbrev pub edge_opening : Bool → Text
edge_opening crlf = if crlf then codes "(?Rm:" else codes "(?m:"

abbrev pub spell_assertion : Assertion → Text → Text
spell_assertion StartText rest = 94 ∷ rest
spell_assertion EndText rest = 36 ∷ rest
spell_assertion (EndTextIgnoreTrailingNewlines crlf) rest = codes "\\Z" ++ rest
spell_assertion (StartLine crlf) rest = in_brackets (edge_opening crlf) (λ r. 94 ∷ r) rest
spell_assertion (StartLineOniguruma crlf) rest = in_brackets (edge_opening crlf) (λ r. 94 ∷ r) rest
spell_assertion (EndLine crlf) rest = in_brackets (edge_opening crlf) (λ r. 36 ∷ r) rest
spell_assertion LeftWordBoundary rest = codes "\\b{start}" ++ rest
spell_assertion RightWordBoundary rest = codes "\\b{end}" ++ rest
spell_assertion LeftWordHalfBoundary rest = codes "\\b{start-half}" ++ rest
spell_assertion RightWordHalfBoundary rest = codes "\\b{end-half}" ++ rest
spell_assertion WordBoundary rest = codes "\\b" ++ rest
spell_assertion NotWordBoundary rest = codes "\\B" ++ rest

abbrev pub spell_any : Bool → Bool → Text → Text
spell_any true crlf rest = in_brackets (codes "(?s:") (λ r. 46 ∷ r) rest
spell_any false true rest = in_brackets (codes "(?R:") (λ r. 46 ∷ r) rest
spell_any false false rest = 46 ∷ rest

abbrev pub spell_bounds : ℕ → Option ℕ → Text → Text
spell_bounds lo None rest =
    if lo == 0 then 42 ∷ rest else (if lo == 1 then 43 ∷ rest else 123 ∷ (decimal lo ++ 44 ∷ 125 ∷ rest))
spell_bounds lo (Some hi) rest =
    if lo == hi then 123 ∷ (decimal lo ++ 125 ∷ rest)
    else (if lo == 0 && hi == 1 then 63 ∷ rest else 123 ∷ (decimal lo ++ 44 ∷ (decimal hi ++ 125 ∷ rest)))

abbrev pub spell_suffix : Bool → Text → Text
spell_suffix greedy rest = if greedy then rest else 63 ∷ rest

-- a bar, if there are further branches
abbrev pub barred : Trees → Text → Text → Text
barred none others rest = rest
barred (more e es) others rest = 124 ∷ others

abbrev mutual
  pub spell : (e : Tree) → Returns e → ℕ → Text → Text
  spell (Any newline crlf) h precedence rest = spell_any newline crlf rest
  spell (Literal c casei) h precedence rest = in_brackets_if casei (codes "(?i:") (spell_char c) rest
  spell (Delegate inner casei) h precedence rest = in_brackets_if casei (codes "(?i:") (λ r. h.text ++ r) rest
  spell (Assert within a) h precedence rest = spell_assertion a rest
  spell (Concat es) h precedence rest = in_brackets_if (nat_lt 1 precedence) (codes "(?:") (λ r. spell_row es h.2 r) rest
  spell (Alt es) h precedence rest = in_brackets_if (nat_lt 0 precedence) (codes "(?:") (λ r. spell_bars es h.1 r) rest
  spell (Group g e) h precedence rest = 40 ∷ spell e h.1 0 (41 ∷ rest)
  spell (Repeat lo hi greedy e) h precedence rest =
      in_brackets_if (nat_lt 2 precedence) (codes "(?:") (λ r. spell e h.2 3 (spell_bounds lo hi (spell_suffix greedy r))) rest
  spell e h precedence rest = rest

  pub spell_row : (es : Trees) → EachReturns es → Text → Text
  spell_row none h rest = rest
  spell_row (more e es) h rest = spell e h.0 2 (spell_row es h.1 rest)

  pub spell_bars : (es : Trees) → EachReturns es → Text → Text
  spell_bars none h rest = rest
  spell_bars (more e es) h rest = spell e h.0 1 (barred es (spell_bars es h.1 rest) rest)

-- the groups that capture
abbrev mutual
  pub opens : Tree → ℕ
  opens (Concat es) = each_opens es
  opens (Alt es) = each_opens es
  opens (Group g e) = 1 + opens e
  opens (Repeat lo hi greedy e) = opens e
  opens e = 0

  pub each_opens : Trees → ℕ
  each_opens none = 0
  each_opens (more e es) = opens e + each_opens es
