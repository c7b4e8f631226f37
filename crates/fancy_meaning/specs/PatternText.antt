-- The text that names a fragment. It is never matched.
use Rattle.std.specs.Prelude.{ℕ, Bool, true, false, ◌&&◌, List, [], ◌∷◌, ◌++◌, Option, Some, None, if◌then◌else◌, nat_lt, ◌==◌, codes, encode_utf8, decimal}
use Rattle.regex_syntax.specs.Reading.{◌∈◌}
use Prim.Native.String.{String}
use Rattle.fancy_meaning.specs.Tree.{Tree, Trees, none, more, Any, Assert, Literal, Delegate, Concat, Alt, Group, Repeat, Assertion, StartText, EndText, EndTextIgnoreTrailingNewlines, StartLine, StartLineOniguruma, EndLine, LeftWordBoundary, RightWordBoundary, LeftWordHalfBoundary, RightWordHalfBoundary, WordBoundary, NotWordBoundary}

abbrev pub Text : Type 0
Text = List ℕ

abbrev pub wrapped : String → Text → String → Text
wrapped before t after = codes before ++ (t ++ codes after)

abbrev pub wrapped_if : Bool → String → Text → Text
wrapped_if b before t = if b then wrapped before t ")" else t

-- a character, with a backslash before one that has a meaning of its own
abbrev pub escaped : ℕ → Text
escaped c = if c ∈ "\\.+*?()|[]{}^$#" then 0x5C ∷ encode_utf8 c else encode_utf8 c

abbrev pub line_edge : Bool → String → Text
line_edge crlf edge = wrapped (if crlf then "(?Rm:" else "(?m:") (codes edge) ")"

abbrev pub assertion_text : Assertion → Text
assertion_text StartText = codes "^"
assertion_text EndText = codes "$"
assertion_text (EndTextIgnoreTrailingNewlines crlf) = codes "\\Z"
assertion_text (StartLine crlf) = line_edge crlf "^"
assertion_text (StartLineOniguruma crlf) = line_edge crlf "^"
assertion_text (EndLine crlf) = line_edge crlf "$"
assertion_text LeftWordBoundary = codes "\\b{start}"
assertion_text RightWordBoundary = codes "\\b{end}"
assertion_text LeftWordHalfBoundary = codes "\\b{start-half}"
assertion_text RightWordHalfBoundary = codes "\\b{end-half}"
assertion_text WordBoundary = codes "\\b"
assertion_text NotWordBoundary = codes "\\B"

abbrev pub any_text : Bool → Bool → Text
any_text true crlf = codes "(?s:.)"
any_text false true = codes "(?R:.)"
any_text false false = codes "."

abbrev pub bounds_text : ℕ → Option ℕ → Text
bounds_text lo None =
    if lo == 0 then codes "*" else (if lo == 1 then codes "+" else wrapped "{" (decimal lo) ",}")
bounds_text lo (Some hi) =
    if lo == hi then wrapped "{" (decimal lo) "}"
    else (if lo == 0 && hi == 1 then codes "?" else wrapped "{" (decimal lo ++ codes "," ++ decimal hi) "}")

abbrev pub joined : Text → List Text → Text
joined between [] = []
joined between (t ∷ []) = t
joined between (t ∷ u ∷ ts) = t ++ (between ++ joined between (u ∷ ts))

-- the text of a node, in brackets where what stands around it binds tighter
abbrev mutual
  pub text_of : Tree → ℕ → Text
  text_of (Any newline crlf) precedence = any_text newline crlf
  text_of (Literal c casei) precedence = wrapped_if casei "(?i:" (escaped c)
  text_of (Delegate inner casei) precedence = wrapped_if casei "(?i:" inner
  text_of (Assert w a) precedence = assertion_text a
  text_of (Concat es) precedence = wrapped_if (nat_lt 1 precedence) "(?:" (joined [] (each_text es 2))
  text_of (Alt es) precedence = wrapped_if (nat_lt 0 precedence) "(?:" (joined (codes "|") (each_text es 1))
  text_of (Group g e) precedence = wrapped "(" (text_of e 0) ")"
  text_of (Repeat lo hi greedy e) precedence =
      wrapped_if (nat_lt 2 precedence) "(?:" (text_of e 3 ++ (bounds_text lo hi ++ (if greedy then [] else codes "?")))
  -- every other node has none
  text_of e precedence = []

  pub each_text : Trees → ℕ → List Text
  each_text none precedence = []
  each_text (more e es) precedence = text_of e precedence ∷ each_text es precedence
