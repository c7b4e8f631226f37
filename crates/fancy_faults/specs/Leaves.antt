-- Where the leaves of a pattern's tree are in the pattern.
use Rattle.std.specs.Prelude.{◌≡◌, ℕ, ◌==◌, Bool, false, List, [], ◌∷◌, ◌++◌, chars, encode_utf8_all, length, replicate, take}
use Rattle.std.specs.List.{count_by}
use Rattle.fancy_expr.specs.Exprs.{below}
use Rattle.fancy_expr.specs.declared.expr.Expr.{Expr}
use Rattle.fancy_expr.specs.declared.expr.Expr.TheVariants as expr
use Rattle.fancy_pattern.specs.AtomSpans.{AreAtomSpans}
use Rattle.fancy_pattern.specs.declared.atom_spans.AtomSpan.{AtomSpan}
use Rattle.fancy_pattern.specs.declared.options.ParseOptions.{ParseOptions}

-- a leaf with a span: it has no node below it, and is not empty
abbrev pub is_plain : Expr → Bool
is_plain expr.Empty = false
is_plain e = length (below e) == 0

-- how many leaves with a span are before the node with this index
abbrev pub leaves_before : List Expr → ℕ → ℕ
leaves_before es at = count_by is_plain (take at es)

-- the byte where the character with this index begins, or the end
abbrev pub byte_of : List ℕ → ℕ → ℕ
byte_of pattern i = length (encode_utf8_all (take i (chars pattern)))

-- start and end of each leaf, in bytes
abbrev pub spans_of : List ℕ → List AtomSpan → List (ℕ × ℕ)
spans_of pattern [] = []
spans_of pattern (a ∷ atoms) =
    replicate a.leaves (byte_of pattern a.start, byte_of pattern a.end) ++ spans_of pattern atoms

-- they are those of the atoms of the pattern
abbrev pub AreLeafSpans : ParseOptions → List ℕ → List (ℕ × ℕ) → Type 0
AreLeafSpans parsing pattern spans =
    (atoms : List AtomSpan) × AreAtomSpans parsing (chars pattern) atoms × (spans ≡ spans_of pattern atoms)
