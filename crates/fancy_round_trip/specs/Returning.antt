-- Which trees their own pattern texts spell, and how deep the groups of such a text nest.
use Rattle.std.specs.Prelude.{◌≡◌, ℕ, ◌+◌, ◌≤◌, Bool, true, false, not, ◌&&◌, ◌||◌, if◌then◌else◌, Option, IfSome, max, nat_lt}
use Rattle.fancy_meaning.specs.Tree.{Tree, Trees, none, more, Empty, Any, Assert, Literal, Delegate, Concat, Alt, Group, Repeat, NoLook, Assertion, EndTextIgnoreTrailingNewlines, StartLine, StartLineOniguruma, EndLine}
use Rattle.fancy_meaning.specs.WellFormed.{IsCount}
use Rattle.fancy_pattern.specs.Grammar.{is_empty, is_repeatable}
use Rattle.fancy_round_trip.specs.ClassTexts.{IsClass}

-- two parts or more
abbrev pub has_two : Trees → Bool
has_two none = false
has_two (more e none) = false
has_two (more e (more d es)) = true

-- no part is empty
abbrev pub none_empty : Trees → Bool
none_empty none = true
none_empty (more e es) = not (is_empty e) && none_empty es

-- all but `\Z`, and the start of a line as Oniguruma has it
abbrev pub returns_assertion : Assertion → Bool
returns_assertion (EndTextIgnoreTrailingNewlines crlf) = false
returns_assertion (StartLineOniguruma crlf) = false
returns_assertion a = true

-- a loop's bounds are in order, and below the largest number
abbrev pub AreBounds : ℕ → Option ℕ → Type 0
AreBounds lo hi = IsCount lo × IfSome hi (λ n. (lo ≤ n) × IsCount n)

-- A tree of easy nodes as the parser makes it: groups and assertions are not numbered, a sequence or an alternation has
-- two parts or more, no part of a sequence is empty, what is repeated may be, and classes are handed on as written.
abbrev mutual
  pub Returns : Tree → Type 0
  Returns Empty = Unit {0}
  Returns (Any newline crlf) = (newline && crlf) ≡ false
  Returns (Literal c casei) = Unit {0}
  Returns (Delegate inner casei) = IsClass inner
  Returns (Assert within a) = (within ≡ NoLook) × (returns_assertion a ≡ true)
  Returns (Concat es) = (has_two es ≡ true) × (none_empty es ≡ true) × EachReturns es
  Returns (Alt es) = (has_two es ≡ true) × EachReturns es
  Returns (Group g e) = (g ≡ 0) × Returns e
  Returns (Repeat lo hi greedy e) = (is_repeatable e ≡ true) × AreBounds lo hi × Returns e
  Returns e = ⊥

  pub EachReturns : Trees → Type 0
  EachReturns none = Unit {0}
  EachReturns (more e es) = Returns e × EachReturns es

abbrev pub one_if : Bool → ℕ
one_if b = if b then 1 else 0

abbrev pub is_line_edge : Assertion → Bool
is_line_edge (StartLine crlf) = true
is_line_edge (EndLine crlf) = true
is_line_edge a = false

-- how deep the groups of the text nest, with a group for each flag and each pair of brackets
abbrev mutual
  pub depth_of : Tree → ℕ → ℕ
  depth_of (Any newline crlf) precedence = one_if (newline || crlf)
  depth_of (Literal c casei) precedence = one_if casei
  depth_of (Delegate inner casei) precedence = one_if casei
  depth_of (Assert within a) precedence = one_if (is_line_edge a)
  depth_of (Concat es) precedence = one_if (nat_lt 1 precedence) + deepest es 2
  depth_of (Alt es) precedence = one_if (nat_lt 0 precedence) + deepest es 1
  depth_of (Group g e) precedence = 1 + depth_of e 0
  depth_of (Repeat lo hi greedy e) precedence = one_if (nat_lt 2 precedence) + depth_of e 3
  depth_of e precedence = 0

  pub deepest : Trees → ℕ → ℕ
  deepest none precedence = 0
  deepest (more e es) precedence = max (depth_of e precedence) (deepest es precedence)
