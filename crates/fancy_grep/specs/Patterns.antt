-- The pattern that is searched for, of those that are given.
use Rattle.std.specs.Prelude.{ℕ, Bool, List, [], ◌∷◌, ◌++◌, map, chars, codes, encode_utf8_all, if◌then◌else◌}
use Rattle.std.specs.List.{join_by}
use Rattle.fancy_pattern.specs.Escape.{escaped}
use Rattle.fancy_grep.specs.declared.patterns.Extent.{Extent}
use Rattle.fancy_grep.specs.declared.patterns.Extent.TheVariants.{Line, Part, Word}
use Rattle.fancy_grep.specs.declared.patterns.PatternOptions.{PatternOptions}

-- what stands before a pattern, so that its matches are such parts of a line
abbrev pub before_pattern : Extent → List ℕ
before_pattern Part = []
before_pattern Word = codes "(?<!\\w)(?:"
before_pattern Line = codes "^(?:"

-- and what stands after it
abbrev pub after_pattern : Extent → List ℕ
after_pattern Part = []
after_pattern Word = codes ")(?!\\w)"
after_pattern Line = codes ")$"

abbrev pub wrapped : Extent → List ℕ → List ℕ
wrapped extent pattern = before_pattern extent ++ (pattern ++ after_pattern extent)

-- a text is escaped, so that its characters stand for themselves
abbrev pub read_as : Bool → List ℕ → List ℕ
read_as is_text pattern = if is_text then encode_utf8_all (escaped (chars pattern)) else pattern

-- The pattern whose matches are those of any of these, earlier ones first. One is left as it is, and none never match.
abbrev pub alternation : List (List ℕ) → List ℕ
alternation [] = codes "(?!)"
alternation (pattern ∷ []) = pattern
alternation (first ∷ second ∷ others) = codes "(?:" ++ (join_by (λ p. p) (codes ")|(?:") (first ∷ second ∷ others) ++ codes ")")

abbrev pub asked : PatternOptions → List (List ℕ) → List ℕ
asked o patterns = wrapped o.extent (alternation (map (read_as o.is_text) patterns))
