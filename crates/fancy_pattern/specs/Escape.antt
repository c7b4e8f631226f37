-- What a text is escaped to: a pattern that spells it, whatever flags hold.
use Rattle.std.specs.Prelude.{ℕ, Bool, List, [], ◌∷◌, ◌++◌, map, if◌then◌else◌, ◌==◌, codes}
use Rattle.std.specs.List.{list_any}
use Rattle.fancy_meaning.specs.Tree as tree
use Rattle.fancy_meaning.specs.Tree.{Tree}
use Rattle.fancy_pattern.specs.declared.options.ParseOptions.{ParseOptions}
use Rattle.fancy_pattern.specs.Texts.{Text}
use Rattle.fancy_pattern.specs.Grammar.{joined}
use Rattle.fancy_pattern.specs.Spelling.{Spells}

-- the characters with a meaning of their own, or under `x`
abbrev pub specials : Text
specials = codes "\\.+*?()|[]{}^$#\t\n\r "

abbrev pub is_special : ℕ → Bool
is_special c = list_any (λ k. c == k) specials

-- a character, with a backslash before one that has a meaning of its own
abbrev pub escaped_char : ℕ → Text
escaped_char c = if is_special c then 92 ∷ c ∷ [] else c ∷ []

abbrev pub escaped : Text → Text
escaped [] = []
escaped (c ∷ cs) = escaped_char c ++ escaped cs

-- the characters of a text, each as a literal
abbrev pub literals : Bool → Text → List Tree
literals casei cs = map (λ c. tree.Literal c casei) cs

-- with whatever options, a pattern spells the literals of a text
abbrev pub SpellsText : Text → Text → Type 0
SpellsText pattern cs = (o : ParseOptions) → Spells o pattern (joined (literals o.case_insensitive cs))
