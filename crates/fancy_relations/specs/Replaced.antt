-- What pieces and replacements have in common.
use Rattle.std.specs.Prelude.{◌≡◌, ℕ, suc, List, [], ◌∷◌, ◌++◌, Option, Some, None, Ok, codes, map}
use Rattle.std.specs.Cow.{cow_str_bytes}
use Rattle.std.specs.declared.alloc.Global.{Global}
use Rattle.std.specs.declared.borrow.CowStr.{CowStr}
use Rattle.fancy_meaning.specs.Options.{RunOptions}
use Rattle.fancy_meaning.specs.Premises.{Input, IsText, plan}
use Rattle.fancy_matches.specs.Listing.{all_spans, in_turn, part}
use Rattle.fancy_replace.specs.Reading.{HasNoDollar, Names, expansion}
use Rattle.fancy_replace.specs.Splits.{all_pieces, most_pieces}
use Rattle.fancy_regex.specs.Builders.{IsBuilt}
use Rattle.fancy_regex.specs.Regexes.{IsRegexOf, IsReplacement}
use Rattle.fancy_regex.specs.declared.options.RegexOptions.{RegexOptions}
use Rattle.fancy_regex.specs.declared.regexes.Regex.{Regex}

-- the pieces with this between any two of them
abbrev pub joined_by : List ℕ → List (List ℕ) → List ℕ
joined_by between [] = []
joined_by between (piece ∷ []) = piece
joined_by between (piece ∷ next ∷ pieces) = piece ++ (between ++ joined_by between (next ∷ pieces))

-- the pieces between the first so many matches, or all: those of `splitn` with one more than the limit, and of `split`
abbrev pub pieces_around : List ℕ → Option ℕ → Input → RunOptions → List (List ℕ)
pieces_around text None i o = all_pieces text i o
pieces_around text (Some limit) i o = most_pieces text (suc limit) i o

-- the same is written for each match, as by a `NoExpand`
abbrev pub WritesAlways : (List ℕ → List ℕ → List ℕ) → List ℕ → Type 0
WritesAlways write by = (text numbers : List ℕ) → write text numbers ≡ by

-- ---- theorems

-- The pieces of `split` and the matches between them are the text.
abbrev pub SplitJoins : Type 0
SplitJoins = (i : Input) (text : List ℕ) (o : RunOptions) → IsText text →
    in_turn (all_pieces text i o) (map (part text) (all_spans (plan i) text o)) ≡ text

-- If each match is replaced by `$0`, the text stays as it is, whatever the names of groups.
abbrev pub ReplacedByItself : Type 0
ReplacedByItself =
    (pattern : List ℕ) (options : RegexOptions) (r q : Regex) (text : List ℕ) (limit : Option ℕ) (names : Names)
    (v : CowStr Global) → IsBuilt pattern options r → IsText text →
    IsReplacement r text limit (expansion names (codes "$0")) (Ok v) q → cow_str_bytes v ≡ text

-- If each match is replaced by the same, the result is the pieces with this between them.
abbrev pub ReplacedByLiteral : Type 0
ReplacedByLiteral =
    (r q : Regex) (text by : List ℕ) (limit : Option ℕ) (write : List ℕ → List ℕ → List ℕ) (v : CowStr Global) →
    WritesAlways write by → IsReplacement r text limit write (Ok v) q →
    (i : Input) (o : RunOptions) → IsRegexOf i text o r → cow_str_bytes v ≡ joined_by by (pieces_around text limit i o)

-- A text with no dollar writes itself for each match.
abbrev pub LiteralIsWritten : Type 0
LiteralIsWritten = (names : Names) (by : List ℕ) → HasNoDollar by → WritesAlways (expansion names by) by
