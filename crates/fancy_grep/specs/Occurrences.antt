-- What is looked for from line to line.
use Rattle.std.specs.Prelude.{ℕ, List, Option, option_map}
use Rattle.fancy_literals.specs.Required.{Required}
use Rattle.fancy_grep.specs.Needles.{needle_of}
use Rattle.fancy_grep.specs.declared.occurrences.Occurrences.{Occurrences}

-- what is looked for, and the text
abbrev pub sought : Occurrences → Required × List ℕ
sought s = (needle_of s.needle, s.text.now)

-- the same, where something is looked for
abbrev pub sought_in : Option Occurrences → Option (Required × List ℕ)
sought_in o = option_map sought o
