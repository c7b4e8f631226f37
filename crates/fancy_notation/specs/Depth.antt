-- How deep a text nests: the most parentheses that are open at one place of it, outside of texts between quotes.
use Rattle.std.specs.Prelude.{ℕ, ◌+◌, ◌-◌, List, [], ◌∷◌, max, if◌then◌else◌, ◌==◌}
use Rattle.fancy_meaning.specs.Tree.{Tree, Trees, none, more, Concat, Alt, Group, LookAround, Repeat, AtomicGroup, DefineGroup, Conditional, AbsentRepeater, AbsentStopper, AbsentExpression}
use Rattle.fancy_notation.specs.declared.lexer.Mode.{Mode}
use Rattle.fancy_notation.specs.declared.lexer.Mode.TheVariants.{Outside}
use Rattle.fancy_notation.specs.Tokens.{Token, Placed, Opened, Closed, Quoted, Word, Broken}
use Rattle.fancy_notation.specs.Lexing.{step, at_start, tokens_of}

-- how many parentheses are open behind a token; a closing one where none is open changes nothing
abbrev pub nesting_behind : ℕ → Token → ℕ
nesting_behind nesting Opened = nesting + 1
nesting_behind nesting Closed = nesting - 1
nesting_behind nesting (Quoted folded text) = nesting
nesting_behind nesting (Word w) = nesting
nesting_behind nesting Broken = nesting

-- the most that are open at one place of these tokens, where so many are open before them
abbrev pub deepest : ℕ → List Placed → ℕ
deepest nesting [] = nesting
deepest nesting (p ∷ ps) = max nesting (deepest (nesting_behind nesting p.token) ps)

-- no token stands behind a text between quotes that is malformed, so nothing counts there
abbrev pub depth : List ℕ → ℕ
depth text = deepest 0 (tokens_of text)

-- ---- the nodes that stand in one another

abbrev mutual
  -- how many they are, at most
  pub levels : Tree → ℕ
  levels (Concat es) = most_levels es + 1
  levels (Alt es) = most_levels es + 1
  levels (Group number e) = levels e + 1
  levels (LookAround look e) = levels e + 1
  levels (Repeat lo hi greedy e) = levels e + 1
  levels (AtomicGroup e) = levels e + 1
  levels (DefineGroup e) = levels e + 1
  levels (Conditional c t f) = max (levels c) (max (levels t) (levels f)) + 1
  levels (AbsentRepeater e) = levels e + 1
  levels (AbsentStopper e) = levels e + 1
  levels (AbsentExpression absent e) = max (levels absent) (levels e) + 1
  levels e = 1

  pub most_levels : Trees → ℕ
  most_levels none = 0
  most_levels (more e es) = max (levels e) (most_levels es)

-- ---- the depth from character to character

-- which mode the lexer is in behind a character
abbrev pub mode_past : Mode → ℕ → Mode
mode_past m c = (step (record at_start { mode = m }) 0 c).next.mode

-- how many parentheses are open behind a character
abbrev pub nesting_past : Mode → ℕ → ℕ → ℕ
nesting_past Outside nesting c = if c == 40 then nesting + 1 else if c == 41 then nesting - 1 else nesting
nesting_past m nesting c = nesting
