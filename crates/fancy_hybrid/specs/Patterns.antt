-- Common trees, and the engines that search for them.
use Rattle.std.specs.Prelude.{◌≡◌, ℕ, ◌*◌, Bool, List, length, Option, Some, None, if◌then◌else◌}
use Rattle.regex_hir.specs.Re.{Re}
use Rattle.fancy_meaning.specs.Tree.{Tree}
use Rattle.fancy_meaning.specs.Answer.{Search}
use Rattle.fancy_meaning.specs.Nodes.{group_count}
use Rattle.fancy_meaning.specs.Numbering.{numbered}
use Rattle.fancy_agreement.specs.Captures.{Captures, IsPlain}
use Rattle.fancy_hybrid.specs.Engines.{Searches}
use Rattle.fancy_hybrid.specs.declared.engine.Engine.{Engine}

-- it finds the first ways of the tree, with all its groups
pub record IsEngineOf (unicode : Bool) (e : Tree) (engine : Engine) : Type 0 where
  pub re : Re
  pub captures : Captures unicode 1 e re
  pub searches : Searches re engine
  pub groups : length engine.cells.items ≡ 2 * group_count e

-- a search for the first match of the tree in this text, from this place on, at any start
pub record IsSearchFor (e : Tree) (text : List ℕ) (pos : ℕ) (q : Search) : Type 0 where
  pub plain : IsPlain q
  pub tree : q.tree ≡ numbered 1 e
  pub in_text : q.text ≡ text
  pub from : q.pos ≡ pos

-- these numbers, if a match was found
abbrev pub told : Bool → List ℕ → Option (List ℕ)
told found numbers = if found then Some numbers else None
