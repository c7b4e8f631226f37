-- What each match of a tree takes.
use Rattle.std.specs.Prelude.{Bool}
use Rattle.fancy_meaning.specs.Premises.{Input}
use Rattle.fancy_meaning.specs.Tree.{Tree}
use Rattle.fancy_literals.specs.Required.{IsRequired, IsRequiredOf, required_of}
use Rattle.fancy_search.specs.declared.needed.Needed.{Needed}

-- each match of the tree, compiled with this option `unicode`, takes it
abbrev pub IsNeededBy : (unicode : Bool) → Tree → Needed → Type 0
IsNeededBy unicode tree n = IsRequiredOf (required_of n.required) n.is_behind unicode tree

-- each match of this input does
abbrev pub IsNeededIn : Input → Needed → Type 0
IsNeededIn i n = IsRequired (required_of n.required) n.is_behind i
