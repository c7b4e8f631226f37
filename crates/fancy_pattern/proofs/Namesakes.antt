-- The node for a name that several groups have.
use Rattle.std.proofs.Common.{◌≡◌, ℕ, ℤ, Bool, true, false, List, length, map, reverse, Option, Some, None, if◌then◌else◌, nat_le}
use Rattle.fancy_meaning.specs.Tree as tree
use Rattle.fancy_meaning.specs.Tree.{Tree, trees}
use Rattle.fancy_tokens.specs.declared.tokens.Naming.{Naming}
use Rattle.fancy_tokens.specs.declared.tokens.Naming.TheVariants as naming
use Rattle.fancy_pattern.specs.Grammar.{named, most_namesakes, several}

if_there : (b : Bool) (e d : Tree) → (if b then Some e else None) ≡ Some d → Some e ≡ Some d
if_there true e d is = is
if_there false e d is = absurd (cc)

pub several_nodes : (n : Naming) (level : Option ℤ) (gs : List ℕ) (e : Tree) → several n level gs ≡ Some e →
    Some (tree.Alt (trees (map (named n level) (reverse gs)))) ≡ Some e
several_nodes (naming.Backref casei) level gs e is = if_there (nat_le (length gs) most_namesakes) _ e is
several_nodes naming.Exists level gs e is = if_there (nat_le (length gs) most_namesakes) _ e is
several_nodes naming.Call level gs e is = absurd (cc)
