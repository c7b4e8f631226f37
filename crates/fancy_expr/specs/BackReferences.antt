-- The back references of a tree, and what a list of them says that comes with it.
use Rattle.std.specs.Prelude.{ℕ, List, [], ◌∷◌, filter_map, Option, Some, None, if◌then◌else◌, nat_lt, nat_le}
use Rattle.std.specs.Ordering.{nat_cmp}
use Rattle.std.specs.BTreeSet.{insert_key}
use Rattle.fancy_meaning.specs.Tree.{Tree, Backref, BackrefWithLevel}
use Rattle.fancy_meaning.specs.Nodes.{nodes}

-- the group of a back reference
abbrev pub referred_to : Tree → Option ℕ
referred_to (Backref g casei) = Some g
referred_to (BackrefWithLevel g level casei) = Some g
referred_to e = None

-- the groups of the back references, in the order of the text
abbrev pub references : Tree → List ℕ
references e = filter_map referred_to (nodes e)

-- the first number past the number of groups
abbrev pub first_past : ℕ → List ℕ → Option ℕ
first_past groups [] = None
first_past groups (g ∷ gs) = if nat_lt groups g then Some g else first_past groups gs

-- the numbers up to the number of groups, in ascending order and each once, with the given ones
abbrev pub up_to : ℕ → List ℕ → List ℕ → List ℕ
up_to groups keys [] = keys
up_to groups keys (g ∷ gs) = up_to groups (if nat_le g groups then insert_key nat_cmp keys g else keys) gs
