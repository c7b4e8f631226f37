-- What the nodes of a tree name, gathered node by node.
use Rattle.std.specs.Prelude.{ℕ, Bool, true, false, ◌||◌, List, [], ◌∷◌, ◌++◌}
use Rattle.fancy_meaning.specs.Tree.{Tree, Backref, BackrefWithLevel, BackrefExists, SubroutineCall}

pub record Referenced : Type 0 where
  -- the numbers of the back references, in their order
  pub references : List ℕ
  -- a group is named by its number
  pub numeric : Bool
  -- a group is called
  pub calls : Bool

abbrev pub no_references : Referenced
no_references = record { references = []; numeric = false; calls = false }

abbrev pub with_number : Referenced → Bool → Referenced
with_number s called = record s { numeric = true; calls = s.calls || called }

abbrev pub with_reference : Referenced → ℕ → Referenced
with_reference s g = with_number (record s { references = s.references ++ g ∷ [] }) false

abbrev pub with_node : Referenced → Tree → Referenced
with_node s (Backref g casei) = with_reference s g
with_node s (BackrefWithLevel g level casei) = with_reference s g
with_node s (BackrefExists g level) = with_number s false
with_node s (SubroutineCall g) = with_number s true
with_node s e = s

abbrev pub with_nodes : Referenced → List Tree → Referenced
with_nodes s [] = s
with_nodes s (e ∷ es) = with_nodes (with_node s e) es
