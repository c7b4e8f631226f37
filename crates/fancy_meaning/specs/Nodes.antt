-- The nodes of a tree, and its groups by number.
use Rattle.std.specs.Prelude.{ℕ, zero, suc, Bool, true, false, List, [], ◌∷◌, ◌++◌, length, filter_map, Option, Some, None, if◌then◌else◌, ◌==◌, nat_eq}
use Rattle.std.specs.List.{list_any}
use Rattle.fancy_meaning.specs.Tree.{Tree, Trees, none, more, KeepOut, Concat, Alt, Group, LookAround, Repeat, Backref, BackrefExists, AtomicGroup, DefineGroup, Conditional, AbsentRepeater, AbsentStopper, AbsentExpression, AbsentClear}

-- all nodes, each before those below it
abbrev mutual
  pub nodes : Tree → List Tree
  nodes (Concat es) = Concat es ∷ nodes_of_each es
  nodes (Alt es) = Alt es ∷ nodes_of_each es
  nodes (Group g e) = Group g e ∷ nodes e
  nodes (LookAround look e) = LookAround look e ∷ nodes e
  nodes (Repeat lo hi greedy e) = Repeat lo hi greedy e ∷ nodes e
  nodes (AtomicGroup e) = AtomicGroup e ∷ nodes e
  nodes (DefineGroup e) = DefineGroup e ∷ nodes e
  nodes (Conditional c t f) = Conditional c t f ∷ (nodes c ++ (nodes t ++ nodes f))
  nodes (AbsentRepeater e) = AbsentRepeater e ∷ nodes e
  nodes (AbsentStopper e) = AbsentStopper e ∷ nodes e
  nodes (AbsentExpression a e) = AbsentExpression a e ∷ (nodes a ++ nodes e)
  nodes e = e ∷ []

  pub nodes_of_each : Trees → List Tree
  nodes_of_each none = []
  nodes_of_each (more e es) = nodes e ++ nodes_of_each es

-- a group's number and body
abbrev pub as_group : Tree → Option (ℕ × Tree)
as_group (Group g e) = Some (g, e)
as_group e = None

-- the groups of a tree, in the order in which they open
unfoldable pub groups : Tree → List (ℕ × Tree)
groups e = filter_map as_group (nodes e)

unfoldable pub group_count : Tree → ℕ
group_count e = length (groups e)

-- the body of the first of these groups that has the number
abbrev pub body_in : List (ℕ × Tree) → ℕ → Option Tree
body_in [] g = None
body_in (h ∷ hs) g = if h.0 == g then Some h.1 else body_in hs g

-- what a call of g calls: the body of group g, and for 0 the whole tree
unfoldable pub target : Tree → ℕ → Option Tree
target whole zero = Some whole
target whole (suc g) = body_in (groups whole) (suc g)

-- the group whose span a node reads, or asks for
abbrev pub read_by : Tree → Option ℕ
read_by (Backref g casei) = Some g
read_by (BackrefExists g level) = Some g
read_by e = None

-- the numbers that are read somewhere in the tree
unfoldable pub read_groups : Tree → List ℕ
read_groups whole = filter_map read_by (nodes whole)

-- group g is read somewhere in the tree
abbrev pub is_read : Tree → ℕ → Bool
is_read whole g = list_any (nat_eq g) (read_groups whole)

-- a `\K`
abbrev pub is_keep_out : Tree → Bool
is_keep_out KeepOut = true
is_keep_out e = false

-- a node of what is absent, of any kind
abbrev pub is_absent : Tree → Bool
is_absent (AbsentRepeater e) = true
is_absent AbsentClear = true
is_absent (AbsentStopper e) = true
is_absent (AbsentExpression a e) = true
is_absent e = false
