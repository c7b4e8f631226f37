-- What comes with a tree that a pattern spells: references, names, the number of groups, calls.
use Rattle.std.specs.Prelude.{◌≡◌, ℕ, Bool, true, false, ◌||◌, List, [], ◌∷◌, ◌++◌, filter_map, Option, Some, None, if◌then◌else◌, nat_lt, nat_le}
use Rattle.std.specs.List.{list_any, count_by}
use Rattle.std.specs.Ordering.{nat_cmp}
use Rattle.std.specs.BTreeSet.{insert_key}
use Rattle.fancy_meaning.specs.Tree.{Tree, Backref, BackrefWithLevel}
use Rattle.fancy_meaning.specs.Nodes.{nodes}
use Rattle.fancy_meaning.specs.WellFormed.{is_any_call}
use Rattle.fancy_expr.specs.declared.expr.ExprTree.{ExprTree}
use Rattle.fancy_expr.specs.Views.{tree_of}
use Rattle.fancy_pattern.specs.declared.survey.Survey.{Survey}
use Rattle.fancy_tokens.specs.Tokens.{Target, Name, Number, Nowhere, Opening, Group, If, Token, Refer, Open, Placed}
use Rattle.fancy_pattern.specs.Naming.{named_in, if_any, numbers_of, numbers_in}

-- ---- what tokens say

-- a number, written as it is or as how far from here
abbrev pub by_number : Target → Bool
by_number (Name name) = false
by_number (Number n) = true
by_number Nowhere = true

abbrev pub asks_number : Opening → Bool
asks_number (If r) = by_number r.target
asks_number o = false

-- a reference, a condition or a call by number
abbrev pub names_number : Token → Bool
names_number (Refer r) = by_number r.target
names_number (Open o) = asks_number o
names_number t = false

abbrev pub is_group : Opening → Bool
is_group (Group number name) = true
is_group o = false

abbrev pub opens_group : Token → Bool
opens_group (Open o) = is_group o
opens_group t = false

-- ---- what nodes say

-- the group of a back reference
abbrev pub referred_to : Tree → Option ℕ
referred_to (Backref g casei) = Some g
referred_to (BackrefWithLevel g level casei) = Some g
referred_to e = None

-- the groups of the back references, in the order of the text
abbrev pub references : Tree → List ℕ
references e = filter_map referred_to (nodes e)

-- the first number past the number of groups
abbrev pub first_past : ℕ → List ℕ → Option ℕ
first_past groups [] = None
first_past groups (g ∷ gs) = if nat_lt groups g then Some g else first_past groups gs

-- the numbers up to the number of groups, in ascending order and each once, with the given ones
abbrev pub up_to : ℕ → List ℕ → List ℕ → List ℕ
up_to groups keys [] = keys
up_to groups keys (g ∷ gs) = up_to groups (if nat_le g groups then insert_key nat_cmp keys g else keys) gs

-- what comes with the tree that these tokens spell; under `ignored` plain groups capture nothing
pub record IsDescribed (ignored : Bool) (ts : List Placed) (t : ExprTree) : Type 0 where
  pub groups : t.total_groups ≡ count_by (λ p. opens_group p.token) ts
  pub backrefs : t.backrefs.keys ≡ up_to t.total_groups [] (references (tree_of t.expr))
  pub out_of_range : t.out_of_range_backref ≡ first_past t.total_groups (references (tree_of t.expr))
  pub named : (name : List ℕ) → numbers_in t.named_groups name ≡ if_any (numbers_of (named_in ts) name)
  pub numeric : t.numeric_capture_group_references ≡ list_any (λ p. names_number p.token) ts
  pub plain : t.numbered_groups_ignored ≡ ignored
  pub calls : t.contains_subroutines ≡ list_any is_any_call (nodes (tree_of t.expr))

-- ---- the survey of the code

-- what these nodes say was noted
pub record Notes (es : List Tree) (old new : Survey) : Type 0 where
  pub references : new.references.items ≡ old.references.items ++ filter_map referred_to es
  pub calls : new.calls ≡ (old.calls || list_any is_any_call es)
