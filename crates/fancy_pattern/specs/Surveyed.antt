-- Which tokens name groups, and what a survey of a tree has noted.
use Rattle.std.specs.Prelude.{◌≡◌, Bool, false, List, [], is_some}
use Rattle.std.specs.List.{list_any, count_by}
use Rattle.fancy_meaning.specs.Tree.{Tree}
use Rattle.fancy_meaning.specs.Nodes.{nodes}
use Rattle.fancy_meaning.specs.WellFormed.{is_any_call}
use Rattle.fancy_pattern.specs.declared.survey.Survey.{Survey}
use Rattle.fancy_pattern.specs.declared.facts.Facts.{Facts}
use Rattle.fancy_tokens.specs.Tokens.{Token, Placed}
use Rattle.fancy_pattern.specs.Faults.{referring}
use Rattle.fancy_pattern.specs.Described.{references, opens_group, names_number}

-- a reference, a condition or a call
abbrev pub names_group : Token → Bool
names_group t = is_some (referring t)

-- what tokens say of groups
pub record AreFacts (ts : List Placed) (f : Facts) : Type 0 where
  pub groups : f.groups ≡ count_by (λ p. opens_group p.token) ts
  pub by_number : f.by_number ≡ list_any (λ p. names_number p.token) ts
  pub names_group : f.names_group ≡ list_any (λ p. names_group p.token) ts

-- no node refers to a group
pub record IsUnreferring (e : Tree) : Type 0 where
  pub references : references e ≡ []
  pub calls : list_any is_any_call (nodes e) ≡ false

-- what the nodes of a tree say was noted
pub record IsSurveyOf (e : Tree) (s : Survey) : Type 0 where
  pub references : s.references.items ≡ references e
  pub calls : s.calls ≡ list_any is_any_call (nodes e)
