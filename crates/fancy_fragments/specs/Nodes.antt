-- Neighbouring easy nodes, as infos and as expressions that are kept.
use Rattle.std.specs.Prelude.{◌≡◌, ℕ, Bool, List, [], ◌∷◌, ◌+◌, ◌*◌, map, flat_map, nat_lt}
use Rattle.std.specs.List.{list_all}
use Rattle.fancy_meaning.specs.Tree.{Tree, Within, trees, children}
use Rattle.fancy_meaning.specs.Numbering.{each_numbered}
use Rattle.fancy_meaning.specs.Options.{Analysis}
use Rattle.fancy_meaning.specs.Fits.{settable_groups}
use Rattle.fancy_expr.specs.declared.expr.Expr.{Expr}
use Rattle.fancy_expr.specs.Views.{tree_of}
use Rattle.fancy_expr.specs.Each.{Each}
use Rattle.fancy_info.specs.declared.info.Info.{Info}
use Rattle.fancy_info.specs.Infos.{info_tree, info_expr, info_within, info_facts, AreInTurn, IsAnalysed}
use Rattle.fancy_nfa.specs.declared.nfa.Nfa.{Nfa}
use Rattle.fancy_nfa.specs.Neighbours.{IsEasy}
use Rattle.fancy_nfa.specs.Nfas.{AreFine, IsNfaOf}

-- well-formed nodes of one analysed tree, each behind the other, none of them hard
pub record AreEasyNeighbours (is : List Info) : Type 0 where
  pub analysis : Analysis
  pub each : Each (IsEasy analysis) is
  pub fine : AreFine (map info_tree is)
  pub within : Within
  pub first : ℕ
  pub in_turn : AreInTurn within first is

-- these expressions as nodes: the first group has this number, and they stand within this
abbrev pub nodes_over : List Expr → ℕ → Within → List Tree
nodes_over exprs first w = children (each_numbered w first (trees (map tree_of exprs)))

-- the NFA is that of easy nodes
abbrev pub IsLaidOut : List Tree → Bool → Nfa → Type 0
IsLaidOut es unicode nfa = (a : Analysis) × IsNfaOf a es unicode nfa

-- the pairs that a way of these nodes can set are among the first so many slots
abbrev pub fits_over : ℕ → List Tree → Bool
fits_over slots es = list_all (λ g. nat_lt (2 * g + 1) slots) (flat_map settable_groups es)

-- the tree of the node's expression, without numbers
abbrev pub plain_tree : Info → Tree
plain_tree i = tree_of (info_expr i)

abbrev pub start_of : Info → ℕ
start_of i = (info_facts i).start_group

-- the first of them begins at this group and stands within this
abbrev pub BeginAt : Within → ℕ → List Info → Type 0
BeginAt w n [] = Unit {0}
BeginAt w n (i ∷ is) = (w ≡ info_within i) × (n ≡ start_of i)

-- what was found of a node of some tree
abbrev pub IsAnalysedNode : Info → Type 0
IsAnalysedNode i = (a : Analysis) × IsAnalysed a i

abbrev pub AreAnalysedNodes : List Info → Type 0
AreAnalysedNodes is = (a : Analysis) × Each (IsAnalysed a) is
