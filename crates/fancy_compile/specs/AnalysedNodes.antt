-- What the compiler asks of analysed nodes.
use Rattle.std.specs.Prelude.{◌≡◌, ℕ, ◌-◌, Bool, true, false, not, ◌&&◌, ◌||◌, List, length, take, drop, Contains}
use Rattle.std.specs.List.{list_all, prefix_len, suffix_len}
use Rattle.fancy_meaning.specs.Tree.{Tree}
use Rattle.fancy_meaning.specs.Hard.{is_hard}
use Rattle.fancy_meaning.specs.Nodes.{nodes}
use Rattle.fancy_meaning.specs.Options.{Analysis}
use Rattle.fancy_meaning.specs.WellFormed.{IsFine}
use Rattle.fancy_expr.specs.declared.expr.Expr.{Expr}
use Rattle.fancy_expr.specs.declared.expr.Expr.TheVariants as code
use Rattle.fancy_expr.specs.Each.{Each}
use Rattle.fancy_info.specs.declared.info.Info.{Info}
use Rattle.fancy_info.specs.Infos.{info_tree, info_facts, info_size, info_hard, info_children, IsNode, IsAnalysed}

-- what was found of a node, but that the whole tree may be hard for its own reason
pub record IsKnown (a : Analysis) (i : Info) : Type 0 where
  pub node : IsNode a (info_facts i) (info_children i)
  pub children : Each (IsAnalysed a) (info_children i)
  pub easy : info_hard i ≡ false → is_hard a (info_tree i) ≡ false

-- the node and each below it is well formed
abbrev pub IsFineTree : Tree → Type 0
IsFineTree e = (d : Tree) → Contains (nodes e) d → IsFine d

-- ---- where a concatenation is cut

-- the first of them that may be one batch: easy nodes of constant size
abbrev pub is_front : Info → Bool
is_front i = not (info_hard i) && (info_size i).is_const

abbrev pub front_count : List Info → ℕ
front_count is = prefix_len is_front is

-- the last of them that may be one batch
abbrev pub is_back : (in_hard : Bool) → Info → Bool
is_back in_hard i = not (info_hard i) && (not in_hard || (info_size i).is_const)

abbrev pub back_start : (in_hard : Bool) → List Info → ℕ
back_start in_hard is = length is - suffix_len (is_back in_hard) is

abbrev pub front_of : List Info → List Info
front_of is = take (front_count is) is

abbrev pub rest_of : List Info → List Info
rest_of is = drop (front_count is) is

abbrev pub middle_of : (in_hard : Bool) → List Info → List Info
middle_of in_hard is = take (back_start in_hard (rest_of is)) (rest_of is)

abbrev pub back_of : (in_hard : Bool) → List Info → List Info
back_of in_hard is = drop (back_start in_hard (rest_of is)) (rest_of is)

-- ---- lookbehinds

abbrev pub is_alt : Expr → Bool
is_alt (code.Alt' shape es) = true
is_alt e = false

-- an alternation, each branch of which takes as many characters each time
abbrev pub has_const_branches : Info → Bool
has_const_branches i = is_alt (info_facts i).expr && list_all (λ b. (info_size b).is_const) (info_children i)
