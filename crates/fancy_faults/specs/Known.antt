-- What is known of a node of a tree that was analysed.
use Rattle.std.specs.Prelude.{Bool, true, false, ◌&&◌, ◌||◌, List, map}
use Rattle.std.specs.Borrow.{Bor}
use Rattle.std.specs.List.{list_all}
use Rattle.fancy_meaning.specs.CompileRefusals.{is_behind}
use Rattle.fancy_meaning.specs.Options.{Analysis}
use Rattle.fancy_expr.specs.Views.{look_of}
use Rattle.fancy_expr.specs.Each.{Each}
use Rattle.fancy_expr.specs.declared.expr.Expr.{Expr}
use Rattle.fancy_expr.specs.declared.expr.Expr.TheVariants as expr
use Rattle.fancy_info.specs.declared.info.Info.{Info}
use Rattle.fancy_info.specs.Infos.{info_children, info_facts, info_size, IsAnalysed, IsNode}

-- but for whether it is hard
pub record IsKnown (a : Analysis) (i : Info) : Type 0 where
  pub node : IsNode a (info_facts i) (info_children i)
  pub children : Each (IsAnalysed a) (info_children i)

abbrev pub is_alt : Expr → Bool
is_alt (expr.Alt' shape es) = true
is_alt e = false

abbrev pub is_look_behind : Expr → Bool
is_look_behind (expr.LookAround' b e look) = is_behind (look_of look)
is_look_behind e = false

-- its size is constant, or it is an alternation of nodes of constant sizes
abbrev pub has_fixed_length : Info → Bool
has_fixed_length i = (info_size i).is_const ||
    (is_alt (info_facts i).expr && list_all (λ part. (info_size part).is_const) (info_children i))

-- what these references are to
abbrev pub exprs_of : List (Bor Expr) → List Expr
exprs_of = map (λ e. e.now)
