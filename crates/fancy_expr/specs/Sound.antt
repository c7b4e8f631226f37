-- A well-formed tree of the code: its plain tree is well-formed, and each literal is one character.
use Rattle.std.specs.Prelude.{◌≡◌, All, length, string_bytes, chars}
use Rattle.fancy_meaning.specs.WellFormed.{IsFine, IsWellFormed}
use Rattle.fancy_expr.specs.declared.expr.Expr.{Expr}
use Rattle.fancy_expr.specs.declared.expr.Expr.TheVariants as code
use Rattle.fancy_expr.specs.declared.expr.ExprTree.{ExprTree}
use Rattle.fancy_expr.specs.Views.{tree_of, parsed_of}
use Rattle.fancy_expr.specs.Exprs.{exprs}

-- a literal is one character
abbrev pub IsOneChar : Expr → Type 0
IsOneChar (code.Literal val casei) = length (chars (string_bytes val)) ≡ 1
IsOneChar e = Unit {0}

pub record IsSoundNode (e : Expr) : Type 0 where
  pub fine : IsFine (tree_of e)
  pub one_char : IsOneChar e

abbrev pub AllSound : Expr → Type 0
AllSound e = All IsSoundNode (exprs e)

-- the tree may be handed in
abbrev pub IsWellFormedTree : ExprTree → Type 0
IsWellFormedTree t = IsWellFormed (parsed_of t) × All IsOneChar (exprs t.expr)
