-- The nodes of an `Expr`, and those directly below one.
use Rattle.std.specs.Prelude.{Bool, List, [], ◌∷◌, ◌++◌, Option, Some, None, if◌then◌else◌}
use Rattle.fancy_expr.specs.declared.expr.Expr.{Expr, Row_of-Expr, end_of-Expr, more_of-Expr}
use Rattle.fancy_expr.specs.declared.expr.Expr.TheVariants.{Literal, Concat', Alt', Group', LookAround', Repeat', AtomicGroup', Conditional', DefineGroup'}
use Rattle.fancy_expr.specs.declared.expr.Expr.TheVariants as code
use Rattle.fancy_expr.specs.declared.expr.Absent.TheVariants.{Repeater', Expression', Stopper', Clear}
use Rattle.fancy_expr.specs.declared.expr.Absent.{Absent}

abbrev pub in_row : {m : _} → Row_of-Expr m → List Expr
in_row end_of-Expr = []
in_row (more_of-Expr e es) = e ∷ in_row es

abbrev pub below_absent : Absent → List Expr
below_absent (Repeater' b e) = e ∷ []
below_absent (Expression' b a c e) = a ∷ e ∷ []
below_absent (Stopper' b e) = e ∷ []
below_absent Clear = []

-- a node's children, in order
abbrev pub below : Expr → List Expr
below (Concat' shape es) = in_row es
below (Alt' shape es) = in_row es
below (Group' b e) = e ∷ []
below (LookAround' b e look) = e ∷ []
below (Repeat' b e lo hi greedy) = e ∷ []
below (AtomicGroup' b e) = e ∷ []
below (Conditional' b c d t x f) = c ∷ t ∷ f ∷ []
below (code.Absent a) = below_absent a
below (DefineGroup' b e) = e ∷ []
below e = []

-- all nodes, each before those below it
abbrev mutual
  pub exprs_in_absent : Absent → List Expr
  exprs_in_absent (Repeater' b e) = exprs e
  exprs_in_absent (Expression' b a c e) = exprs a ++ exprs e
  exprs_in_absent (Stopper' b e) = exprs e
  exprs_in_absent Clear = []

  pub exprs : Expr → List Expr
  exprs (Concat' shape es) = Concat' shape es ∷ exprs_in_row es
  exprs (Alt' shape es) = Alt' shape es ∷ exprs_in_row es
  exprs (Group' b e) = Group' b e ∷ exprs e
  exprs (LookAround' b e look) = LookAround' b e look ∷ exprs e
  exprs (Repeat' b e lo hi greedy) = Repeat' b e lo hi greedy ∷ exprs e
  exprs (AtomicGroup' b e) = AtomicGroup' b e ∷ exprs e
  exprs (Conditional' b c d t x f) = Conditional' b c d t x f ∷ (exprs c ++ (exprs t ++ exprs f))
  exprs (code.Absent a) = code.Absent a ∷ exprs_in_absent a
  exprs (DefineGroup' b e) = DefineGroup' b e ∷ exprs e
  exprs e = e ∷ []

  pub exprs_in_row : {m : _} → Row_of-Expr m → List Expr
  exprs_in_row end_of-Expr = []
  exprs_in_row (more_of-Expr e es) = exprs e ++ exprs_in_row es

abbrev pub exprs_of_each : List Expr → List Expr
exprs_of_each [] = []
exprs_of_each (e ∷ es) = exprs e ++ exprs_of_each es

-- the first of these nodes that passes the test
abbrev pub first_with : (Expr → Bool) → List Expr → Option Expr
first_with test [] = None
first_with test (e ∷ es) = if test e then Some e else first_with test es
