-- The nodes of an `Expr`, and of the tree that it stands for.
use Rattle.std.proofs.Common.{◌≡◌, ℕ, zero, suc, ◌<◌, ◌≤◌, List, [], ◌∷◌, ◌++◌, length, map, get_or, refl, sym, ap, ◌∙◌, arith, Vec, Global, append-nil, length-append}
use Rattle.std.proofs.lemmas.List.{map-append}
use mathlib.Core.Former.{Count}
use Rattle.fancy_meaning.specs.Tree as plain
use Rattle.fancy_meaning.specs.Tree.{Tree, Trees, none, more, trees, parts}
use Rattle.fancy_meaning.specs.Nodes.{nodes, nodes_of_each}
use Rattle.fancy_expr.specs.declared.expr.Expr.{Expr, Row_of-Expr, end_of-Expr, more_of-Expr}
use Rattle.fancy_expr.specs.declared.expr.Expr.TheVariants as code
use Rattle.fancy_expr.specs.declared.expr.Absent.{Absent}
use Rattle.fancy_expr.specs.declared.expr.Absent.TheVariants as code_absent
use Rattle.fancy_expr.specs.declared.expr.Absent.TheViews as view
use Rattle.fancy_expr.specs.declared.expr.Absent.TheBlock.{items-the_row-Expr, hidden-the_row-Expr-0, items_hidden-the_row-Expr-0}
use Rattle.fancy_expr.specs.Views.{tree_of, trees_of, absent_of}
use Rattle.fancy_expr.specs.Exprs.{in_row, below_absent, below, exprs, exprs_in_row, exprs_in_absent, exprs_of_each}

-- ---- children

row_items : (n : Count) (k : Row_of-Expr n) → in_row k ≡ items-the_row-Expr n k
row_items _ end_of-Expr = refl
row_items _ (more_of-Expr e k) = ap (λ l. e ∷ l) (row_items _ k)

pub below-concat : (e : Expr) (v : Vec Expr Global) → e ≡ view.Concat v → below e ≡ v.items
below-concat e v is = ap below is ∙ row_items _ (hidden-the_row-Expr-0 v) ∙ items_hidden-the_row-Expr-0 v

pub below-alt : (e : Expr) (v : Vec Expr Global) → e ≡ view.Alt v → below e ≡ v.items
below-alt e v is = ap below is ∙ row_items _ (hidden-the_row-Expr-0 v) ∙ items_hidden-the_row-Expr-0 v

-- the child at a place that is known
pub child_at : (e : Expr) (l : List Expr) (i k : ℕ) (r : Expr) → below e ≡ l → i ≡ k → r ≡ get_or l k r → r ≡ get_or (below e) i r
child_at e l i k r is at here = here ∙ ap (λ j. get_or l j r) (sym at) ∙ ap (λ m. get_or m i r) (sym is)

pub only_child : (e x : Expr) (i : ℕ) (r : Expr) → below e ≡ x ∷ [] → i < length (below e) → r ≡ x → r ≡ get_or (below e) i r
only_child e x i r is lt here = child_at e (x ∷ []) i 0 r is (omega (arith, lt, ap length is)) here

row_trees : {n : _} (k : Row_of-Expr n) → trees_of k ≡ trees (map tree_of (in_row k))
row_trees end_of-Expr = refl
row_trees (more_of-Expr e k) = ap (more (tree_of e)) (row_trees k)

absent_parts : (a : Absent) → parts (absent_of a) ≡ trees (map tree_of (below_absent a))
absent_parts (code_absent.Repeater' b e) = refl
absent_parts (code_absent.Expression' b a c e) = refl
absent_parts (code_absent.Stopper' b e) = refl
absent_parts code_absent.Clear = refl

-- the children of the tree that it stands for
pub parts-below : (e : Expr) → parts (tree_of e) ≡ trees (map tree_of (below e))
parts-below (code.Concat' shape es) = row_trees es
parts-below (code.Alt' shape es) = row_trees es
parts-below (code.Absent a) = absent_parts a
parts-below e = refl

-- ---- nodes

exprs_row : {n : _} (k : Row_of-Expr n) → exprs_in_row k ≡ exprs_of_each (in_row k)
exprs_row end_of-Expr = refl
exprs_row (more_of-Expr e k) = ap (λ l. exprs e ++ l) (exprs_row k)

one : (e : Expr) → exprs e ≡ exprs_of_each (e ∷ [])
one e = sym (append-nil (exprs e))

exprs_absent : (a : Absent) → exprs_in_absent a ≡ exprs_of_each (below_absent a)
exprs_absent (code_absent.Repeater' b e) = one e
exprs_absent (code_absent.Expression' b a c e) = ap (λ l. exprs a ++ l) (one e)
exprs_absent (code_absent.Stopper' b e) = one e
exprs_absent code_absent.Clear = refl

-- a node, and those below it
pub exprs-below : (e : Expr) → exprs e ≡ e ∷ exprs_of_each (below e)
exprs-below (code.Concat' shape es) = ap (λ l. code.Concat' shape es ∷ l) (exprs_row es)
exprs-below (code.Alt' shape es) = ap (λ l. code.Alt' shape es ∷ l) (exprs_row es)
exprs-below (code.Group' b e) = ap (λ l. code.Group' b e ∷ l) (one e)
exprs-below (code.LookAround' b e look) = ap (λ l. code.LookAround' b e look ∷ l) (one e)
exprs-below (code.Repeat' b e lo hi greedy) = ap (λ l. code.Repeat' b e lo hi greedy ∷ l) (one e)
exprs-below (code.AtomicGroup' b e) = ap (λ l. code.AtomicGroup' b e ∷ l) (one e)
exprs-below (code.Conditional' b c d t x f) = ap (λ l. code.Conditional' b c d t x f ∷ (exprs c ++ (exprs t ++ l))) (one f)
exprs-below (code.Absent a) = ap (λ l. code.Absent a ∷ l) (exprs_absent a)
exprs-below (code.DefineGroup' b e) = ap (λ l. code.DefineGroup' b e ∷ l) (one e)
exprs-below e = refl

both : (a b : List Expr) (c d : List Tree) → map tree_of a ≡ c → map tree_of b ≡ d → map tree_of (a ++ b) ≡ c ++ d
both a b c d e f = map-append tree_of a b ∙ ap (λ l. l ++ map tree_of b) e ∙ ap (λ l. c ++ l) f

-- the nodes of the tree that it stands for
mutual
  nodes-absent : (a : Absent) → map tree_of (code.Absent a ∷ exprs_in_absent a) ≡ nodes (absent_of a)
  nodes-absent (code_absent.Repeater' b e) = ap (λ l. plain.AbsentRepeater (tree_of e) ∷ l) (nodes-exprs e)
  nodes-absent (code_absent.Expression' b a c e) =
      ap (λ l. plain.AbsentExpression (tree_of a) (tree_of e) ∷ l) (both _ _ _ _ (nodes-exprs a) (nodes-exprs e))
  nodes-absent (code_absent.Stopper' b e) = ap (λ l. plain.AbsentStopper (tree_of e) ∷ l) (nodes-exprs e)
  nodes-absent code_absent.Clear = refl

  pub nodes-exprs : (e : Expr) → map tree_of (exprs e) ≡ nodes (tree_of e)
  nodes-exprs (code.Concat' shape es) = ap (λ l. plain.Concat (trees_of es) ∷ l) (nodes-row es)
  nodes-exprs (code.Alt' shape es) = ap (λ l. plain.Alt (trees_of es) ∷ l) (nodes-row es)
  nodes-exprs (code.Group' b e) = ap (λ l. plain.Group 0 (tree_of e) ∷ l) (nodes-exprs e)
  nodes-exprs (code.LookAround' b e look) = ap (λ l. tree_of (code.LookAround' b e look) ∷ l) (nodes-exprs e)
  nodes-exprs (code.Repeat' b e lo hi greedy) = ap (λ l. tree_of (code.Repeat' b e lo hi greedy) ∷ l) (nodes-exprs e)
  nodes-exprs (code.AtomicGroup' b e) = ap (λ l. plain.AtomicGroup (tree_of e) ∷ l) (nodes-exprs e)
  nodes-exprs (code.Conditional' b c d t x f) =
      ap (λ l. plain.Conditional (tree_of c) (tree_of t) (tree_of f) ∷ l) (both _ _ _ _ (nodes-exprs c) (both _ _ _ _ (nodes-exprs t) (nodes-exprs f)))
  nodes-exprs (code.Absent a) = nodes-absent a
  nodes-exprs (code.DefineGroup' b e) = ap (λ l. plain.DefineGroup (tree_of e) ∷ l) (nodes-exprs e)
  nodes-exprs e = refl

  nodes-row : {n : _} (k : Row_of-Expr n) → map tree_of (exprs_in_row k) ≡ nodes_of_each (trees_of k)
  nodes-row end_of-Expr = refl
  nodes-row (more_of-Expr e k) = both _ _ _ _ (nodes-exprs e) (nodes-row k)

-- ---- how many nodes there are, which falls from a node to its children

part_smaller : (es : List Expr) (i : ℕ) (e : Expr) → i < length es → e ≡ get_or es i e → length (exprs e) ≤ length (exprs_of_each es)
part_smaller [] i e h at = absurd (omega arith)
part_smaller (x ∷ es) zero e h at =
    omega (arith, ap (λ y. length (exprs y)) at, length-append (exprs x) (exprs_of_each es))
part_smaller (x ∷ es) (suc i) e h at =
    omega (arith, part_smaller es i e (omega arith) at, length-append (exprs x) (exprs_of_each es))

-- a child has fewer nodes
pub child_smaller : (e child : Expr) (i : ℕ) → i < length (below e) → child ≡ get_or (below e) i child → length (exprs child) < length (exprs e)
child_smaller e child i h at = omega (arith, part_smaller (below e) i child h at, ap length (exprs-below e))
