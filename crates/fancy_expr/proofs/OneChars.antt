-- Each literal below a node is one character.
use Rattle.std.proofs.Common.{◌≡◌, List, [], ◌∷◌, ◌++◌, map, Vec, Global, refl, sym, ap, ◌∙◌, subst}
use Rattle.fancy_meaning.specs.Tree as plain
use Rattle.fancy_meaning.specs.Tree.{Tree}
use Rattle.fancy_meaning.specs.Nodes.{nodes}
use Rattle.fancy_expr.specs.declared.expr.Expr.{Expr}
use Rattle.fancy_expr.specs.declared.expr.Expr.TheVariants as code
use Rattle.fancy_expr.specs.declared.expr.Absent.TheViews as view
use Rattle.fancy_expr.specs.Views.{tree_of}
use Rattle.fancy_expr.specs.Exprs.{below, exprs, exprs_of_each}
use Rattle.fancy_expr.specs.Each.{Each}
use Rattle.fancy_expr.specs.Sound.{IsOneChar}
use Rattle.fancy_expr.proofs.Exprs.{nodes-exprs, exprs-below, below-concat, below-alt}
use Rattle.fancy_expr.proofs.EachLaws.{each_append}

abbrev pub OneCharEach : Expr → Type 0
OneCharEach e = Each IsOneChar (exprs e)

-- ---- trees without literals

abbrev pub NoLiteral : Tree → Type 0
NoLiteral (plain.Literal c casei) = ⊥
NoLiteral e = Unit {0}

abbrev pub NoLiterals : Tree → Type 0
NoLiterals e = Each NoLiteral (nodes e)

one_char : (e : Expr) → NoLiteral (tree_of e) → IsOneChar e
one_char (code.Literal val casei) h = absurd h
one_char e h = tt

each_one_char : (es : List Expr) → Each NoLiteral (map tree_of es) → Each IsOneChar es
each_one_char [] h = tt
each_one_char (e ∷ es) h = (one_char e h.0, each_one_char es h.1)

pub no_literals : (e : Expr) → NoLiterals (tree_of e) → OneCharEach e
no_literals e h = each_one_char (exprs e) (subst (Each NoLiteral) (sym (nodes-exprs e)) h)

-- ---- rows

row_chars : (es : List Expr) → Each OneCharEach es → Each IsOneChar (exprs_of_each es)
row_chars [] h = tt
row_chars (e ∷ es) h = each_append IsOneChar (exprs e) (exprs_of_each es) h.0 (row_chars es h.1)

over_row : (e : Expr) (es : List Expr) → IsOneChar e → below e ≡ es → Each OneCharEach es → OneCharEach e
over_row e es here is h = subst (Each IsOneChar) (sym (exprs-below e ∙ ap (λ l. e ∷ exprs_of_each l) is)) (here, row_chars es h)

pub concat_chars : (v : Vec Expr Global) → Each OneCharEach v.items → OneCharEach (view.Concat v)
concat_chars v h = over_row (view.Concat v) v.items tt (below-concat _ v refl) h

pub alt_chars : (v : Vec Expr Global) → Each OneCharEach v.items → OneCharEach (view.Alt v)
alt_chars v h = over_row (view.Alt v) v.items tt (below-alt _ v refl) h

pub no_parts : (es : List Expr) → es ≡ [] → Each OneCharEach es
no_parts es is = subst (Each OneCharEach) (sym is) tt

pub with_part : (es more : List Expr) (e : Expr) → more ≡ es ++ e ∷ [] → OneCharEach e → Each OneCharEach es → Each OneCharEach more
with_part es more e is h k = subst (Each OneCharEach) (sym is) (each_append OneCharEach es (e ∷ []) k (h, tt))

-- ---- boxes

pub two_chars : (a b : Expr) → OneCharEach a → OneCharEach b → Each IsOneChar (exprs a ++ exprs b)
two_chars a b h k = each_append IsOneChar (exprs a) (exprs b) h k

pub three_chars : (a b c : Expr) → OneCharEach a → OneCharEach b → OneCharEach c → Each IsOneChar (exprs a ++ (exprs b ++ exprs c))
three_chars a b c h k l = each_append IsOneChar (exprs a) (exprs b ++ exprs c) h (two_chars b c k l)
