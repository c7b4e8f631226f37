-- Each literal that is read is one character.
use Rattle.std.proofs.Common.{◌≡◌, ℕ, ℤ, List, [], ◌∷◌, Some, sym, subst}
use Rattle.fancy_meaning.specs.Tree.{Tree}
use Rattle.fancy_expr.specs.declared.expr.Expr.{Expr}
use Rattle.fancy_expr.specs.Views.{tree_of}
use Rattle.fancy_expr.specs.Each.{Each}
use Rattle.fancy_expr.proofs.OneChars.{NoLiterals, no_literals}
use Rattle.fancy_notation.specs.declared.forms.Naming.{Naming}
use Rattle.fancy_notation.specs.declared.forms.Naming.TheVariants as naming
use Rattle.fancy_notation.specs.declared.forms.Leveled.{Leveled}
use Rattle.fancy_notation.specs.declared.forms.Leveled.TheVariants as leveled
use Rattle.fancy_notation.specs.Words.{leaf_of}
use Rattle.fancy_notation.specs.Grammar.{Point, in_word, named, named_at, Takes}
use Rattle.fancy_notation.specs.Reading.{OneCharEach}
use Rattle.fancy_notation.proofs.FineNodes.{leaf_has, taken_has}

-- ---- leaves

leaf_none : (w : List ℕ) (e : Tree) → leaf_of w ≡ Some e → NoLiterals e
leaf_none w e is = leaf_has NoLiterals (λ a. (tt, tt))
    ((tt, tt), ((tt, tt), ((tt, tt), ((tt, tt), ((tt, tt), ((tt, tt), ((tt, tt), ((tt, tt), ((tt, tt), tt))))))))) w e is

pub leaf_chars : {x y : Point} (e : Expr) → Takes (in_word leaf_of) x (tree_of e) y → OneCharEach e
leaf_chars e t = no_literals e (taken_has NoLiterals leaf_none t)

named_none : (f : Naming) (g : ℕ) → NoLiterals (named f g)
named_none (naming.Backref casei) g = (tt, tt)
named_none naming.Exists g = (tt, tt)
named_none naming.Call g = (tt, tt)

pub named_chars : (e : Expr) (f : Naming) (g : ℕ) → tree_of e ≡ named f g → OneCharEach e
named_chars e f g is = no_literals e (subst NoLiterals (sym is) (named_none f g))

named_at_none : (f : Leveled) (g : ℕ) (l : ℤ) → NoLiterals (named_at f g l)
named_at_none leveled.Backref g l = (tt, tt)
named_at_none leveled.Exists g l = (tt, tt)

pub named_at_chars : (e : Expr) (f : Leveled) (g : ℕ) (l : ℤ) → tree_of e ≡ named_at f g l → OneCharEach e
named_at_chars e f g l is = no_literals e (subst NoLiterals (sym is) (named_at_none f g l))

-- ---- parts

pub one_part : (es : List Expr) (e : Expr) → es ≡ e ∷ [] → OneCharEach e → Each OneCharEach es
one_part es e is h = subst (Each OneCharEach) (sym is) (h, tt)

pub boxed : (a b : Expr) → a ≡ b → OneCharEach b → OneCharEach a
boxed a b is h = subst OneCharEach (sym is) h
