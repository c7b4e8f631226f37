-- Each literal that is made is one character.
use Rattle.std.proofs.Common.{◌≡◌, ℕ, ℤ, Bool, List, [], ◌∷◌, ◌++◌, length, map, reverse, encode_utf8, encode_utf8_all, Vec, Global, Option, Some, None, Result, Ok, Err, IfOk, refl, sym, ap, ◌∙◌, subst, append-nil}
use Rattle.std.specs.Char.{IsScalar}
use Rattle.std.specs.Str.{chars, IsUtf8}
use Rattle.std.proofs.lemmas.Str.{chars_past_char, IsUtf8-encode}
use Rattle.fancy_meaning.specs.Tree as plain
use Rattle.fancy_meaning.specs.Tree.{Tree, trees}
use Rattle.fancy_meaning.specs.Nodes.{nodes, nodes_of_each}
use Rattle.fancy_expr.specs.declared.expr.Expr.{Expr}
use Rattle.fancy_expr.specs.declared.expr.Expr.TheVariants as code
use Rattle.fancy_expr.specs.declared.expr.Absent.TheViews as view
use Rattle.fancy_expr.specs.Views.{tree_of}
use Rattle.fancy_expr.specs.Exprs.{below, exprs, exprs_of_each}
use Rattle.fancy_expr.specs.Each.{Each}
use Rattle.fancy_expr.specs.Sound.{IsOneChar}
use Rattle.fancy_expr.proofs.Exprs.{nodes-exprs, exprs-below, below-concat, below-alt}
use Rattle.fancy_tokens.specs.declared.tokens.Naming.{Naming}
use Rattle.fancy_tokens.specs.declared.tokens.Naming.TheVariants as naming
use Rattle.fancy_tokens.specs.Tokens.{Target, Name, Number, Nowhere, Reference}
use Rattle.fancy_pattern.specs.Naming.{numbers_of}
use Rattle.fancy_pattern.specs.Grammar.{Names, named, unresolved, several, by_groups, by_target, reference}
use Rattle.fancy_pattern.specs.Reading.{OneCharEach}
use Rattle.fancy_pattern.proofs.Namesakes.{several_nodes}

each_append : {X : Type 0} (P : X → Type 0) (xs ys : List X) → Each P xs → Each P ys → Each P (xs ++ ys)
each_append P [] ys h k = k
each_append P (x ∷ xs) ys h k = (h.0, each_append P xs ys h.1 k)

-- ---- trees without literals

abbrev NoLiteral : Tree → Type 0
NoLiteral (plain.Literal c casei) = ⊥
NoLiteral e = Unit {0}

abbrev NoLiterals : Tree → Type 0
NoLiterals e = Each NoLiteral (nodes e)

one_char : (e : Expr) → NoLiteral (tree_of e) → IsOneChar e
one_char (code.Literal val casei) h = absurd h
one_char e h = tt

each_one_char : (es : List Expr) → Each NoLiteral (map tree_of es) → Each IsOneChar es
each_one_char [] h = tt
each_one_char (e ∷ es) h = (one_char e h.0, each_one_char es h.1)

pub no_literals : (e : Expr) → Each NoLiteral (nodes (tree_of e)) → OneCharEach e
no_literals e h = each_one_char (exprs e) (subst (Each NoLiteral) (sym (nodes-exprs e)) h)

pub class_chars : {E : Type 0} (r : Result Expr E) (text : List ℕ) (casei : Bool) → IfOk r (λ e. tree_of e ≡ plain.Delegate text casei) → IfOk r OneCharEach
class_chars (Ok e) text casei h = no_literals e (subst NoLiterals (sym h) (tt, tt))
class_chars (Err x) text casei h = tt

named_none : (n : Naming) (level : Option ℤ) (g : ℕ) → NoLiterals (named n level g)
named_none (naming.Backref casei) None g = (tt, tt)
named_none (naming.Backref casei) (Some l) g = (tt, tt)
named_none naming.Exists level g = (tt, tt)
named_none naming.Call level g = (tt, tt)

row_none : (n : Naming) (level : Option ℤ) (gs : List ℕ) → Each NoLiteral (nodes_of_each (trees (map (named n level) gs)))
row_none n level [] = tt
row_none n level (g ∷ gs) =
    each_append NoLiteral (nodes (named n level g)) (nodes_of_each (trees (map (named n level) gs))) (named_none n level g) (row_none n level gs)

unresolved_none : (n : Naming) → NoLiterals (unresolved n)
unresolved_none (naming.Backref casei) = (tt, tt)
unresolved_none naming.Exists = (tt, tt)
unresolved_none naming.Call = (tt, tt)

same_none : (e d : Tree) → NoLiterals e → Some e ≡ Some d → NoLiterals d
same_none e d h is = let same : e ≡ d = cc in subst NoLiterals same h

several_none : (n : Naming) (level : Option ℤ) (gs : List ℕ) (e : Tree) → several n level gs ≡ Some e → NoLiterals e
several_none n level gs e is = same_none _ e (tt, row_none n level (reverse gs)) (several_nodes n level gs e is)

by_groups_none : (n : Naming) (level : Option ℤ) (gs : List ℕ) (e : Tree) → by_groups n level gs ≡ Some e → NoLiterals e
by_groups_none n level [] e is = same_none _ e (unresolved_none n) is
by_groups_none n level (g ∷ []) e is = same_none _ e (named_none n level g) is
by_groups_none n level (g ∷ d ∷ gs) e is = several_none n level (g ∷ d ∷ gs) e is

target_none : (names : Names) (n : Naming) (level : Option ℤ) (t : Target) (e : Tree) → by_target names n level t ≡ Some e → NoLiterals e
target_none names n level (Name name) e is = by_groups_none n level (numbers_of names (encode_utf8_all name)) e is
target_none names n level (Number g) e is = same_none _ e (named_none n level g) is
target_none names n level Nowhere e is = same_none _ e (unresolved_none n) is

pub reference_chars : (names : Names) (r : Reference) (e : Expr) → Some (tree_of e) ≡ reference names r → OneCharEach e
reference_chars names r e is = no_literals e (target_none names r.naming r.level r.target (tree_of e) (sym is))

-- ---- one character

pub one-char : (c : ℕ) (bytes : List ℕ) → IsScalar c → bytes ≡ encode_utf8 c → length (chars bytes) ≡ 1
unfolding chars
one-char c bytes is e =
    ap length (chars_past_char bytes [] c (subst IsUtf8 (sym e) (IsUtf8-encode c is)) (e ∙ sym (append-nil (encode_utf8 c))))

-- ---- rows

row_chars : (es : List Expr) → Each OneCharEach es → Each IsOneChar (exprs_of_each es)
row_chars [] h = tt
row_chars (e ∷ es) h = each_append IsOneChar (exprs e) (exprs_of_each es) h.0 (row_chars es h.1)

over_row : (e : Expr) (es : List Expr) → IsOneChar e → below e ≡ es → Each OneCharEach es → OneCharEach e
over_row e es here is h = subst (Each IsOneChar) (sym (exprs-below e ∙ ap (λ l. e ∷ exprs_of_each l) is)) (here, row_chars es h)

pub concat_chars : (v : Vec Expr Global) → Each OneCharEach v.items → OneCharEach (view.Concat v)
concat_chars v h = over_row (view.Concat v) v.items tt (below-concat _ v refl) h

pub alt_chars : (v : Vec Expr Global) → Each OneCharEach v.items → OneCharEach (view.Alt v)
alt_chars v h = over_row (view.Alt v) v.items tt (below-alt _ v refl) h

pub no_parts : (es : List Expr) → es ≡ [] → Each OneCharEach es
no_parts es is = subst (Each OneCharEach) (sym is) tt

pub one_part : (none es : List Expr) (e : Expr) → none ≡ [] → es ≡ none ++ e ∷ [] → OneCharEach e → Each OneCharEach es
one_part none es e nothing is h = subst (Each OneCharEach) (sym (is ∙ ap (λ l. l ++ e ∷ []) nothing)) (h, tt)

pub with_part : (es more : List Expr) (e : Expr) → more ≡ es ++ e ∷ [] → OneCharEach e → Each OneCharEach es → Each OneCharEach more
with_part es more e is h k = subst (Each OneCharEach) (sym is) (each_append OneCharEach es (e ∷ []) k (h, tt))

-- the last of them
pub last_part : (es before : List Expr) (e : Expr) → es ≡ before ++ e ∷ [] → Each OneCharEach es → OneCharEach e
last_part es before e is h = at_end before (subst (Each OneCharEach) is h)
  where
    at_end : (before : List Expr) → Each OneCharEach (before ++ e ∷ []) → OneCharEach e
    at_end [] h = h.0
    at_end (x ∷ before) h = at_end before h.1

-- ---- boxes

pub two_chars : (a b : Expr) → OneCharEach a → OneCharEach b → Each IsOneChar (exprs a ++ exprs b)
two_chars a b h k = each_append IsOneChar (exprs a) (exprs b) h k

pub three_chars : (a b c : Expr) → OneCharEach a → OneCharEach b → OneCharEach c → Each IsOneChar (exprs a ++ (exprs b ++ exprs c))
three_chars a b c h k l = each_append IsOneChar (exprs a) (exprs b ++ exprs c) h (two_chars b c k l)
