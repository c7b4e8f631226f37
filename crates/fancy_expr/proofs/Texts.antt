-- The pattern text of a node, put together from its parts; numbering a tree changes no text.
use Rattle.std.proofs.Common.{◌≡◌, ℕ, suc, ◌+◌, ◌<◌, ◌≤◌, Bool, true, false, List, [], ◌∷◌, ◌++◌, length, map, take, get_or, slice_index, chars, string_bytes, nat_lt, if◌then◌else◌, codes, refl, sym, ap, ◌∙◌, arith, append-nil, append_assoc, Result, Ok, Err, OnOk}
use Rattle.std.specs.declared.vec.Vec.{Vec}
use Rattle.std.specs.declared.alloc.Global.{Global}
use Rattle.std.proofs.lemmas.List.{map-append, take_all, length-map, length-take-le}
use Prim.Native.String.{String}
use Rattle.fancy_expr.specs.declared.expr.Absent.TheViews as view
use Rattle.fancy_meaning.specs.Tree as plain
use Rattle.fancy_meaning.specs.Tree.{Tree, Trees, none, more}
use Rattle.fancy_meaning.specs.Nodes.{group_count}
use Rattle.fancy_meaning.specs.Numbering.{numbered_within, each_numbered}
use Rattle.fancy_meaning.specs.PatternText.{Text, bounds_text, each_text, escaped, joined, text_of, wrapped, wrapped_if}
use Rattle.fancy_expr.specs.declared.expr.Absent.{Absent}
use Rattle.fancy_expr.specs.declared.expr.Expr.{Expr, Row_of-Expr, end_of-Expr, more_of-Expr}
use Rattle.fancy_expr.specs.declared.expr.Expr.TheVariants as code
use Rattle.fancy_expr.specs.declared.expr.Absent.TheVariants as code_absent
use Rattle.fancy_expr.specs.Views.{bound_of, tree_of, trees_of}
use Rattle.fancy_expr.specs.Exprs.{below, in_row}
use Rattle.fancy_expr.specs.Texts.{bar_before, before, closing, count_text, inner_precedence, opening, own_text, separator, spelled}
use Rattle.fancy_expr.proofs.Walks.{taken}

-- the texts of these children
abbrev pub texts_at : ℕ → List Expr → List Text
texts_at precedence = map (λ e. text_of (tree_of e) precedence)

-- ---- the parts

in-brackets : (b : Bool) (bracket : String) (t : Text) → wrapped_if b bracket t ≡ (if b then codes bracket else []) ++ (t ++ (if b then codes ")" else []))
in-brackets true bracket t = refl
in-brackets false bracket t = sym (append-nil t)

each-spelled : {m : _} (precedence : ℕ) (row : Row_of-Expr m) → each_text (trees_of row) precedence ≡ texts_at precedence (in_row row)
each-spelled precedence end_of-Expr = refl
each-spelled precedence (more_of-Expr e es) = ap (λ l. text_of (tree_of e) precedence ∷ l) (each-spelled precedence es)

-- a node's text: what opens, what it is itself, its children, how often, and what closes
abbrev whole : Expr → ℕ → Text
whole e precedence =
    let t = tree_of e in
    opening t precedence ++ (own_text t ++ (joined (separator t) (texts_at (inner_precedence t) (spelled e)) ++ (count_text t ++ closing t precedence)))

absent-whole : (a : Absent) (precedence : ℕ) → text_of (tree_of (code.Absent a)) precedence ≡ whole (code.Absent a) precedence
absent-whole (code_absent.Repeater' b e) precedence = refl
absent-whole (code_absent.Expression' b a c e) precedence = refl
absent-whole (code_absent.Stopper' b e) precedence = refl
absent-whole code_absent.Clear precedence = refl

parts : (e : Expr) (precedence : ℕ) → text_of (tree_of e) precedence ≡ whole e precedence
parts (code.Any newline crlf) precedence = sym (append-nil _)
parts (code.Assertion a) precedence = sym (append-nil _)
parts (code.Literal val casei) precedence = in-brackets casei "(?i:" (escaped (slice_index (chars (string_bytes val)) 0))
parts (code.Delegate inner casei) precedence = in-brackets casei "(?i:" (string_bytes inner)
parts (code.Concat' shape es) precedence =
    in-brackets (nat_lt 1 precedence) "(?:" (joined [] (each_text (trees_of es) 2))
    ∙ ap (λ l. opening (plain.Concat (trees_of es)) precedence ++ (joined [] l ++ closing (plain.Concat (trees_of es)) precedence)) (each-spelled 2 es)
parts (code.Alt' shape es) precedence =
    in-brackets (nat_lt 0 precedence) "(?:" (joined (codes "|") (each_text (trees_of es) 1))
    ∙ ap (λ l. opening (plain.Alt (trees_of es)) precedence ++ (joined (codes "|") l ++ closing (plain.Alt (trees_of es)) precedence)) (each-spelled 1 es)
parts (code.Group' b e) precedence = refl
parts (code.Repeat' b e lo hi greedy) precedence =
    let counts = bounds_text lo (bound_of hi) ++ (if greedy then [] else codes "?") in
    let whole_node = plain.Repeat lo (bound_of hi) greedy (tree_of e) in
    in-brackets (nat_lt 2 precedence) "(?:" (text_of (tree_of e) 3 ++ counts)
    ∙ ap (λ t. opening whole_node precedence ++ t) (append_assoc (text_of (tree_of e) 3) counts (closing whole_node precedence))
parts (code.Absent a) precedence = absent-whole a precedence
parts e precedence = refl

-- ---- child by child

bars : (ts : List Text) (t : Text) → joined (codes "|") ts ++ (bar_before (length ts) ++ t) ≡ joined (codes "|") (ts ++ t ∷ [])
bars [] t = refl
bars (u ∷ []) t = refl
bars (u ∷ v ∷ ts) t =
    append_assoc u (codes "|" ++ joined (codes "|") (v ∷ ts)) _
    ∙ ap (λ l. u ++ (codes "|" ++ l)) (bars (v ∷ ts) t)

nothing-between : (ts : List Text) (t : Text) → joined [] ts ++ t ≡ joined [] (ts ++ t ∷ [])
nothing-between [] t = refl
nothing-between (u ∷ []) t = refl
nothing-between (u ∷ v ∷ ts) t = append_assoc u (joined [] (v ∷ ts)) t ∙ ap (λ l. u ++ l) (nothing-between (v ∷ ts) t)

-- one child more
next_joined : (e : Expr) (ts : List Text) (t : Text) →
    joined (separator (tree_of e)) ts ++ (before (tree_of e) (length ts) ++ t) ≡ joined (separator (tree_of e)) (ts ++ t ∷ [])
next_joined (code.Alt' shape es) ts t = bars ts t
next_joined (code.Absent (code_absent.Repeater' b e)) ts t = nothing-between ts t
next_joined (code.Absent (code_absent.Expression' b a c e)) ts t = nothing-between ts t
next_joined (code.Absent (code_absent.Stopper' b e)) ts t = nothing-between ts t
next_joined (code.Absent code_absent.Clear) ts t = nothing-between ts t
next_joined e ts t = nothing-between ts t

pub spelled-below : (e : Expr) (i : ℕ) → i < length (spelled e) → spelled e ≡ below e
spelled-below (code.Concat' shape es) i h = refl
spelled-below (code.Alt' shape es) i h = refl
spelled-below (code.Group' b e) i h = refl
spelled-below (code.Repeat' b e lo hi greedy) i h = refl
spelled-below e i h = absurd (omega (arith, h))

pub spelled_most : (e : Expr) → length (spelled e) ≤ length (below e)
spelled_most (code.Concat' shape es) = omega arith
spelled_most (code.Alt' shape es) = omega arith
spelled_most (code.Group' b e) = omega arith
spelled_most (code.Repeat' b e lo hi greedy) = omega arith
spelled_most e = omega arith

pub spelled_concat : (e : Expr) (v : Vec Expr Global) → e ≡ view.Concat v → spelled e ≡ below e
spelled_concat e v is = ap spelled is ∙ sym (ap below is)

pub spelled_alt : (e : Expr) (v : Vec Expr Global) → e ≡ view.Alt v → spelled e ≡ below e
spelled_alt e v is = ap spelled is ∙ sym (ap below is)

-- the texts of the first children
abbrev pub spelled_first : Expr → ℕ → Text
spelled_first e i = joined (separator (tree_of e)) (texts_at (inner_precedence (tree_of e)) (take i (spelled e)))

pub one_more : (e child : Expr) (i : ℕ) → i < length (spelled e) → child ≡ get_or (below e) i child →
    spelled_first e i ++ (before (tree_of e) i ++ text_of (tree_of child) (inner_precedence (tree_of e))) ≡ spelled_first e (i + 1)
one_more e child i h at =
    let p = inner_precedence (tree_of e) in
    let firsts = texts_at p (take i (spelled e)) in
    let count : i ≡ length firsts = sym (length-map (take i (spelled e)) (λ x. text_of (tree_of x) p) ∙ length-take-le i (spelled e) (omega (arith, h))) in
    let here : child ≡ get_or (spelled e) i child = at ∙ ap (λ l. get_or l i child) (sym (spelled-below e i h)) in
    ap (λ k. spelled_first e i ++ (before (tree_of e) k ++ text_of (tree_of child) p)) count
    ∙ next_joined e firsts (text_of (tree_of child) p)
    ∙ ap (joined (separator (tree_of e))) (sym (
    ap (texts_at p) (taken (spelled e) i child h here)
    ∙ map-append (λ x. text_of (tree_of x) p) (take i (spelled e)) (child ∷ [])))

-- all of it
pub all_parts : (e : Expr) (precedence n : ℕ) → length (spelled e) ≤ n →
    opening (tree_of e) precedence ++ (own_text (tree_of e) ++ (spelled_first e n ++ (count_text (tree_of e) ++ closing (tree_of e) precedence)))
    ≡ text_of (tree_of e) precedence
all_parts e precedence n h =
    let t = tree_of e in
    ap (λ l. opening t precedence ++ (own_text t ++ (joined (separator t) (texts_at (inner_precedence t) l) ++ (count_text t ++ closing t precedence))))
    (take_all n (spelled e) h)
    ∙ sym (parts e precedence)

-- what is written piece by piece
pub joined_up : (start a b firsts d z : Text) → start ++ a ++ b ++ firsts ++ d ++ z ≡ start ++ (a ++ (b ++ (firsts ++ (d ++ z))))
joined_up start a b firsts d z =
    append_assoc (start ++ a ++ b ++ firsts) d z
    ∙ append_assoc (start ++ a ++ b) firsts (d ++ z)
    ∙ append_assoc (start ++ a) b (firsts ++ (d ++ z))
    ∙ append_assoc start a (b ++ (firsts ++ (d ++ z)))

pub on_ok : {T E A B : Type 0} (r : Result T E) → (A → B) → OnOk r A → OnOk r B
on_ok (Ok x) f h = f h
on_ok (Err x) f h = h

-- ---- numbering

mutual
  -- numbering changes no text
  pub text-numbered : (w : plain.Within) (n : ℕ) (e : Tree) (precedence : ℕ) → text_of (numbered_within w n e) precedence ≡ text_of e precedence
  text-numbered w n (plain.Assert old a) precedence = refl
  text-numbered w n (plain.Concat es) precedence = ap (λ l. wrapped_if (nat_lt 1 precedence) "(?:" (joined [] l)) (texts-numbered w n es 2)
  text-numbered w n (plain.Alt es) precedence = ap (λ l. wrapped_if (nat_lt 0 precedence) "(?:" (joined (codes "|") l)) (texts-numbered w n es 1)
  text-numbered w n (plain.Group old e) precedence = ap (λ t. wrapped "(" t ")") (text-numbered w (suc n) e 0)
  text-numbered w n (plain.Repeat lo hi greedy e) precedence =
      ap (λ t. wrapped_if (nat_lt 2 precedence) "(?:" (t ++ (bounds_text lo hi ++ (if greedy then [] else codes "?")))) (text-numbered w n e 3)
  text-numbered w n e precedence = refl

  texts-numbered : (w : plain.Within) (n : ℕ) (es : Trees) (precedence : ℕ) → each_text (each_numbered w n es) precedence ≡ each_text es precedence
  texts-numbered w n none precedence = refl
  texts-numbered w n (more e es) precedence =
      ap (λ t. t ∷ each_text (each_numbered w (n + group_count e) es) precedence) (text-numbered w n e precedence)
      ∙ ap (λ l. text_of e precedence ∷ l) (texts-numbered w (n + group_count e) es precedence)
