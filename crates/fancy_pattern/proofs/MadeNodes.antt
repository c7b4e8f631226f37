-- The trees of nodes that are made.
use Rattle.std.proofs.Common.{◌≡◌, ℕ, ◌+◌, ◌<◌, true, false, List, [], ◌∷◌, ◌++◌, map, take, length, get_or, Vec, Global, chars, slice_index, encode_utf8, encode_utf8_all, refl, sym, ap, ◌∙◌, subst, arith, append-nil, append_assoc}
use Rattle.std.proofs.lemmas.List.{map-append, take_more}
use Rattle.std.proofs.lemmas.Str.{chars_past_char, IsUtf8-encode, encodes-append}
use Rattle.std.specs.Char.{IsScalar}
use Rattle.std.specs.Str.{IsUtf8}
use Rattle.fancy_meaning.specs.Tree.{Tree, Concat, Alt, trees}
use Rattle.fancy_expr.specs.declared.expr.Absent.{Absent}
use Rattle.fancy_expr.specs.declared.expr.Absent.TheVariants as code_absent
use Rattle.fancy_expr.specs.declared.expr.Expr.{Expr}
use Rattle.fancy_expr.specs.declared.expr.Absent.TheViews as view
use Rattle.fancy_expr.specs.Views.{tree_of, absent_of}
use Rattle.fancy_expr.proofs.Exprs.{parts-below, below-concat, below-alt}
use Rattle.fancy_pattern.specs.Grammar.{joined, alternated, is_empty, is_repeatable}

pub absent_is_some : (a : Absent) → is_empty (absent_of a) ≡ false
absent_is_some (code_absent.Repeater' b e) = refl
absent_is_some (code_absent.Expression' b a d e) = refl
absent_is_some (code_absent.Stopper' b e) = refl
absent_is_some code_absent.Clear = refl

pub absent_is_repeatable : (a : Absent) → is_repeatable (absent_of a) ≡ true
absent_is_repeatable (code_absent.Repeater' b e) = refl
absent_is_repeatable (code_absent.Expression' b a d e) = refl
absent_is_repeatable (code_absent.Stopper' b e) = refl
absent_is_repeatable code_absent.Clear = refl

pub tree-concat : (v : Vec Expr Global) → tree_of (view.Concat v) ≡ Concat (trees (map tree_of v.items))
tree-concat v = ap Concat (parts-below (view.Concat v) ∙ ap (λ l. trees (map tree_of l)) (below-concat _ v refl))

pub tree-alt : (v : Vec Expr Global) → tree_of (view.Alt v) ≡ Alt (trees (map tree_of v.items))
tree-alt v = ap Alt (parts-below (view.Alt v) ∙ ap (λ l. trees (map tree_of l)) (below-alt _ v refl))

pub joined-many : (es : List Expr) → 1 < length es → Concat (trees (map tree_of es)) ≡ joined (map tree_of es)
joined-many [] h = absurd (omega (arith, h))
joined-many (a ∷ []) h = absurd (omega (arith, h))
joined-many (a ∷ b ∷ es) h = refl

pub alternated-many : (es : List Expr) → 1 < length es → Alt (trees (map tree_of es)) ≡ alternated (map tree_of es)
alternated-many [] h = absurd (omega (arith, h))
alternated-many (a ∷ []) h = absurd (omega (arith, h))
alternated-many (a ∷ b ∷ es) h = refl

-- one more node
pub one_node_more : (gs : List ℕ) (i d : ℕ) (f : ℕ → Tree) (old new : List Expr) (e : Expr) → i < length gs → map tree_of old ≡ map f (take i gs) →
    new ≡ old ++ e ∷ [] → tree_of e ≡ f (get_or gs i d) → map tree_of new ≡ map f (take (i + 1) gs)
one_node_more gs i d f old new e lt before is made =
    ap (map tree_of) is
    ∙ map-append tree_of old (e ∷ [])
    ∙ ap (λ l. l ++ tree_of e ∷ []) before
    ∙ ap (λ t. map f (take i gs) ++ t ∷ []) made
    ∙ sym (map-append f (take i gs) (get_or gs i d ∷ []))
    ∙ ap (map f) (sym (take_more gs i d lt))

pub literal-made : (c : ℕ) (bytes : List ℕ) → IsScalar c → bytes ≡ encode_utf8 c → slice_index (chars bytes) 0 ≡ c
literal-made c bytes is e =
    ap (λ l. slice_index l 0) (chars_past_char bytes [] c (subst IsUtf8 (sym e) (IsUtf8-encode c is)) (e ∙ sym (append-nil (encode_utf8 c))))

-- ---- texts

-- one more character behind a text
pub char_added : (before : List ℕ) (cs : List ℕ) (i c : ℕ) (old new : List ℕ) → i < length cs → c ≡ get_or cs i c → old ≡ before ++ encode_utf8_all (take i cs) →
    new ≡ old ++ encode_utf8 c → new ≡ before ++ encode_utf8_all (take (i + 1) cs)
char_added before cs i c old new lt at was is =
    is
    ∙ ap (λ l. l ++ encode_utf8 c) was
    ∙ append_assoc before (encode_utf8_all (take i cs)) (encode_utf8 c)
    ∙ ap (λ l. before ++ l)
    (sym (encodes-append (take i cs) (c ∷ []) ∙ ap (λ l. encode_utf8_all (take i cs) ++ l) (append-nil (encode_utf8 c)))
    ∙ ap encode_utf8_all (ap (λ d. take i cs ++ d ∷ []) at ∙ sym (take_more cs i c lt)))

-- one text behind another
pub text_added : (before cs ds old new : List ℕ) → old ≡ before ++ encode_utf8_all cs → new ≡ old ++ encode_utf8_all ds → new ≡ before ++ encode_utf8_all (cs ++ ds)
text_added before cs ds old new was is =
    is
    ∙ ap (λ l. l ++ encode_utf8_all ds) was
    ∙ append_assoc before (encode_utf8_all cs) (encode_utf8_all ds)
    ∙ ap (λ l. before ++ l) (sym (encodes-append cs ds))

-- one character as a text
pub one_char : (old new : List ℕ) (c : ℕ) → new ≡ old ++ encode_utf8 c → new ≡ old ++ encode_utf8_all (c ∷ [])
one_char old new c is = is ∙ ap (λ l. old ++ l) (sym (append-nil (encode_utf8 c)))
