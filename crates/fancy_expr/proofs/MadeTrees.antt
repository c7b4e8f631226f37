-- The trees of nodes that are made.
use Rattle.std.proofs.Common.{◌≡◌, ℕ, List, [], ◌∷◌, length, map, Vec, Global, slice_index, encode_utf8, refl, sym, ap, ◌∙◌, subst, append-nil}
use Rattle.std.specs.Char.{IsScalar}
use Rattle.std.specs.Str.{chars, IsUtf8}
use Rattle.std.proofs.lemmas.Str.{chars_past_char, IsUtf8-encode}
use Rattle.fancy_meaning.specs.Tree.{Concat, Alt, trees}
use Rattle.fancy_expr.specs.declared.expr.Expr.{Expr}
use Rattle.fancy_expr.specs.declared.expr.Absent.TheViews as view
use Rattle.fancy_expr.specs.Views.{tree_of}
use Rattle.fancy_expr.proofs.Exprs.{parts-below, below-concat, below-alt}

pub tree-concat : (v : Vec Expr Global) → tree_of (view.Concat v) ≡ Concat (trees (map tree_of v.items))
tree-concat v = ap Concat (parts-below (view.Concat v) ∙ ap (λ l. trees (map tree_of l)) (below-concat _ v refl))

pub tree-alt : (v : Vec Expr Global) → tree_of (view.Alt v) ≡ Alt (trees (map tree_of v.items))
tree-alt v = ap Alt (parts-below (view.Alt v) ∙ ap (λ l. trees (map tree_of l)) (below-alt _ v refl))

-- ---- a literal

chars-encoded : (c : ℕ) (bytes : List ℕ) → IsScalar c → bytes ≡ encode_utf8 c → chars bytes ≡ c ∷ chars []
chars-encoded c bytes is e = chars_past_char bytes [] c (subst IsUtf8 (sym e) (IsUtf8-encode c is)) (e ∙ sym (append-nil (encode_utf8 c)))

-- the bytes of a character are one character, and it is that one
pub literal-made : (c : ℕ) (bytes : List ℕ) → IsScalar c → bytes ≡ encode_utf8 c → slice_index (chars bytes) 0 ≡ c
literal-made c bytes is e = ap (λ l. slice_index l 0) (chars-encoded c bytes is e)

pub one-char : (c : ℕ) (bytes : List ℕ) → IsScalar c → bytes ≡ encode_utf8 c → length (chars bytes) ≡ 1
unfolding chars
one-char c bytes is e = ap length (chars-encoded c bytes is e)
