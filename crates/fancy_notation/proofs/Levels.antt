-- A tree has at most two levels more than its text is deep.
use Rattle.std.proofs.Common.{◌≡◌, ℕ, ◌+◌, ◌≤◌, Bool, List, [], ◌∷◌, ◌++◌, map, max, Option, Some, None, chars, refl, sym, ap, ◌∙◌, subst, arith}
use Rattle.std.specs.Prelude.{ℤ}
use Rattle.fancy_meaning.specs.Tree.{Tree, trees, Literal, Assertion, Assert, NoLook}
use Rattle.fancy_notation.specs.declared.forms.Enclosing.{Enclosing}
use Rattle.fancy_notation.specs.declared.forms.Enclosing.TheVariants as enclosing
use Rattle.fancy_notation.specs.declared.forms.Naming.{Naming}
use Rattle.fancy_notation.specs.declared.forms.Naming.TheVariants as naming
use Rattle.fancy_notation.specs.declared.forms.Leveled.{Leveled}
use Rattle.fancy_notation.specs.declared.forms.Leveled.TheVariants as leveled
use Rattle.fancy_notation.specs.declared.forms.Form.{Form}
use Rattle.fancy_notation.specs.Tokens.{Token, Opened, Closed, Quoted, Word, Broken}
use Rattle.fancy_notation.specs.Words.{leaf_of, found, assertions, plain_leaves}
use Rattle.fancy_notation.specs.Lexing.{tokens_of}
use Rattle.fancy_notation.specs.Grammar.{Point, Takes, in_word, opening, closing, quoted, class, literals, joined, parts_of_text, enclosed, named, named_at, Begins, IsSpelled, SpellsBytes, no_byte, byte, Spells, text, leaf, formed, SpellsForm, cat, alt, around, repeat, set, bytes, names, names_at, verb, conditional, absent_expression, SpellsParts, no_part, spliced, part}
use Rattle.fancy_notation.specs.Depth.{nesting_behind, deepest, depth, levels, most_levels}
use Rattle.fancy_notation.proofs.Counting.{rows_have, found_has}
use Rattle.fancy_notation.proofs.Nesting.{at_least, over}

row-append : (a b : List Tree) → most_levels (trees (a ++ b)) ≡ max (most_levels (trees a)) (most_levels (trees b))
row-append [] b = omega arith
row-append (e ∷ a) b = omega (arith, row-append a b)

literal_levels : (folded : Bool) (cs : List ℕ) → most_levels (trees (map (λ c. Literal c folded) cs)) ≤ 1
literal_levels folded [] = omega arith
literal_levels folded (c ∷ cs) = omega (arith, literal_levels folded cs)

parts_flat : (folded : Bool) (s : List ℕ) → most_levels (trees (parts_of_text folded s)) ≤ 1
parts_flat folded [] = omega arith
parts_flat folded (b ∷ bs) = literal_levels folded (chars (b ∷ bs))

joined_levels : (es : List Tree) → most_levels (trees es) ≤ 1 → levels (joined es) ≤ 2
joined_levels [] h = omega arith
joined_levels (e ∷ []) h = omega (arith, h)
joined_levels (e ∷ d ∷ es) h = omega (arith, h)

is_one : Tree → Type 0
is_one e = levels e ≡ 1

leaf_one : (w : List ℕ) (e : Tree) → leaf_of w ≡ Some e → levels e ≡ 1
unfolding leaf_of is_one rows_have
leaf_one w e is = by_assertion (found assertions w) is
  where
    by_assertion : (o : Option Assertion) → elim o [ Some a ↦ Some (Assert NoLook a) | None ↦ found plain_leaves w ] ≡ Some e → levels e ≡ 1
    by_assertion (Some a) q = let same : Assert NoLook a ≡ e = cc in subst (λ t. levels t ≡ 1) same refl
    by_assertion None q = found_has is_one plain_leaves w e (refl, (refl, (refl, (refl, (refl, (refl, (refl, (refl, (refl, tt))))))))) q

leaf_token : (e : Tree) (t : Token) → in_word leaf_of t ≡ Some e → levels e ≡ 1
leaf_token e Opened is = absurd (cc)
leaf_token e Closed is = absurd (cc)
leaf_token e (Quoted f s) is = absurd (cc)
leaf_token e (Word w) is = leaf_one w e is
leaf_token e Broken is = absurd (cc)

-- ---- one token

flat_deep : {V : Type 0} {gives : Token → Option V} {x : Point} {v : V} {y : Point} (t : Takes gives x v y) (n : ℕ) →
    nesting_behind n t.first.token ≡ n → deepest n x.tokens ≡ deepest n y.tokens
flat_deep {y = y} t n e = ap (deepest n) t.tokens ∙ over n t.first y.tokens e

word_flat : {V : Type 0} (f : List ℕ → Option V) (v : V) (t : Token) (n : ℕ) → in_word f t ≡ Some v → nesting_behind n t ≡ n
word_flat f v Opened n is = absurd (cc)
word_flat f v Closed n is = absurd (cc)
word_flat f v (Quoted b s) n is = refl
word_flat f v (Word w) n is = refl
word_flat f v Broken n is = refl

word_deep : {V : Type 0} {f : List ℕ → Option V} {x : Point} {v : V} {y : Point} → Takes (in_word f) x v y → (n : ℕ) →
    deepest n x.tokens ≡ deepest n y.tokens
word_deep {f = f} {v = v} t n = flat_deep t n (word_flat f v t.first.token n t.is)

quoted_flat : (q : Bool × List ℕ) (t : Token) (n : ℕ) → quoted t ≡ Some q → nesting_behind n t ≡ n
quoted_flat q Opened n is = absurd (cc)
quoted_flat q Closed n is = absurd (cc)
quoted_flat q (Quoted b s) n is = refl
quoted_flat q (Word w) n is = refl
quoted_flat q Broken n is = refl

class_flat : (s : List ℕ) (t : Token) (n : ℕ) → class t ≡ Some s → nesting_behind n t ≡ n
class_flat q Opened n is = absurd (cc)
class_flat q Closed n is = absurd (cc)
class_flat q (Quoted b s) n is = refl
class_flat q (Word w) n is = refl
class_flat q Broken n is = refl

opened_token : (t : Token) (n : ℕ) → opening t ≡ Some tt → nesting_behind n t ≡ n + 1
opened_token Opened n is = refl
opened_token Closed n is = absurd (cc)
opened_token (Quoted b s) n is = absurd (cc)
opened_token (Word w) n is = absurd (cc)
opened_token Broken n is = absurd (cc)

closed_token : (t : Token) (n : ℕ) → closing t ≡ Some tt → nesting_behind (n + 1) t ≡ n
closed_token Opened n is = absurd (cc)
closed_token Closed n is = omega arith
closed_token (Quoted b s) n is = absurd (cc)
closed_token (Word w) n is = absurd (cc)
closed_token Broken n is = absurd (cc)

open_deep : {x y : Point} → Takes opening x tt y → (n : ℕ) → deepest n x.tokens ≡ max n (deepest (n + 1) y.tokens)
open_deep {y = y} t n = ap (deepest n) t.tokens ∙ ap (λ m. max n (deepest m y.tokens)) (opened_token t.first.token n t.is)

shut_deep : {x y : Point} → Takes closing x tt y → (n : ℕ) → deepest (n + 1) x.tokens ≡ max (n + 1) (deepest n y.tokens)
shut_deep {y = y} t n = ap (deepest (n + 1)) t.tokens ∙ ap (λ m. max (n + 1) (deepest m y.tokens)) (closed_token t.first.token n t.is)

begun_deep : {x : Point} {f : Form} {z : Point} → Begins x f z → (n : ℕ) → deepest n x.tokens ≡ max n (deepest (n + 1) z.tokens)
begun_deep b n = open_deep b.opened n ∙ ap (max n) (word_deep b.head (n + 1) ∙ ap (deepest (n + 1)) (sym b.tokens))

-- ---- forms

enclosed_levels : (f : Enclosing) (e : Tree) → levels (enclosed f e) ≡ levels e + 1
enclosed_levels enclosing.Group e = refl
enclosed_levels enclosing.Atomic e = refl
enclosed_levels enclosing.Define e = refl
enclosed_levels (enclosing.Look l) e = refl
enclosed_levels enclosing.AbsentRepeater e = refl
enclosed_levels enclosing.AbsentStopper e = refl

named_levels : (f : Naming) (g : ℕ) → levels (named f g) ≡ 1
named_levels (naming.Backref casei) g = refl
named_levels naming.Exists g = refl
named_levels naming.Call g = refl

named_at_levels : (f : Leveled) (g : ℕ) (l : ℤ) → levels (named_at f g l) ≡ 1
named_at_levels leveled.Backref g l = refl
named_at_levels leveled.Exists g l = refl

bytes_deep : {x y : Point} {bs : List ℕ} → SpellsBytes x y bs → (n : ℕ) → deepest n y.tokens ≤ deepest (n + 1) x.tokens
bytes_deep (no_byte t) n = omega (arith, shut_deep t n)
bytes_deep (byte t more) n = omega (arith, word_deep t (n + 1), bytes_deep more n)

mutual
  -- behind an expression as much is open as before it
  node_levels : {x y : Point} {e : Tree} → Spells x y e → (n : ℕ) →
      (n + levels e ≤ deepest n x.tokens + 2) × (deepest n y.tokens ≤ deepest n x.tokens)
  node_levels (text {x = x} {folded = folded} {bytes = s} t) n =
      let h = flat_deep t n (quoted_flat (folded, s) t.first.token n t.is) in
      (omega (arith, joined_levels (literals folded s) (literal_levels folded (chars s)), at_least n x.tokens), omega (arith, h))
  node_levels (leaf {x = x} {e = e} t) n =
      (omega (arith, leaf_token e t.first.token t.is, at_least n x.tokens), omega (arith, word_deep t n))
  node_levels (formed b f) n =
      let h = form_levels f n in
      let o = begun_deep b n in (omega (arith, h.0, o), omega (arith, h.1, o))

  form_levels : {f : Form} {x y : Point} {e : Tree} → SpellsForm f x y e → (n : ℕ) →
      (n + 1 + levels e ≤ deepest (n + 1) x.tokens + 3) × (deepest n y.tokens ≤ deepest (n + 1) x.tokens)
  form_levels (cat ps) n = let h = parts_levels ps n in (omega (arith, h.0), h.1)
  form_levels (alt s ps) n =
      let h = node_levels s (n + 1) in
      let k = parts_levels ps n in (omega (arith, h.0, h.1, k.0), omega (arith, h.1, k.1))
  form_levels (around {f = f} {e = e} s c) n =
      let h = node_levels s (n + 1) in (omega (arith, enclosed_levels f e, h.0), omega (arith, h.1, shut_deep c n))
  form_levels (repeat lo hi s c) n =
      let h = node_levels s (n + 1) in
      let a = word_deep lo (n + 1) in
      let b = word_deep hi (n + 1) in (omega (arith, a, b, h.0), omega (arith, a, b, h.1, shut_deep c n))
  form_levels (set {x = x} {inner = s} t c) n =
      let a = flat_deep t (n + 1) (class_flat s t.first.token (n + 1) t.is) in
      (omega (arith, at_least (n + 1) x.tokens), omega (arith, a, shut_deep c n))
  form_levels (bytes {x = x} bs) n = (omega (arith, at_least (n + 1) x.tokens), bytes_deep bs n)
  form_levels (names {x = x} {f = f} {g = g} t c) n =
      (omega (arith, named_levels f g, at_least (n + 1) x.tokens), omega (arith, word_deep t (n + 1), shut_deep c n))
  form_levels (names_at {x = x} {f = f} {g = g} {l = l} t v c) n = (
    omega (arith, named_at_levels f g l, at_least (n + 1) x.tokens),
    omega (arith, word_deep t (n + 1), word_deep v (n + 1), shut_deep c n),
  )
  form_levels (verb {x = x} v c) n = (omega (arith, at_least (n + 1) x.tokens), omega (arith, word_deep v (n + 1), shut_deep c n))
  form_levels (conditional a b d s) n =
      let h = node_levels a (n + 1) in
      let k = node_levels b (n + 1) in
      let l = node_levels d (n + 1) in (omega (arith, h.0, h.1, k.0, k.1, l.0), omega (arith, h.1, k.1, l.1, shut_deep s n))
  form_levels (absent_expression s v c) n =
      let h = node_levels s (n + 1) in
      let k = node_levels v (n + 1) in (omega (arith, h.0, h.1, k.0), omega (arith, h.1, k.1, shut_deep c n))

  parts_levels : {splices : Bool} {x y : Point} {es : List Tree} → SpellsParts splices x y es → (n : ℕ) →
      (n + 1 + most_levels (trees es) ≤ deepest (n + 1) x.tokens + 2) × (deepest n y.tokens ≤ deepest (n + 1) x.tokens)
  parts_levels (no_part {x = x} t) n = (omega (arith, at_least (n + 1) x.tokens), omega (arith, shut_deep t n))
  parts_levels (spliced {x = x} {folded = folded} {bytes = s} {es = es} t rest) n =
      let a = flat_deep t (n + 1) (quoted_flat (folded, s) t.first.token (n + 1) t.is) in
      let h = parts_levels rest n in (
        omega (arith, a, h.0, row-append (parts_of_text folded s) es, parts_flat folded s, at_least (n + 1) x.tokens),
        omega (arith, a, h.1),
      )
  parts_levels (part plain s rest) n =
      let h = node_levels s (n + 1) in
      let k = parts_levels rest n in (omega (arith, h.0, h.1, k.0), omega (arith, h.1, k.1))

pub spelled_levels : (s : List ℕ) (e : Tree) → IsSpelled (tokens_of s) e → levels e ≤ depth s + 2
spelled_levels s e r = omega (arith, (node_levels r.spells 0).0)
