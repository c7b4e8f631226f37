-- What is spelled is fine, and so is what is read.
use Rattle.std.proofs.Common.{◌≡◌, ℕ, ℤ, zero, suc, ◌-◌, ◌^◌, ◌<◌, ◌≤◌, Bool, true, false, cond, ◌&&◌, ◌==◌, List, [], ◌∷◌, ◌++◌, map, chars, Option, Some, None, IfSome, All, IsUtf8, FitsSigned, refl, sym, ap, ◌∙◌, subst, arith, ltb, leb, ltb-true, leb-true, append-nil, bytes_eq, string_bytes, pos, neg_ℤ, codes}
use Rattle.std.specs.Int.{w64}
use borrow.Author.Differences.{fits_in, neg_is}
use Rattle.std.specs.Str.{bytes_eq}
use Rattle.std.specs.Str.Parse.{digits_value}
use Rattle.std.proofs.lemmas.Bool.{and_parts}
use Rattle.fancy_meaning.specs.Tree as plain
use Rattle.fancy_meaning.specs.Tree.{Tree, trees}
use Rattle.fancy_meaning.specs.Nodes.{nodes, nodes_of_each}
use Rattle.fancy_meaning.specs.WellFormed.{IsUsize, IsCount}
use Rattle.fancy_expr.specs.declared.expr.Expr.{Expr}
use Rattle.fancy_expr.specs.Views.{tree_of}
use Rattle.fancy_expr.specs.Each.{Each}
use Rattle.fancy_expr.specs.Sound.{AllSound}
use Rattle.fancy_expr.proofs.EachLaws.{each_append, each_all}
use Rattle.fancy_expr.proofs.FineNodes.{FineBut, sound_if_fine_but}
use Rattle.fancy_notation.specs.declared.forms.Enclosing.{Enclosing}
use Rattle.fancy_notation.specs.declared.forms.Enclosing.TheVariants as enclosing
use Rattle.fancy_notation.specs.declared.forms.Naming.{Naming}
use Rattle.fancy_notation.specs.declared.forms.Naming.TheVariants as naming
use Rattle.fancy_notation.specs.declared.forms.Leveled.{Leveled}
use Rattle.fancy_notation.specs.declared.forms.Leveled.TheVariants as leveled
use Rattle.fancy_notation.specs.declared.forms.Form.{Form}
use Rattle.fancy_notation.specs.Tokens.{Token, Opened, Closed, Quoted, Word, Broken}
use Rattle.fancy_notation.specs.Words.{found, assertions, plain_leaves, leaf_of, when, kept, is_numeral, number_of, level_of, count_of, bound_at_least, byte_of}
use Rattle.fancy_notation.specs.Grammar.{Point, in_word, class, literals, joined, parts_of_text, enclosed, named, named_at, Takes, SpellsBytes, no_byte, byte, Spells, text, leaf, formed, SpellsForm, cat, alt, around, repeat, set, bytes, names, names_at, verb, conditional, absent_expression, SpellsParts, no_part, spliced, part}
use Rattle.fancy_notation.specs.Reading.{OneCharEach}

-- ---- words

when_some : {V : Type 0} (b : Bool) (v w : V) → when b v ≡ Some w → (b ≡ true) × (v ≡ w)
when_some true v w e = (refl, cc)
when_some false v w e = absurd (cc)

pub number_fits : (w : List ℕ) (n : ℕ) → number_of w ≡ Some n → IsUsize n
unfolding number_of
number_fits w n e =
    let h = when_some (is_numeral w && ltb (digits_value 10 w) (2 ^ 64)) (digits_value 10 w) n e in
    subst IsUsize h.1 (ltb-true _ _ (and_parts _ _ h.0).1)

kept_some : {V : Type 0} (test : V → Bool) (o : Option V) (v : V) → kept test o ≡ Some v → (test v ≡ true) × (o ≡ Some v)
kept_some test None v e = absurd (cc)
kept_some test (Some u) v e = let h = when_some (test u) u v e in (ap test (sym h.1) ∙ h.0, ap Some h.1)

pub count_fits : (w : List ℕ) (n : ℕ) → count_of w ≡ Some n → IsCount n
unfolding count_of
count_fits w n e = ltb-true _ _ (kept_some (λ n. ltb n (2 ^ 64 - 1)) (number_of w) n e).0

pub byte_fits : (w : List ℕ) (n : ℕ) → byte_of w ≡ Some n → n < 2 ^ 8
unfolding byte_of
byte_fits w n e = let h = leb-true _ _ (kept_some (λ n. leb n 255) (number_of w) n e).0 in omega (arith, h)

pub bound_fits : (lo : ℕ) (w : List ℕ) (hi : Option ℕ) → bound_at_least lo w ≡ Some hi → IfSome hi (λ n. (lo ≤ n) × IsCount n)
unfolding bound_at_least
bound_fits lo w hi e = at_star (bytes_eq w (codes "*")) e
  where
    some_bound : (o : Option ℕ) → kept (λ n. leb lo n) (count_of w) ≡ o → elim o [ Some n ↦ Some (Some n) | None ↦ None ] ≡ Some hi →
        IfSome hi (λ n. (lo ≤ n) × IsCount n)
    some_bound None q e = absurd (cc)
    some_bound (Some n) q e =
        let k = kept_some (λ n. leb lo n) (count_of w) n q in
        let same : Some n ≡ hi = cc in
        subst (λ o. IfSome o (λ n. (lo ≤ n) × IsCount n)) same (leb-true _ _ k.0, count_fits w n k.1)

    at_star : (b : Bool) → cond b (Some None) (elim (kept (λ n. leb lo n) (count_of w)) [ Some n ↦ Some (Some n) | None ↦ None ]) ≡ Some hi →
        IfSome hi (λ n. (lo ≤ n) × IsCount n)
    at_star true e = let same : None ≡ hi = cc in subst (λ o. IfSome o (λ n. (lo ≤ n) × IsCount n)) same tt
    at_star false e = some_bound (kept (λ n. leb lo n) (count_of w)) refl e

fits_below : (n : ℕ) → n < 2 ^ 63 → FitsSigned w64 (pos n)
fits_below n h = fits_in w64 (pos n) (omega (arith, h))

fits_above : (n : ℕ) → n ≤ 2 ^ 63 → FitsSigned w64 (neg_ℤ (pos n))
fits_above n h = fits_in w64 (neg_ℤ (pos n)) (omega (arith, h, neg_is (pos n)))

pub level_fits : (w : List ℕ) (l : ℤ) → level_of w ≡ Some l → FitsSigned w64 l
unfolding level_of
level_fits [] l e = absurd (cc)
level_fits (c ∷ w) l e = at_minus (c == 45) e
  where
    at_minus : (b : Bool) →
        cond b (when (is_numeral w && leb (digits_value 10 w) (2 ^ 63)) (neg_ℤ (pos (digits_value 10 w))))
        (when (is_numeral (c ∷ w) && ltb (digits_value 10 (c ∷ w)) (2 ^ 63)) (pos (digits_value 10 (c ∷ w)))) ≡ Some l → FitsSigned w64 l
    at_minus true e =
        let h = when_some (is_numeral w && leb (digits_value 10 w) (2 ^ 63)) (neg_ℤ (pos (digits_value 10 w))) l e in
        subst (FitsSigned w64) h.1 (fits_above (digits_value 10 w) (leb-true _ _ (and_parts _ _ h.0).1))
    at_minus false e =
        let h = when_some (is_numeral (c ∷ w) && ltb (digits_value 10 (c ∷ w)) (2 ^ 63)) (pos (digits_value 10 (c ∷ w))) l e in
        subst (FitsSigned w64) h.1 (fits_below (digits_value 10 (c ∷ w)) (ltb-true _ _ (and_parts _ _ h.0).1))

-- what holds of a word, of a token
in_word_has : {V : Type 0} (f : List ℕ → Option V) (P : V → Type 0) → ((w : List ℕ) (v : V) → f w ≡ Some v → P v) → (t : Token) (v : V) →
    in_word f t ≡ Some v → P v
in_word_has f P h Opened v e = absurd (cc)
in_word_has f P h Closed v e = absurd (cc)
in_word_has f P h (Quoted b s) v e = absurd (cc)
in_word_has f P h (Word w) v e = h w v e
in_word_has f P h Broken v e = absurd (cc)

pub taken_has : {V : Type 0} {f : List ℕ → Option V} {x y : Point} {v : V} (P : V → Type 0) → ((w : List ℕ) (v : V) → f w ≡ Some v → P v) →
    Takes (in_word f) x v y → P v
taken_has {f = f} {v = v} P h t = in_word_has f P h t.first.token v t.is

-- ---- nodes that are fine but for their texts

AllFine : Tree → Type 0
AllFine e = Each FineBut (nodes e)

RowFine : List Tree → Type 0
RowFine es = Each FineBut (nodes_of_each (trees es))

literals_then : (folded : Bool) (cs : List ℕ) (es : List Tree) → RowFine es → RowFine (map (λ c. plain.Literal c folded) cs ++ es)
unfolding RowFine
literals_then folded [] es h = h
literals_then folded (c ∷ cs) es h = (tt, literals_then folded cs es h)

text_then : (folded : Bool) (s : List ℕ) (es : List Tree) → RowFine es → RowFine (parts_of_text folded s ++ es)
unfolding RowFine
text_then folded [] es h = (tt, h)
text_then folded (b ∷ bs) es h = literals_then folded (chars (b ∷ bs)) es h

joined_fine : (es : List Tree) → RowFine es → AllFine (joined es)
unfolding RowFine AllFine
joined_fine [] h = (tt, tt)
joined_fine (e ∷ []) h = subst (Each FineBut) (append-nil (nodes e)) h
joined_fine (e ∷ d ∷ es) h = (tt, h)

literals_fine : (folded : Bool) (s : List ℕ) → RowFine (literals folded s)
unfolding RowFine
literals_fine folded s = subst RowFine (append-nil (literals folded s)) (literals_then folded (chars s) [] tt)

-- what holds of each row of a table
abbrev pub EachRow : {V : Type 0} → (V → Type 0) → List (List ℕ × V) → Type 0
EachRow P rows = Each (λ row. P row.1) rows

found_has : {V : Type 0} (P : V → Type 0) (rows : List (List ℕ × V)) (w : List ℕ) (v : V) → EachRow P rows → found rows w ≡ Some v → P v
found_has P [] w v h e = absurd (cc)
found_has P (r ∷ rows) w v h e = at_test (bytes_eq w r.0) (λ q. found_has P rows w v h.1 q) e
  where
    at_test : (b : Bool) → (found rows w ≡ Some v → P v) → cond b (Some r.1) (found rows w) ≡ Some v → P v
    at_test true below e = let same : r.1 ≡ v = cc in subst P same h.0
    at_test false below e = below e

-- what holds of assertions and of the other leaves
pub leaf_has : (P : Tree → Type 0) → ((a : plain.Assertion) → P (plain.Assert plain.NoLook a)) → EachRow P plain_leaves → (w : List ℕ) (e : Tree) →
    leaf_of w ≡ Some e → P e
unfolding leaf_of
leaf_has P asserted rows w e is = by_assertion (found assertions w) is
  where
    by_assertion : (o : Option plain.Assertion) → elim o [ Some a ↦ Some (plain.Assert plain.NoLook a) | None ↦ found plain_leaves w ] ≡ Some e → P e
    by_assertion (Some a) q = let same : plain.Assert plain.NoLook a ≡ e = cc in subst P same (asserted a)
    by_assertion None q = found_has P plain_leaves w e rows q

leaf_fine : (w : List ℕ) (e : Tree) → leaf_of w ≡ Some e → AllFine e
unfolding AllFine
leaf_fine w e is = leaf_has AllFine (λ a. (tt, tt))
    ((tt, tt), ((tt, tt), ((tt, tt), ((tt, tt), ((tt, tt), ((tt, tt), ((tt, tt), ((tt, tt), ((tt, tt), tt))))))))) w e is

enclosed_fine : (f : Enclosing) (e : Tree) → AllFine e → AllFine (enclosed f e)
unfolding AllFine
enclosed_fine enclosing.Group e h = (tt, h)
enclosed_fine enclosing.Atomic e h = (tt, h)
enclosed_fine enclosing.Define e h = (tt, h)
enclosed_fine (enclosing.Look l) e h = (tt, h)
enclosed_fine enclosing.AbsentRepeater e h = (tt, h)
enclosed_fine enclosing.AbsentStopper e h = (tt, h)

named_fine : (f : Naming) (g : ℕ) → IsUsize g → AllFine (named f g)
unfolding AllFine
named_fine (naming.Backref casei) g h = (h, tt)
named_fine naming.Exists g h = ((h, tt), tt)
named_fine naming.Call g h = (h, tt)

named_at_fine : (f : Leveled) (g : ℕ) (l : ℤ) → IsUsize g → FitsSigned w64 l → AllFine (named_at f g l)
unfolding AllFine
named_at_fine leveled.Backref g l h k = ((h, k), tt)
named_at_fine leveled.Exists g l h k = ((h, k), tt)

class_fine : (casei : Bool) (s : List ℕ) (t : Token) → class t ≡ Some s → AllFine (plain.Delegate s casei)
unfolding AllFine
class_fine casei [] Opened e = absurd (cc)
class_fine casei [] Closed e = absurd (cc)
class_fine casei [] (Quoted true u) e = absurd (cc)
class_fine casei [] (Quoted false []) e = absurd (cc)
class_fine casei [] (Quoted false (b ∷ bs)) e = absurd (cc)
class_fine casei [] (Word w) e = absurd (cc)
class_fine casei [] Broken e = absurd (cc)
class_fine casei (b ∷ bs) t e = (tt, tt)

bytes_fit : {x y : Point} {bs : List ℕ} → SpellsBytes x y bs → Each (λ c. c < 2 ^ 8) bs
bytes_fit (no_byte t) = tt
bytes_fit (byte t more) = (taken_has (λ c. c < 2 ^ 8) byte_fits t, bytes_fit more)

mutual
  unfolding AllFine RowFine

  pub node_fine : {x y : Point} {e : Tree} → Spells x y e → Each FineBut (nodes e)
  node_fine (text {folded = folded} {bytes = s} t) = joined_fine (literals folded s) (literals_fine folded s)
  node_fine (leaf t) = taken_has AllFine leaf_fine t
  node_fine (formed b f) = form_fine f

  form_fine : {f : Form} {x y : Point} {e : Tree} → SpellsForm f x y e → Each FineBut (nodes e)
  form_fine (cat ps) = (tt, parts_fine ps)
  form_fine (alt {e = e} {es = es} s ps) = (tt, each_append FineBut (nodes e) (nodes_of_each (trees es)) (node_fine s) (parts_fine ps))
  form_fine (around {f = f} {e = e} s c) = enclosed_fine f e (node_fine s)
  form_fine (repeat {lo = lo} lo_is hi_is s c) =
      ((taken_has IsCount count_fits lo_is, taken_has (λ hi. IfSome hi (λ n. (lo ≤ n) × IsCount n)) (bound_fits lo) hi_is), node_fine s)
  form_fine (set {casei = casei} {inner = s} t c) = class_fine casei s t.first.token t.is
  form_fine (bytes {bs = bs} t) = (each_all (λ c. c < 2 ^ 8) bs (bytes_fit t), tt)
  form_fine (names {f = f} {g = g} n c) = named_fine f g (taken_has IsUsize number_fits n)
  form_fine (names_at {f = f} {g = g} {l = l} n v c) = named_at_fine f g l (taken_has IsUsize number_fits n) (taken_has (FitsSigned w64) level_fits v)
  form_fine (verb v c) = (tt, tt)
  form_fine (conditional {c = c} {t = t} {f = f} a b d s) =
      (tt, each_append FineBut (nodes c) (nodes t ++ nodes f) (node_fine a) (each_append FineBut (nodes t) (nodes f) (node_fine b) (node_fine d)))
  form_fine (absent_expression {a = a} {e = e} s v c) = (tt, each_append FineBut (nodes a) (nodes e) (node_fine s) (node_fine v))

  parts_fine : {splices : Bool} {x y : Point} {es : List Tree} → SpellsParts splices x y es → Each FineBut (nodes_of_each (trees es))
  parts_fine (no_part t) = tt
  parts_fine (spliced {folded = folded} {bytes = s} {es = es} t more) = text_then folded s es (parts_fine more)
  parts_fine (part {e = e} {es = es} plain s more) = each_append FineBut (nodes e) (nodes_of_each (trees es)) (node_fine s) (parts_fine more)

-- ---- expressions

pub sound_if_spelled : {x y : Point} (e : Expr) → Spells x y (tree_of e) → OneCharEach e → AllSound e
sound_if_spelled e s k = sound_if_fine_but e (node_fine s) k
