-- The groups that are opened are the groups of the tree.
use Rattle.std.proofs.Common.{◌≡◌, ℕ, suc, ◌+◌, Bool, true, false, cond, List, [], ◌∷◌, ◌++◌, length, map, filter_map, Option, Some, None, chars, refl, ap, ◌∙◌, subst, arith, ltb, length-append, bytes_eq}
use Rattle.std.specs.Prelude.{ℤ}
use Rattle.std.proofs.lemmas.List.Elements.{filter_map-append}
use Rattle.fancy_meaning.specs.Tree.{Tree, trees, Literal, Assertion, Assert, NoLook}
use Rattle.fancy_meaning.specs.Nodes.{nodes, nodes_of_each, as_group, groups, group_count}
use Rattle.fancy_meaning.specs.WellFormed.{most_groups}
use Rattle.fancy_expr.proofs.TreeGroups.{count, count-append, row, row-more}
use Rattle.fancy_notation.specs.declared.forms.Enclosing.{Enclosing}
use Rattle.fancy_notation.specs.declared.forms.Enclosing.TheVariants as enclosing
use Rattle.fancy_notation.specs.declared.forms.Naming.{Naming}
use Rattle.fancy_notation.specs.declared.forms.Naming.TheVariants as naming
use Rattle.fancy_notation.specs.declared.forms.Leveled.{Leveled}
use Rattle.fancy_notation.specs.declared.forms.Leveled.TheVariants as leveled
use Rattle.fancy_notation.specs.declared.forms.Form.{Form}
use Rattle.fancy_notation.specs.declared.forms.Form.TheVariants as form
use Rattle.fancy_notation.specs.Tokens.{Token, Opened, Closed, Quoted, Word, Broken}
use Rattle.fancy_notation.specs.Words.{leaf_of, form_of, found, assertions, plain_leaves}
use Rattle.fancy_notation.specs.Grammar.{Point, in_word, counted, head_word, literals, joined, parts_of_text, enclosed, named, named_at, Begins, SpellsBytes, no_byte, byte, Spells, text, leaf, formed, SpellsForm, cat, alt, around, repeat, set, bytes, names, names_at, verb, conditional, absent_expression, SpellsParts, no_part, spliced, part}

-- one more group where the form is a group
opened : Form → ℕ
opened (form.Enclosing enclosing.Group) = 1
opened f = 0

row-append : (a b : List Tree) → row (a ++ b) ≡ row a + row b
unfolding row count
row-append [] b = omega arith
row-append (e ∷ a) b = omega (arith, row-more e (a ++ b), row-more e a, row-append a b)

no_literal : (folded : Bool) (cs : List ℕ) → row (map (λ c. Literal c folded) cs) ≡ 0
unfolding row count
no_literal folded [] = refl
no_literal folded (c ∷ cs) = no_literal folded cs

parts_none : (folded : Bool) (s : List ℕ) → row (parts_of_text folded s) ≡ 0
unfolding row count
parts_none folded [] = refl
parts_none folded (b ∷ bs) = no_literal folded (chars (b ∷ bs))

joined_none : (es : List Tree) → row es ≡ 0 → count (nodes (joined es)) ≡ 0
unfolding row count
joined_none [] h = refl
joined_none (e ∷ []) h = omega (arith, h, count-append (nodes e) [])
joined_none (e ∷ d ∷ es) h = h

unfoldable pub rows_have : {V : Type 0} → (V → Type 0) → List (List ℕ × V) → Type 0
rows_have P [] = Unit {0}
rows_have P (r ∷ rows) = P r.1 × rows_have P rows

none_counted : Tree → Type 0
none_counted e = count (nodes e) ≡ 0

pub found_has : {V : Type 0} (P : V → Type 0) (rows : List (List ℕ × V)) (w : List ℕ) (v : V) → rows_have P rows → found rows w ≡ Some v → P v
unfolding rows_have
found_has P [] w v h e = absurd (cc)
found_has P (r ∷ rows) w v h e = at_test (bytes_eq w r.0) (λ q. found_has P rows w v h.1 q) e
  where
    at_test : (b : Bool) → (found rows w ≡ Some v → P v) → cond b (Some r.1) (found rows w) ≡ Some v → P v
    at_test true below e = let same : r.1 ≡ v = cc in subst P same h.0
    at_test false below e = below e

leaf_none : (w : List ℕ) (e : Tree) → leaf_of w ≡ Some e → count (nodes e) ≡ 0
unfolding leaf_of none_counted rows_have count
leaf_none w e is = by_assertion (found assertions w) is
  where
    by_assertion : (o : Option Assertion) → elim o [ Some a ↦ Some (Assert NoLook a) | None ↦ found plain_leaves w ] ≡ Some e → count (nodes e) ≡ 0
    by_assertion (Some a) q = let same : Assert NoLook a ≡ e = cc in subst (λ t. count (nodes t) ≡ 0) same refl
    by_assertion None q = found_has none_counted plain_leaves w e (refl, (refl, (refl, (refl, (refl, (refl, (refl, (refl, (refl, tt))))))))) q

leaf_token : (e : Tree) (t : Token) → in_word leaf_of t ≡ Some e → count (nodes e) ≡ 0
leaf_token e Opened is = absurd (cc)
leaf_token e Closed is = absurd (cc)
leaf_token e (Quoted f s) is = absurd (cc)
leaf_token e (Word w) is = leaf_none w e is
leaf_token e Broken is = absurd (cc)

same_form : (h f : Form) (g n : ℕ) → ◌≡◌ {A = Option (Form × ℕ)} (Some (h, g)) (Some (f, n)) → opened h ≡ 0 → n ≡ g + opened f
same_form h f g n e none =
    let p : ◌≡◌ {A = Form × ℕ} (h, g) (f, n) = cc in
    omega (arith, ap (λ q. q.1) p, none, ap (λ q. opened q.0) p)

group_form : (b : Bool) (f : Form) (g n : ℕ) → ◌≡◌ {A = Option (Form × ℕ)} (cond b (Some (form.Enclosing enclosing.Group, suc g)) None) (Some (f, n)) →
    n ≡ g + opened f
unfolding opened
group_form true f g n e =
    let p : ◌≡◌ {A = Form × ℕ} (form.Enclosing enclosing.Group, suc g) (f, n) = cc in
    omega (arith, ap (λ q. q.1) p, ap (λ q. opened q.0) p)
group_form false f g n e = absurd (cc)

counted_form : (h f : Form) (g n : ℕ) → counted g h ≡ Some (f, n) → n ≡ g + opened f
unfolding opened
counted_form (form.Enclosing enclosing.Group) f g n e = group_form (ltb g most_groups) f g n e
counted_form h f g n e = same_form h f g n e refl

head_form : (g : ℕ) (w : List ℕ) (f : Form) (n : ℕ) → head_word g w ≡ Some (f, n) → n ≡ g + opened f
head_form g w f n e = at_form (form_of w) e
  where
    at_form : (o : Option Form) → ◌≡◌ {A = Option (Form × ℕ)} (elim o [ Some h ↦ counted g h | None ↦ None ]) (Some (f, n)) → n ≡ g + opened f
    at_form (Some h) e = counted_form h f g n e
    at_form None e = absurd (cc)

head_token : (g : ℕ) (t : Token) (f : Form) (n : ℕ) → in_word (head_word g) t ≡ Some (f, n) → n ≡ g + opened f
head_token g Opened f n is = absurd (cc)
head_token g Closed f n is = absurd (cc)
head_token g (Quoted b s) f n is = absurd (cc)
head_token g (Word w) f n is = head_form g w f n is
head_token g Broken f n is = absurd (cc)

begun_groups : {x : Point} {f : Form} {z : Point} → Begins x f z → z.groups ≡ x.groups + opened f
begun_groups {f = f} {z = z} b = omega (arith, b.opened.groups, head_token b.y.groups b.head.first.token f z.groups b.head.is)

enclosed_count : (f : Enclosing) (e : Tree) → count (nodes (enclosed f e)) ≡ opened (form.Enclosing f) + count (nodes e)
unfolding count opened
enclosed_count enclosing.Group e = omega arith
enclosed_count enclosing.Atomic e = omega arith
enclosed_count enclosing.Define e = omega arith
enclosed_count (enclosing.Look l) e = omega arith
enclosed_count enclosing.AbsentRepeater e = omega arith
enclosed_count enclosing.AbsentStopper e = omega arith

named_count : (f : Naming) (g : ℕ) → count (nodes (named f g)) ≡ 0
unfolding count
named_count (naming.Backref casei) g = refl
named_count naming.Exists g = refl
named_count naming.Call g = refl

named_at_count : (f : Leveled) (g : ℕ) (l : ℤ) → count (nodes (named_at f g l)) ≡ 0
unfolding count
named_at_count leveled.Backref g l = refl
named_at_count leveled.Exists g l = refl

bytes_groups : {x y : Point} {bs : List ℕ} → SpellsBytes x y bs → y.groups ≡ x.groups
bytes_groups (no_byte t) = t.groups
bytes_groups (byte t more) = bytes_groups more ∙ t.groups

mutual
  unfolding count row opened

  node_groups : {x y : Point} {e : Tree} → Spells x y e → y.groups ≡ x.groups + count (nodes e)
  node_groups (text {folded = folded} {bytes = s} t) = omega (arith, t.groups, joined_none (literals folded s) (no_literal folded (chars s)))
  node_groups (leaf {e = e} t) = omega (arith, t.groups, leaf_token e t.first.token t.is)
  node_groups (formed b f) = omega (arith, begun_groups b, form_groups f)

  form_groups : {f : Form} {x y : Point} {e : Tree} → SpellsForm f x y e → y.groups + opened f ≡ x.groups + count (nodes e)
  form_groups (cat ps) = omega (arith, parts_groups ps)
  form_groups (alt {e = e} {es = es} s ps) = omega (arith, node_groups s, parts_groups ps, count-append (nodes e) (nodes_of_each (trees es)))
  form_groups (around {f = f} {e = e} s c) = omega (arith, node_groups s, c.groups, enclosed_count f e)
  form_groups (repeat lo hi s c) = omega (arith, lo.groups, hi.groups, node_groups s, c.groups)
  form_groups (set s c) = omega (arith, s.groups, c.groups)
  form_groups (bytes bs) = omega (arith, bytes_groups bs)
  form_groups (names {f = f} {g = g} n c) = omega (arith, n.groups, c.groups, named_count f g)
  form_groups (names_at {f = f} {g = g} {l = l} n v c) = omega (arith, n.groups, v.groups, c.groups, named_at_count f g l)
  form_groups (verb v c) = omega (arith, v.groups, c.groups)
  form_groups (conditional {c = c} {t = t} {f = f} a b d s) =
      omega (arith, node_groups a, node_groups b, node_groups d, s.groups, count-append (nodes c) (nodes t ++ nodes f), count-append (nodes t) (nodes f))
  form_groups (absent_expression {a = a} {e = e} s v c) = omega (arith, node_groups s, node_groups v, c.groups, count-append (nodes a) (nodes e))

  parts_groups : {splices : Bool} {x y : Point} {es : List Tree} → SpellsParts splices x y es → y.groups ≡ x.groups + row es
  parts_groups (no_part t) = omega (arith, t.groups)
  parts_groups (spliced {folded = folded} {bytes = s} {es = es} t more) =
      omega (arith, t.groups, parts_groups more, row-append (parts_of_text folded s) es, parts_none folded s)
  parts_groups (part {e = e} {es = es} plain s more) = omega (arith, node_groups s, parts_groups more, count-append (nodes e) (nodes_of_each (trees es)))

pub spelled_groups : {x y : Point} {e : Tree} → Spells x y e → x.groups ≡ 0 → y.groups ≡ group_count e
unfolding group_count groups count
spelled_groups s none = omega (arith, node_groups s, none)
