-- No more groups are opened than a tree may have.
use Rattle.std.proofs.Common.{◌≡◌, ℕ, suc, ◌≤◌, Bool, true, false, cond, List, Option, Some, None, sym, ap, subst, refl, arith, ltb, ltb-true}
use Rattle.fancy_meaning.specs.Tree.{Tree}
use Rattle.fancy_meaning.specs.Nodes.{group_count}
use Rattle.fancy_meaning.specs.WellFormed.{most_groups}
use Rattle.fancy_notation.specs.declared.forms.Enclosing.TheVariants as enclosing
use Rattle.fancy_notation.specs.declared.forms.Form.{Form}
use Rattle.fancy_notation.specs.declared.forms.Form.TheVariants as form
use Rattle.fancy_notation.specs.Words.{form_of}
use Rattle.fancy_notation.specs.Tokens.{Token, Opened, Closed, Quoted, Word, Broken}
use Rattle.fancy_notation.specs.Grammar.{Point, in_word, counted, head_word, Begins, SpellsBytes, no_byte, byte, Spells, text, leaf, formed, SpellsForm, cat, alt, around, repeat, set, bytes, names, names_at, verb, conditional, absent_expression, SpellsParts, no_part, spliced, part}
use Rattle.fancy_notation.proofs.Counting.{spelled_groups}

Few : ℕ → Type 0
Few g = g ≤ most_groups

same : (h f : Form) (g n : ℕ) → Few g → ◌≡◌ {A = Option (Form × ℕ)} (Some (h, g)) (Some (f, n)) → Few n
same h f g n few e = let p : ◌≡◌ {A = Form × ℕ} (h, g) (f, n) = cc in subst Few (ap (λ q. q.1) p) few

one_more : (b : Bool) (f : Form) (g n : ℕ) → ltb g most_groups ≡ b →
    ◌≡◌ {A = Option (Form × ℕ)} (cond b (Some (form.Enclosing enclosing.Group, suc g)) None) (Some (f, n)) → Few n
unfolding Few
one_more true f g n less e =
    let p : ◌≡◌ {A = Form × ℕ} (form.Enclosing enclosing.Group, suc g) (f, n) = cc in
    subst (λ k. k ≤ most_groups) (ap (λ q. q.1) p) (ltb-true g most_groups less)
one_more false f g n less e = absurd (cc)

counted_few : (h f : Form) (g n : ℕ) → Few g → counted g h ≡ Some (f, n) → Few n
counted_few (form.Enclosing enclosing.Group) f g n few e = one_more (ltb g most_groups) f g n refl e
counted_few h f g n few e = same h f g n few e

head_few : (g : ℕ) (w : List ℕ) (f : Form) (n : ℕ) → Few g → head_word g w ≡ Some (f, n) → Few n
head_few g w f n few e = at_form (form_of w) e
  where
    at_form : (o : Option Form) → ◌≡◌ {A = Option (Form × ℕ)} (elim o [ Some h ↦ counted g h | None ↦ None ]) (Some (f, n)) → Few n
    at_form (Some h) e = counted_few h f g n few e
    at_form None e = absurd (cc)

token_few : (g : ℕ) (t : Token) (f : Form) (n : ℕ) → Few g → in_word (head_word g) t ≡ Some (f, n) → Few n
token_few g Opened f n few is = absurd (cc)
token_few g Closed f n few is = absurd (cc)
token_few g (Quoted b s) f n few is = absurd (cc)
token_few g (Word w) f n few is = head_few g w f n few is
token_few g Broken f n few is = absurd (cc)

begun_few : {x : Point} {f : Form} {z : Point} → Begins x f z → Few x.groups → Few z.groups
begun_few {f = f} {z = z} b few = token_few b.y.groups b.head.first.token f z.groups (subst Few (sym b.opened.groups) few) b.head.is

kept : {g h : ℕ} → h ≡ g → Few g → Few h
kept e few = subst Few (sym e) few

bytes_few : {x y : Point} {bs : List ℕ} → SpellsBytes x y bs → Few x.groups → Few y.groups
bytes_few (no_byte t) few = kept t.groups few
bytes_few (byte t more) few = bytes_few more (kept t.groups few)

mutual
  node_few : {x y : Point} {e : Tree} → Spells x y e → Few x.groups → Few y.groups
  node_few (text t) few = kept t.groups few
  node_few (leaf t) few = kept t.groups few
  node_few (formed b f) few = form_few f (begun_few b few)

  form_few : {f : Form} {x y : Point} {e : Tree} → SpellsForm f x y e → Few x.groups → Few y.groups
  form_few (cat ps) few = parts_few ps few
  form_few (alt s ps) few = parts_few ps (node_few s few)
  form_few (around s c) few = kept c.groups (node_few s few)
  form_few (repeat lo hi s c) few = kept c.groups (node_few s (kept hi.groups (kept lo.groups few)))
  form_few (set s c) few = kept c.groups (kept s.groups few)
  form_few (bytes bs) few = bytes_few bs few
  form_few (names n c) few = kept c.groups (kept n.groups few)
  form_few (names_at n v c) few = kept c.groups (kept v.groups (kept n.groups few))
  form_few (verb v c) few = kept c.groups (kept v.groups few)
  form_few (conditional a b d s) few = kept s.groups (node_few d (node_few b (node_few a few)))
  form_few (absent_expression s v c) few = kept c.groups (node_few v (node_few s few))

  parts_few : {splices : Bool} {x y : Point} {es : List Tree} → SpellsParts splices x y es → Few x.groups → Few y.groups
  parts_few (no_part t) few = kept t.groups few
  parts_few (spliced t more) few = parts_few more (kept t.groups few)
  parts_few (part plain s more) few = parts_few more (node_few s few)

pub spelled_few : {x y : Point} {e : Tree} → Spells x y e → x.groups ≡ 0 → group_count e ≤ most_groups
unfolding Few
spelled_few s none = subst (λ n. n ≤ most_groups) (spelled_groups s none) (node_few s (subst Few (sym none) (omega arith)))
