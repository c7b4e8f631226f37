-- Tokens spell one tree.
use Rattle.std.proofs.Common.{◌≡◌, ℕ, Bool, false, List, [], ◌∷◌, ◌++◌, Option, Some, None, refl, sym, ap, ◌∙◌, subst}
use Rattle.fancy_meaning.specs.Tree as plain
use Rattle.fancy_meaning.specs.Tree.{Tree, trees}
use Rattle.fancy_notation.specs.declared.forms.Form.{Form}
use Rattle.fancy_notation.specs.Tokens.{Token, Placed, Opened, Closed, Quoted, Word, Broken}
use Rattle.fancy_notation.specs.Words.{bound_at_least}
use Rattle.fancy_notation.specs.Grammar.{Point, in_word, opening, closing, quoted, head_word, is_at_text, literals, joined, parts_of_text, enclosed, named, named_at, Takes, Begins, SpellsBytes, no_byte, byte, Spells, text, leaf, formed, SpellsForm, cat, alt, around, repeat, set, bytes, names, names_at, verb, conditional, absent_expression, SpellsParts, no_part, spliced, part, IsSpelled}
use Rattle.fancy_notation.specs.Reading.{first_gives}
use Rattle.fancy_notation.proofs.Stack.{first_is, not_closing, text_not_closing}

-- a value, and the point behind it
abbrev Same : {V : Type 0} → V → Point → V → Point → Type 0
Same v y w z = (v ≡ w) × (y ≡ z)

same_point : {g h : ℕ} {ts us : List Placed} → g ≡ h → ts ≡ us → ◌≡◌ {A = Point} (record { groups = g; tokens = ts }) (record { groups = h; tokens = us })
same_point {g} {h} {ts} {us} p q = ap (λ n. record { groups = n; tokens = ts }) p ∙ ap (λ l. record { groups = h; tokens = l }) q

pub one_token : {V : Type 0} {gives : Token → Option V} {x x' : Point} {v w : V} {y z : Point} → x ≡ x' → Takes gives x v y → Takes gives x' w z → Same v y w z
one_token {V} {gives} {v = v} {w = w} q s t =
    let e : s.first ∷ _ ≡ t.first ∷ _ = sym s.tokens ∙ ap (λ x. x.tokens) q ∙ t.tokens in
    let first : s.first ≡ t.first = cc in
    let gift : Some v ≡ Some w = sym s.is ∙ ap (λ p. gives p.token) first ∙ t.is in
    (cc, same_point (s.groups ∙ ap (λ x. x.groups) q ∙ sym t.groups) (cc))

-- where different kinds of tokens stand
quoted_or_word : {G V : Type 0} (f : List ℕ → Option V) (q : Bool × List ℕ) (v : V) (t : Token) → quoted t ≡ Some q → in_word f t ≡ Some v → G
quoted_or_word f q v Opened a b = absurd (cc)
quoted_or_word f q v Closed a b = absurd (cc)
quoted_or_word f q v (Quoted c s) a b = absurd (cc)
quoted_or_word f q v (Word w) a b = absurd (cc)
quoted_or_word f q v Broken a b = absurd (cc)

quoted_or_open : {G : Type 0} (q : Bool × List ℕ) (t : Token) → quoted t ≡ Some q → opening t ≡ Some tt → G
quoted_or_open q Opened a b = absurd (cc)
quoted_or_open q Closed a b = absurd (cc)
quoted_or_open q (Quoted c s) a b = absurd (cc)
quoted_or_open q (Word w) a b = absurd (cc)
quoted_or_open q Broken a b = absurd (cc)

word_or_open : {G V : Type 0} (f : List ℕ → Option V) (v : V) (t : Token) → in_word f t ≡ Some v → opening t ≡ Some tt → G
word_or_open f v Opened a b = absurd (cc)
word_or_open f v Closed a b = absurd (cc)
word_or_open f v (Quoted c s) a b = absurd (cc)
word_or_open f v (Word w) a b = absurd (cc)
word_or_open f v Broken a b = absurd (cc)

word_or_close : {G V : Type 0} (f : List ℕ → Option V) (v : V) (t : Token) → in_word f t ≡ Some v → closing t ≡ Some tt → G
word_or_close f v Opened a b = absurd (cc)
word_or_close f v Closed a b = absurd (cc)
word_or_close f v (Quoted c s) a b = absurd (cc)
word_or_close f v (Word w) a b = absurd (cc)
word_or_close f v Broken a b = absurd (cc)

-- both tokens are the same, which cannot be
clash : {G V W : Type 0} {gives : Token → Option V} {others : Token → Option W} {x x' : Point} {v : V} {w : W} {y z : Point} →
    ((t : Token) → gives t ≡ Some v → others t ≡ Some w → G) → x ≡ x' → Takes gives x v y → Takes others x' w z → G
clash {gives = gives} never q s t =
    let e : s.first ∷ _ ≡ t.first ∷ _ = sym s.tokens ∙ ap (λ x. x.tokens) q ∙ t.tokens in
    let first : s.first ≡ t.first = cc in
    never t.first.token (ap (λ p. gives p.token) (sym first) ∙ s.is) t.is

not_closed : {G : Type 0} {x x' y z : Point} {e : Tree} → x ≡ x' → Spells x y e → Takes closing x' tt z → G
not_closed q s t =
    let h : None ≡ Some tt = sym (not_closing s) ∙ ap (λ x. first_gives closing x.tokens) q ∙ first_is t closing ∙ t.is in
    absurd (cc)

not_shut : {G W : Type 0} {others : Token → Option W} {x x' : Point} {w : W} {y z : Point} {u : Placed} → closing u.token ≡ None → x ≡ x' →
    Takes closing x tt y → (t : Takes others x' w z) → t.first ≡ u → G
not_shut never q s t same =
    let h : None ≡ Some tt =
    sym never ∙ ap (λ p. closing p.token) (sym same) ∙ sym (first_is t closing) ∙ ap (λ x. first_gives closing x.tokens) (sym q) ∙ first_is s closing
    ∙ s.is in
    absurd (cc)

not_text : {G : Type 0} {x x' z : Point} {b : Bool × List ℕ} → x ≡ x' → is_at_text x.tokens ≡ false → Takes quoted x' b z → G
not_text q h t = by_kind t.first.token t.is (sym (ap (λ l. is_at_text l) (ap (λ x. x.tokens) q ∙ t.tokens)) ∙ h)
  where
    by_kind : {G : Type 0} {b : Bool × List ℕ} (u : Token) → quoted u ≡ Some b → is_at_text (record { at = t.first.at; token = u } ∷ []) ≡ false → G
    by_kind Opened a c = absurd (cc)
    by_kind Closed a c = absurd (cc)
    by_kind (Quoted f s) a c = absurd (cc)
    by_kind (Word w) a c = absurd (cc)
    by_kind Broken a c = absurd (cc)

of_form : {f g : Form} {x y : Point} {e : Tree} → f ≡ g → SpellsForm g x y e → SpellsForm f x y e
of_form {x = x} {y = y} {e = e} q s = subst (λ k. SpellsForm k x y e) (sym q) s

from_bound : {l k : ℕ} {x y : Point} {hi : Option ℕ} → l ≡ k → Takes (in_word (bound_at_least k)) x hi y → Takes (in_word (bound_at_least l)) x hi y
from_bound {x = x} {y = y} {hi = hi} q t = subst (λ n. Takes (in_word (bound_at_least n)) x hi y) (sym q) t

one_head : {x x' : Point} {f g : Form} {y z : Point} → x ≡ x' → Begins x f y → Begins x' g z → Same f y g z
one_head q a b =
    let o = one_token q a.opened b.opened in
    let h = one_token o.1 a.head (subst (λ n. Takes (in_word (head_word n)) b.y _ b.after) (sym (ap (λ x. x.groups) o.1)) b.head) in
    (ap (λ p. p.0) h.0, same_point (ap (λ p. p.1) h.0) (a.tokens ∙ ap (λ x. x.tokens) h.1 ∙ sym b.tokens))

one_bytes : {x x' y z : Point} {bs cs : List ℕ} → x ≡ x' → SpellsBytes x y bs → SpellsBytes x' z cs → Same bs y cs z
one_bytes q (no_byte s) (no_byte t) = (refl, (one_token q s t).1)
one_bytes q (no_byte s) (byte t more) = clash (λ t a b. word_or_close _ _ t b a) q s t
one_bytes q (byte s more) (no_byte t) = clash (word_or_close _ _) q s t
one_bytes q (byte {bs = bs} s more) (byte {b = c} t rest) =
    let h = one_token q s t in
    let r = one_bytes h.1 more rest in
    (ap (λ n. n ∷ bs) h.0 ∙ ap (λ l. c ∷ l) r.0, r.1)

mutual
  one_node : {x x' y z : Point} {a b : Tree} → x ≡ x' → Spells x y a → Spells x' z b → Same a y b z
  one_node q (text s) (text t) = let r = one_token q s t in (ap (λ p. joined (literals p.0 p.1)) r.0, r.1)
  one_node q (text s) (leaf t) = clash (quoted_or_word _ _ _) q s t
  one_node q (text s) (formed b f) = clash (quoted_or_open _) q s b.opened
  one_node q (leaf s) (text t) = clash (λ t a b. quoted_or_word _ _ _ t b a) q s t
  one_node q (leaf s) (leaf t) = one_token q s t
  one_node q (leaf s) (formed b f) = clash (word_or_open _ _) q s b.opened
  one_node q (formed b f) (text t) = clash (λ t a b. quoted_or_open _ t b a) q b.opened t
  one_node q (formed b f) (leaf t) = clash (λ t a b. word_or_open _ _ t b a) q b.opened t
  one_node q (formed b f) (formed c g) = let h = one_head q b c in one_form h.1 f (of_form h.0 g)

  one_form : {f : Form} {x x' y z : Point} {a b : Tree} → x ≡ x' → SpellsForm f x y a → SpellsForm f x' z b → Same a y b z
  one_form q (cat ps) (cat qs) = let r = one_parts q ps qs in (ap (λ l. plain.Concat (trees l)) r.0, r.1)
  one_form q (alt {es = es} s ps) (alt {e = d} t qs) =
      let h = one_node q s t in
      let r = one_parts h.1 ps qs in
      (ap (λ e. plain.Alt (trees (e ∷ es))) h.0 ∙ ap (λ l. plain.Alt (trees (d ∷ l))) r.0, r.1)
  one_form q (around {f = f} s c) (around t d) =
      let h = one_node q s t in
      (ap (enclosed f) h.0, (one_token h.1 c d).1)
  one_form q (repeat {greedy = greedy} {lo = lo} {hi = hi} {e = e} a b s c) (repeat {lo = l} {hi = h} a' b' t d) =
      let n = one_token q a a' in
      let m = one_token n.1 b (from_bound n.0 b') in
      let r = one_node m.1 s t in
      (ap (λ k. plain.Repeat k hi greedy e) n.0 ∙ ap (λ k. plain.Repeat l k greedy e) m.0 ∙ ap (plain.Repeat l h greedy) r.0, (one_token r.1 c d).1)
  one_form q (set {casei = casei} s c) (set t d) =
      let h = one_token q s t in
      (ap (λ w. plain.Delegate w casei) h.0, (one_token h.1 c d).1)
  one_form q (bytes s) (bytes t) = let r = one_bytes q s t in (ap plain.LiteralBytes r.0, r.1)
  one_form q (names {f = f} s c) (names t d) =
      let h = one_token q s t in
      (ap (named f) h.0, (one_token h.1 c d).1)
  one_form q (names_at {f = f} {g = g} {l = l} s a c) (names_at {g = g'} t b d) =
      let h = one_token q s t in
      let k = one_token h.1 a b in
      (ap (λ n. named_at f n l) h.0 ∙ ap (named_at f g') k.0, (one_token k.1 c d).1)
  one_form q (verb s c) (verb t d) =
      let h = one_token q s t in
      (ap plain.Control h.0, (one_token h.1 c d).1)
  one_form q (conditional {c = c} {t = t} {f = f} a b d s) (conditional {c = c'} {t = t'} a' b' d' s') =
      let h = one_node q a a' in
      let j = one_node h.1 b b' in
      let k = one_node j.1 d d' in
      (ap (λ e. plain.Conditional e t f) h.0 ∙ ap (λ e. plain.Conditional c' e f) j.0 ∙ ap (plain.Conditional c' t') k.0, (one_token k.1 s s').1)
  one_form q (absent_expression {e = e} s a c) (absent_expression {a = a'} t b d) =
      let h = one_node q s t in
      let k = one_node h.1 a b in
      (ap (λ n. plain.AbsentExpression n e) h.0 ∙ ap (plain.AbsentExpression a') k.0, (one_token k.1 c d).1)

  one_parts : {splices : Bool} {x x' y z : Point} {es ds : List Tree} → x ≡ x' → SpellsParts splices x y es → SpellsParts splices x' z ds → Same es y ds z
  one_parts q (no_part s) (no_part t) = (refl, (one_token q s t).1)
  one_parts q (no_part s) (spliced t more) = not_shut (text_not_closing _ _ t.is) q s t refl
  one_parts q (no_part s) (part plain t more) = not_closed (sym q) t s
  one_parts q (spliced s more) (no_part t) = not_shut (text_not_closing _ _ s.is) (sym q) t s refl
  one_parts q (spliced {es = es} s more) (spliced {folded = folded} {bytes = b} t rest) =
      let h = one_token q s t in
      let r = one_parts h.1 more rest in
      (ap (λ p. parts_of_text p.0 p.1 ++ es) h.0 ∙ ap (λ l. parts_of_text folded b ++ l) r.0, r.1)
  one_parts q (spliced s more) (part plain t rest) = not_text (sym q) (plain refl) s
  one_parts q (part plain s more) (no_part t) = not_closed q s t
  one_parts q (part plain s more) (spliced t rest) = not_text q (plain refl) t
  one_parts q (part {es = es} plain s more) (part {e = e} other t rest) =
      let h = one_node q s t in
      let r = one_parts h.1 more rest in
      (ap (λ n. n ∷ es) h.0 ∙ ap (λ l. e ∷ l) r.0, r.1)

pub one_spelling : (ts : List Placed) (a b : Tree) → IsSpelled ts a → IsSpelled ts b → a ≡ b
one_spelling ts a b s t = (one_node refl s.spells t.spells).0
