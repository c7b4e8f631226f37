-- What stands is spelled: where the stack of what may come next comes to its end, the tokens spell a tree.
use Rattle.std.proofs.Common.{◌≡◌, ℕ, zero, suc, ◌+◌, ◌*◌, ◌<◌, Bool, true, false, List, [], ◌∷◌, ◌++◌, length, Option, Some, None, refl, sym, ap, ◌∙◌, arith}
use Rattle.fancy_meaning.specs.Tree as plain
use Rattle.fancy_meaning.specs.Tree.{Tree, trees}
use Rattle.fancy_notation.specs.declared.forms.Form.{Form}
use Rattle.fancy_notation.specs.declared.forms.Form.TheVariants as form
use Rattle.fancy_notation.specs.Tokens.{Token, Placed, Opened, Closed, Quoted, Word, Broken}
use Rattle.fancy_notation.specs.Words.{leaf_of, verb_of, number_of, level_of, count_of, bound_at_least, byte_of}
use Rattle.fancy_notation.specs.Grammar.{Point, in_word, closing, class, head_word, is_at_text, literals, joined, parts_of_text, enclosed, named, named_at, Takes, Begins, SpellsBytes, no_byte, byte, Spells, text, leaf, formed, SpellsForm, cat, alt, around, repeat, set, bytes, names, names_at, verb, conditional, absent_expression, SpellsParts, no_part, spliced, part, IsSpelled}
use Rattle.fancy_notation.specs.Misfit.{Want, Node, Head, Shut, Parts, Count, Bound, Number, Level, Bytes, Class, VerbName, wants, with_groups, given, next_step, misfit}
use Rattle.fancy_notation.specs.Reading.{first_gives}
use Rattle.fancy_notation.proofs.Stack.{stepped, stuck, wants_node}
use Rattle.fancy_notation.proofs.Lengths.{takes, node}

abbrev point : ℕ → List Placed → Point
point g ts = record { groups = g; tokens = ts }

-- a value was spelled up to y, and what was wanted behind it stands
record Goes {V : Type 0} (spells : V → Point → Type 0) (end : ℕ) (k : List Want) : Type 0 where
  found : V
  y : Point
  is : spells found y
  left : misfit end y.tokens y.groups k ≡ None

-- a token that is wanted
record Took {V : Type 0} (gives : Token → Option V) (f : V → List Want) (end : ℕ) (x : Point) (k : List Want) : Type 0 where
  v : V
  y : Point
  is : Takes gives x v y
  left : misfit end y.tokens y.groups (f v ++ k) ≡ None

took : {V : Type 0} (gives : Token → Option V) (w : Want) (f : V → List Want) →
    ((g : ℕ) (token : Token) → next_step g w token ≡ given (gives token) (λ u. with_groups g (f u))) →
    (end g : ℕ) (ts : List Placed) (k : List Want) → misfit end ts g (w ∷ k) ≡ None → Took gives f end (point g ts) k
took gives w f is end g [] k e = absurd (cc)
took {V} gives w f is end g (p ∷ ps) k e = by_gift (gives p.token) refl
  where
    by_gift : (o : Option V) → gives p.token ≡ o → Took gives f end (point g (p ∷ ps)) k
    by_gift None q =
        let h : Some p.at ≡ None = sym (stuck end p ps g w k (is g p.token ∙ ap (λ u. given u (λ v. with_groups g (f v))) q)) ∙ e in
        absurd (cc)
    by_gift (Some v) q = record {
      v = v;
      y = point g ps;
      is = record { first = p; tokens = refl; groups = refl; is = q };
      left = sym (stepped end p ps g w k (with_groups g (f v)) (is g p.token ∙ ap (λ u. given u (λ v. with_groups g (f v))) q)) ∙ e;
    }

shut : (end g : ℕ) (ts : List Placed) (k : List Want) → misfit end ts g (Shut ∷ k) ≡ None → Took closing (λ u. []) end (point g ts) k
shut end g ts k e = took closing Shut (λ u. []) (λ g t. refl) end g ts k e

-- ---- bytes

byte_word : (end g at : ℕ) (w : List ℕ) (ps : List Placed) (k : List Want) (o : Option ℕ) → byte_of w ≡ o →
    misfit end (record { at = at; token = Word w } ∷ ps) g (Bytes ∷ k) ≡ None →
    (b : ℕ) × Takes (in_word byte_of) (point g (record { at = at; token = Word w } ∷ ps)) b (point g ps) × (misfit end ps g (Bytes ∷ k) ≡ None)
byte_word end g at w ps k None q e =
    let h : Some at ≡ None = sym (stuck end (record { at = at; token = Word w }) ps g Bytes k (rw q)) ∙ e in
    absurd (cc)
byte_word end g at w ps k (Some b) q e = (
  b,
  record { first = record { at = at; token = Word w }; tokens = refl; groups = refl; is = q },
  sym (stepped end (record { at = at; token = Word w }) ps g Bytes k (with_groups g (Bytes ∷ [])) (rw q)) ∙ e,
)

bytes_token : (end g at : ℕ) (t : Token) (ps : List Placed) (k : List Want) →
    (misfit end ps g (Bytes ∷ k) ≡ None → Goes (λ bs y. SpellsBytes (point g ps) y bs) end k) →
    misfit end (record { at = at; token = t } ∷ ps) g (Bytes ∷ k) ≡ None → Goes (λ bs y. SpellsBytes (point g (record { at = at; token = t } ∷ ps)) y bs) end k
bytes_token end g at Opened ps k rest e = absurd (cc)
bytes_token end g at Closed ps k rest e =
    record {
      found = [];
      y = point g ps;
      is = no_byte (record { first = record { at = at; token = Closed }; tokens = refl; groups = refl; is = refl });
      left = e;
    }
bytes_token end g at (Quoted b s) ps k rest e = absurd (cc)
bytes_token end g at (Word w) ps k rest e =
    let h = byte_word end g at w ps k (byte_of w) refl e in
    let r = rest h.2 in
    record { found = h.0 ∷ r.found; y = r.y; is = byte h.1 r.is; left = r.left }
bytes_token end g at Broken ps k rest e = absurd (cc)

bytes_read : (end g : ℕ) (ts : List Placed) (k : List Want) → misfit end ts g (Bytes ∷ k) ≡ None → Goes (λ bs y. SpellsBytes (point g ts) y bs) end k
bytes_read end g [] k e = absurd (cc)
bytes_read end g (p ∷ ps) k e = bytes_token end g p.at p.token ps k (bytes_read end g ps k) e

-- ---- nodes

leaf_word : (end g at : ℕ) (w : List ℕ) (ps : List Placed) (k : List Want) (o : Option Tree) → leaf_of w ≡ o →
    misfit end (record { at = at; token = Word w } ∷ ps) g (Node ∷ k) ≡ None →
    Goes (λ e y. Spells (point g (record { at = at; token = Word w } ∷ ps)) y e) end k
leaf_word end g at w ps k None q e =
    let h : Some at ≡ None = sym (stuck end (record { at = at; token = Word w }) ps g Node k (rw q)) ∙ e in
    absurd (cc)
leaf_word end g at w ps k (Some l) q e = record {
  found = l;
  y = point g ps;
  is = leaf (record { first = record { at = at; token = Word w }; tokens = refl; groups = refl; is = q });
  left = sym (stepped end (record { at = at; token = Word w }) ps g Node k (with_groups g []) (rw q)) ∙ e;
}

-- the word of a form behind an opening parenthesis
record Heads (end g at : ℕ) (ps : List Placed) (k : List Want) : Type 0 where
  f : Form
  z : Point
  begins : Begins (point g (record { at = at; token = Opened } ∷ ps)) f z
  left : misfit end z.tokens z.groups (wants f ++ k) ≡ None

heads : (end g at : ℕ) (ps : List Placed) (k : List Want) → misfit end ps g (Head ∷ k) ≡ None → Heads end g at ps k
heads end g at [] k e = absurd (cc)
heads end g at (p ∷ ps) k e = by_form (in_word (head_word g) p.token) refl
  where
    by_form : (o : Option (Form × ℕ)) → in_word (head_word g) p.token ≡ o → Heads end g at (p ∷ ps) k
    by_form None q =
        let h : Some p.at ≡ None = sym (stuck end p ps g Head k (rw q)) ∙ e in
        absurd (cc)
    by_form (Some f) q = record {
      f = f.0;
      z = point f.1 ps;
      begins = record {
        y = point g (p ∷ ps);
        opened = record { first = record { at = at; token = Opened }; tokens = refl; groups = refl; is = refl };
        after = point g ps;
        head = record { first = p; tokens = refl; groups = refl; is = q };
        tokens = refl;
      };
      left = sym (stepped end p ps g Head k (with_groups f.1 (wants f.0)) (rw q)) ∙ e;
    }

heads_shorter : {end g at : ℕ} {ps : List Placed} {k : List Want} (h : Heads end g at ps k) → length h.z.tokens < length ps
heads_shorter h = omega (arith, takes h.begins.head, ap length h.begins.tokens, takes h.begins.opened)

-- what is read of so many tokens
record AllRead (n : ℕ) : Type 0 where
  node : (end g : ℕ) (ts : List Placed) (k : List Want) → 3 * length ts < n → misfit end ts g (Node ∷ k) ≡ None → Goes (λ e y. Spells (point g ts) y e) end k
  form : (f : Form) (end g : ℕ) (ts : List Placed) (k : List Want) → 3 * length ts + 2 < n → misfit end ts g (wants f ++ k) ≡ None →
      Goes (λ e y. SpellsForm f (point g ts) y e) end k
  parts : (splices : Bool) (end g : ℕ) (ts : List Placed) (k : List Want) → 3 * length ts + 1 < n → misfit end ts g (Parts ∷ k) ≡ None →
      Goes (λ es y. SpellsParts splices (point g ts) y es) end k

node_token : (n : ℕ) → AllRead n → (end g at : ℕ) (t : Token) (ps : List Placed) (k : List Want) → 3 * length ps < n →
    misfit end (record { at = at; token = t } ∷ ps) g (Node ∷ k) ≡ None →
    Goes (λ e y. Spells (point g (record { at = at; token = t } ∷ ps)) y e) end k
node_token n b end g at Opened ps k h e =
    let s = heads end g at ps k e in
    let r = b.form s.f end s.z.groups s.z.tokens k (omega (arith, h, heads_shorter s)) s.left in
    record { found = r.found; y = r.y; is = formed s.begins r.is; left = r.left }
node_token n b end g at Closed ps k h e = absurd (cc)
node_token n b end g at (Quoted folded s) ps k h e = record {
  found = joined (literals folded s);
  y = point g ps;
  is = text (record { first = record { at = at; token = Quoted folded s }; tokens = refl; groups = refl; is = refl });
  left = e;
}
node_token n b end g at (Word w) ps k h e = leaf_word end g at w ps k (leaf_of w) refl e
node_token n b end g at Broken ps k h e = absurd (cc)

node_read : (n : ℕ) → AllRead n → (end g : ℕ) (ts : List Placed) (k : List Want) → 3 * length ts < suc n → misfit end ts g (Node ∷ k) ≡ None →
    Goes (λ e y. Spells (point g ts) y e) end k
node_read n b end g [] k h e = absurd (cc)
node_read n b end g (p ∷ ps) k h e = node_token n b end g p.at p.token ps k (omega (arith, h)) e

form_read : (n : ℕ) → AllRead n → (f : Form) (end g : ℕ) (ts : List Placed) (k : List Want) → 3 * length ts + 2 < suc n →
    misfit end ts g (wants f ++ k) ≡ None →
    Goes (λ e y. SpellsForm f (point g ts) y e) end k
form_read n below form.Cat end g ts k h e =
    let r = below.parts true end g ts k (omega (arith, h)) e in
    record { found = plain.Concat (trees r.found); y = r.y; is = cat r.is; left = r.left }
form_read n below form.Alt end g ts k h e =
    let a = below.node end g ts (Parts ∷ k) (omega (arith, h)) e in
    let r = below.parts false end a.y.groups a.y.tokens k (omega (arith, h, node a.is)) a.left in
    record { found = plain.Alt (trees (a.found ∷ r.found)); y = r.y; is = alt {y = a.y} {z = r.y} {e = a.found} {es = r.found} a.is r.is; left = r.left }
form_read n below (form.Enclosing f) end g ts k h e =
    let a = below.node end g ts (Shut ∷ k) (omega (arith, h)) e in
    let r = shut end a.y.groups a.y.tokens k a.left in
    record { found = enclosed f a.found; y = r.y; is = around {y = a.y} {z = r.y} {e = a.found} a.is r.is; left = r.left }
form_read n below (form.Repeat greedy) end g ts k h e =
    let lo = took (in_word count_of) Count (λ n. Bound n ∷ []) (λ g t. refl) end g ts (Node ∷ Shut ∷ k) e in
    let hi = took (in_word (bound_at_least lo.v)) (Bound lo.v) (λ n. []) (λ g t. refl) end lo.y.groups lo.y.tokens (Node ∷ Shut ∷ k) lo.left in
    let a = below.node end hi.y.groups hi.y.tokens (Shut ∷ k) (omega (arith, h, takes lo.is, takes hi.is)) hi.left in
    let r = shut end a.y.groups a.y.tokens k a.left in
    record {
      found = plain.Repeat lo.v hi.v greedy a.found;
      y = r.y;
      is = repeat {y = lo.y} {z = hi.y} {u = a.y} {v = r.y} {e = a.found} lo.is hi.is a.is r.is;
      left = r.left;
    }
form_read n below (form.Set casei) end g ts k h e =
    let s = took class Class (λ u. []) (λ g t. refl) end g ts (Shut ∷ k) e in
    let r = shut end s.y.groups s.y.tokens k s.left in
    record { found = plain.Delegate s.v casei; y = r.y; is = set {y = s.y} {z = r.y} {inner = s.v} s.is r.is; left = r.left }
form_read n below form.Bytes end g ts k h e =
    let r = bytes_read end g ts k e in
    record { found = plain.LiteralBytes r.found; y = r.y; is = bytes r.is; left = r.left }
form_read n below (form.Naming f) end g ts k h e =
    let s = took (in_word number_of) Number (λ u. []) (λ g t. refl) end g ts (Shut ∷ k) e in
    let r = shut end s.y.groups s.y.tokens k s.left in
    record { found = named f s.v; y = r.y; is = names {y = s.y} {z = r.y} {g = s.v} s.is r.is; left = r.left }
form_read n below (form.Leveled f) end g ts k h e =
    let s = took (in_word number_of) Number (λ u. []) (λ g t. refl) end g ts (Level ∷ Shut ∷ k) e in
    let l = took (in_word level_of) Level (λ u. []) (λ g t. refl) end s.y.groups s.y.tokens (Shut ∷ k) s.left in
    let r = shut end l.y.groups l.y.tokens k l.left in
    record { found = named_at f s.v l.v; y = r.y; is = names_at {y = s.y} {z = l.y} {u = r.y} {g = s.v} {l = l.v} s.is l.is r.is; left = r.left }
form_read n below form.Verb end g ts k h e =
    let s = took (in_word verb_of) VerbName (λ u. []) (λ g t. refl) end g ts (Shut ∷ k) e in
    let r = shut end s.y.groups s.y.tokens k s.left in
    record { found = plain.Control s.v; y = r.y; is = verb {y = s.y} {z = r.y} {w = s.v} s.is r.is; left = r.left }
form_read n below form.Conditional end g ts k h e =
    let c = below.node end g ts (Node ∷ Node ∷ Shut ∷ k) (omega (arith, h)) e in
    let t = below.node end c.y.groups c.y.tokens (Node ∷ Shut ∷ k) (omega (arith, h, node {y = c.y} {e = c.found} c.is)) c.left in
    let f = below.node end t.y.groups t.y.tokens (Shut ∷ k) (omega (arith, h, node {y = c.y} {e = c.found} c.is, node {y = t.y} {e = t.found} t.is)) t.left in
    let r = shut end f.y.groups f.y.tokens k f.left in
    record {
      found = plain.Conditional c.found t.found f.found;
      y = r.y;
      is = conditional {y = c.y} {z = t.y} {u = f.y} {v = r.y} {c = c.found} {t = t.found} {f = f.found} c.is t.is f.is r.is;
      left = r.left;
    }
form_read n below form.AbsentExpression end g ts k h e =
    let a = below.node end g ts (Node ∷ Shut ∷ k) (omega (arith, h)) e in
    let b = below.node end a.y.groups a.y.tokens (Shut ∷ k) (omega (arith, h, node a.is)) a.left in
    let r = shut end b.y.groups b.y.tokens k b.left in
    record {
      found = plain.AbsentExpression a.found b.found;
      y = r.y;
      is = absent_expression {y = a.y} {z = b.y} {u = r.y} {a = a.found} {e = b.found} a.is b.is r.is;
      left = r.left;
    }

-- a part that is no quoted text
parts_part : (n : ℕ) → AllRead n → (splices : Bool) (end g : ℕ) (p : Placed) (ps : List Placed) (k : List Want) → 3 * length ps + 3 < n →
    (splices ≡ true → is_at_text (p ∷ ps) ≡ false) → first_gives closing (p ∷ ps) ≡ None → misfit end (p ∷ ps) g (Parts ∷ k) ≡ None →
    Goes (λ es y. SpellsParts splices (point g (p ∷ ps)) y es) end k
parts_part n below splices end g p ps k h plain unshut e =
    let a = below.node end g (p ∷ ps) (Parts ∷ k) (omega (arith, h)) (sym (wants_node end (p ∷ ps) g k unshut) ∙ e) in
    let r = below.parts splices end a.y.groups a.y.tokens k (omega (arith, h, node a.is)) a.left in
    record { found = a.found ∷ r.found; y = r.y; is = part {y = a.y} {z = r.y} {e = a.found} {es = r.found} plain a.is r.is; left = r.left }

parts_token : (n : ℕ) → AllRead n → (splices : Bool) (end g at : ℕ) (t : Token) (ps : List Placed) (k : List Want) → 3 * length ps + 3 < n →
    misfit end (record { at = at; token = t } ∷ ps) g (Parts ∷ k) ≡ None →
    Goes (λ es y. SpellsParts splices (point g (record { at = at; token = t } ∷ ps)) y es) end k
parts_token n below splices end g at Closed ps k h e =
    record {
      found = [];
      y = point g ps;
      is = no_part (record { first = record { at = at; token = Closed }; tokens = refl; groups = refl; is = refl });
      left = e;
    }
parts_token n below true end g at (Quoted folded s) ps k h e =
    let r = below.parts true end g ps k (omega (arith, h)) e in
    record {
      found = parts_of_text folded s ++ r.found;
      y = r.y;
      is = spliced {z = r.y} {es = r.found} (record { first = record { at = at; token = Quoted folded s }; tokens = refl; groups = refl; is = refl }) r.is;
      left = r.left;
    }
parts_token n below false end g at (Quoted folded s) ps k h e =
    let r = below.parts false end g ps k (omega (arith, h)) e in
    record {
      found = joined (literals folded s) ∷ r.found;
      y = r.y;
      is = part (λ q. absurd (cc)) (text (record { first = record { at = at; token = Quoted folded s }; tokens = refl; groups = refl; is = refl })) r.is;
      left = r.left;
    }
parts_token n below splices end g at Opened ps k h e = parts_part n below splices end g (record { at = at; token = Opened }) ps k h (λ q. refl) refl e
parts_token n below splices end g at (Word w) ps k h e = parts_part n below splices end g (record { at = at; token = Word w }) ps k h (λ q. refl) refl e
parts_token n below splices end g at Broken ps k h e = absurd (cc)

parts_read : (n : ℕ) → AllRead n → (splices : Bool) (end g : ℕ) (ts : List Placed) (k : List Want) → 3 * length ts + 1 < suc n →
    misfit end ts g (Parts ∷ k) ≡ None →
    Goes (λ es y. SpellsParts splices (point g ts) y es) end k
parts_read n below splices end g [] k h e = absurd (cc)
parts_read n below splices end g (p ∷ ps) k h e = parts_token n below splices end g p.at p.token ps k (omega (arith, h)) e

all_read : (n : ℕ) → AllRead n
all_read zero = record {
  node = λ end g ts k h e. absurd (omega (arith, h));
  form = λ f end g ts k h e. absurd (omega (arith, h));
  parts = λ splices end g ts k h e. absurd (omega (arith, h));
}
all_read (suc n) = let below = all_read n in record { node = node_read n below; form = form_read n below; parts = parts_read n below }

none_left : (end g : ℕ) (ts : List Placed) → misfit end ts g [] ≡ None → ts ≡ []
none_left end g [] e = refl
none_left end g (p ∷ ps) e = absurd (cc)

pub stands_spelled : (end : ℕ) (ts : List Placed) → misfit end ts 0 (Node ∷ []) ≡ None → (e : Tree) × IsSpelled ts e
stands_spelled end ts e =
    let r = (all_read (suc (3 * length ts))).node end 0 ts [] (omega arith) e in
    (r.found, record { last = r.y; spells = r.is; none_left = none_left end r.y.groups r.y.tokens r.left })
