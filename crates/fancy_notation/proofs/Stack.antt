-- What is spelled can stand: the stack of what may come next goes on behind it.
use Rattle.std.proofs.Common.{◌≡◌, ℕ, Bool, List, [], ◌∷◌, ◌++◌, Option, Some, None, refl, sym, ap, ◌∙◌, subst, append_assoc}
use Rattle.fancy_meaning.specs.Tree.{Tree}
use Rattle.fancy_notation.specs.declared.forms.Form.{Form}
use Rattle.fancy_notation.specs.Tokens.{Token, Placed, Opened, Closed, Quoted, Word, Broken}
use Rattle.fancy_notation.specs.Words.{leaf_of, byte_of}
use Rattle.fancy_notation.specs.Grammar.{Point, in_word, opening, closing, quoted, Takes, Begins, SpellsBytes, no_byte, byte, Spells, text, leaf, formed, SpellsForm, cat, alt, around, repeat, set, bytes, names, names_at, verb, conditional, absent_expression, SpellsParts, no_part, spliced, part}
use Rattle.fancy_notation.specs.Misfit.{Want, Node, Head, Shut, Parts, Count, Bound, Number, Level, Bytes, Class, VerbName, wants, Next, with_groups, given, node_step, many_step, next_step, misfit}
use Rattle.fancy_notation.specs.Reading.{first_gives}

-- ---- one token

pub stepped : (end : ℕ) (p : Placed) (ps : List Placed) (g : ℕ) (w : Want) (k : List Want) (n : Next) → next_step g w p.token ≡ Some n →
    misfit end (p ∷ ps) g (w ∷ k) ≡ misfit end ps n.groups (n.wants ++ k)
stepped end p ps g w k n e =
    subst (λ o. elim o [ None ↦ Some p.at | Some m ↦ misfit end ps m.groups (m.wants ++ k) ] ≡ misfit end ps n.groups (n.wants ++ k)) (sym e) refl

pub stuck : (end : ℕ) (p : Placed) (ps : List Placed) (g : ℕ) (w : Want) (k : List Want) → next_step g w p.token ≡ None →
    misfit end (p ∷ ps) g (w ∷ k) ≡ Some p.at
stuck end p ps g w k e =
    subst (λ o. elim o [ None ↦ Some p.at | Some m ↦ misfit end ps m.groups (m.wants ++ k) ] ≡ Some p.at) (sym e) refl

-- a token that may come next, with as many groups after it
pub keeps : {V : Type 0} {gives : Token → Option V} {x : Point} {v : V} {y : Point} (t : Takes gives x v y) (w : Want) (ws : List Want) →
    ((token : Token) → gives token ≡ Some v → next_step x.groups w token ≡ Some (with_groups x.groups ws)) →
    (end : ℕ) (k : List Want) → misfit end x.tokens x.groups (w ∷ k) ≡ misfit end y.tokens y.groups (ws ++ k)
keeps {x = x} {y = y} t w ws may end k =
    ap (λ ts. misfit end ts x.groups (w ∷ k)) t.tokens
    ∙ stepped end t.first y.tokens x.groups w k (with_groups x.groups ws) (may t.first.token t.is)
    ∙ ap (λ g. misfit end y.tokens g (ws ++ k)) (sym t.groups)

-- the same where what is wanted is what the token gives
pub wanted : {V : Type 0} {gives : Token → Option V} {x : Point} {v : V} {y : Point} (t : Takes gives x v y) (w : Want) (f : V → List Want) →
    ((g : ℕ) (token : Token) → next_step g w token ≡ given (gives token) (λ u. with_groups g (f u))) →
    (end : ℕ) (k : List Want) → misfit end x.tokens x.groups (w ∷ k) ≡ misfit end y.tokens y.groups (f v ++ k)
wanted {x = x} {v = v} t w f is end k =
    keeps t w (f v) (λ token e. is x.groups token ∙ ap (λ o. given o (λ u. with_groups x.groups (f u))) e) end k

pub shut : {x y : Point} → Takes closing x tt y → (end : ℕ) (k : List Want) → misfit end x.tokens x.groups (Shut ∷ k) ≡ misfit end y.tokens y.groups k
shut t end k = wanted t Shut (λ u. []) (λ g token. refl) end k

-- ---- the tokens of a node

text_may : (g : ℕ) (q : Bool × List ℕ) (t : Token) → quoted t ≡ Some q → node_step g t ≡ Some (with_groups g [])
text_may g q Opened e = absurd (cc)
text_may g q Closed e = absurd (cc)
text_may g q (Quoted b s) e = refl
text_may g q (Word w) e = absurd (cc)
text_may g q Broken e = absurd (cc)

leaf_may : (g : ℕ) (l : Tree) (t : Token) → in_word leaf_of t ≡ Some l → node_step g t ≡ Some (with_groups g [])
leaf_may g l Opened e = absurd (cc)
leaf_may g l Closed e = absurd (cc)
leaf_may g l (Quoted b s) e = absurd (cc)
leaf_may g l (Word w) e = ap (λ o. given o (λ u. with_groups g [])) e
leaf_may g l Broken e = absurd (cc)

open_may : (g : ℕ) (t : Token) → opening t ≡ Some tt → node_step g t ≡ Some (with_groups g (Head ∷ []))
open_may g Opened e = refl
open_may g Closed e = absurd (cc)
open_may g (Quoted b s) e = absurd (cc)
open_may g (Word w) e = absurd (cc)
open_may g Broken e = absurd (cc)

-- a token that a node may begin with is no closing parenthesis
pub open_not_closing : (t : Token) → opening t ≡ Some tt → closing t ≡ None
open_not_closing Opened e = refl
open_not_closing Closed e = absurd (cc)
open_not_closing (Quoted b s) e = refl
open_not_closing (Word w) e = refl
open_not_closing Broken e = refl

pub text_not_closing : (q : Bool × List ℕ) (t : Token) → quoted t ≡ Some q → closing t ≡ None
text_not_closing q Opened e = refl
text_not_closing q Closed e = absurd (cc)
text_not_closing q (Quoted b s) e = refl
text_not_closing q (Word w) e = refl
text_not_closing q Broken e = refl

pub word_not_closing : {V : Type 0} (f : List ℕ → Option V) (v : V) (t : Token) → in_word f t ≡ Some v → closing t ≡ None
word_not_closing f v Opened e = refl
word_not_closing f v Closed e = absurd (cc)
word_not_closing f v (Quoted b s) e = refl
word_not_closing f v (Word w) e = refl
word_not_closing f v Broken e = refl

pub first_is : {V W : Type 0} {gives : Token → Option V} {x : Point} {v : V} {y : Point} (t : Takes gives x v y) (other : Token → Option W) →
    first_gives other x.tokens ≡ other t.first.token
first_is t other = ap (first_gives other) t.tokens

pub not_closing : {x y : Point} {e : Tree} → Spells x y e → first_gives closing x.tokens ≡ None
not_closing (text t) = first_is t closing ∙ text_not_closing _ _ t.is
not_closing (leaf t) = first_is t closing ∙ word_not_closing leaf_of _ _ t.is
not_closing (formed b f) = first_is b.opened closing ∙ open_not_closing _ b.opened.is

-- ---- parts

many_ends : (w : Want) (g : ℕ) (t : Token) (more : Option Next) → closing t ≡ Some tt → many_step w g t more ≡ Some (with_groups g [])
many_ends w g Opened more e = absurd (cc)
many_ends w g Closed more e = refl
many_ends w g (Quoted b s) more e = absurd (cc)
many_ends w g (Word v) more e = absurd (cc)
many_ends w g Broken more e = absurd (cc)

some_goes_on : (w : Want) (g : ℕ) (t : Token) (n : Next) → closing t ≡ None → many_step w g t (Some n) ≡ Some (with_groups n.groups (n.wants ++ w ∷ []))
some_goes_on w g Opened n e = refl
some_goes_on w g Closed n e = absurd (cc)
some_goes_on w g (Quoted b s) n e = refl
some_goes_on w g (Word v) n e = refl
some_goes_on w g Broken n e = refl

pub none_goes_on : (w : Want) (g : ℕ) (t : Token) → closing t ≡ None → many_step w g t None ≡ None
none_goes_on w g Opened e = refl
none_goes_on w g Closed e = absurd (cc)
none_goes_on w g (Quoted b s) e = refl
none_goes_on w g (Word v) e = refl
none_goes_on w g Broken e = refl

-- before anything but a closing parenthesis a row of parts wants a node
pub wants_node : (end : ℕ) (ts : List Placed) (g : ℕ) (k : List Want) → first_gives closing ts ≡ None →
    misfit end ts g (Parts ∷ k) ≡ misfit end ts g (Node ∷ Parts ∷ k)
wants_node end [] g k e = refl
wants_node end (p ∷ ps) g k e = by_step (node_step g p.token) refl
  where
    by_step : (o : Option Next) → node_step g p.token ≡ o → misfit end (p ∷ ps) g (Parts ∷ k) ≡ misfit end (p ∷ ps) g (Node ∷ Parts ∷ k)
    by_step None is =
        stuck end p ps g Parts k (ap (many_step Parts g p.token) is ∙ none_goes_on Parts g p.token e)
        ∙ sym (stuck end p ps g Node (Parts ∷ k) is)
    by_step (Some n) is =
        stepped end p ps g Parts k (with_groups n.groups (n.wants ++ Parts ∷ [])) (ap (many_step Parts g p.token) is ∙ some_goes_on Parts g p.token n e)
        ∙ ap (misfit end ps n.groups) (append_assoc n.wants (Parts ∷ []) k)
        ∙ sym (stepped end p ps g Node (Parts ∷ k) n is)

pub parts_end : {x y : Point} → Takes closing x tt y → (end : ℕ) (k : List Want) → misfit end x.tokens x.groups (Parts ∷ k) ≡ misfit end y.tokens y.groups k
parts_end {x = x} t end k = keeps t Parts [] (λ token e. many_ends Parts x.groups token (node_step x.groups token) e) end k

byte_step : ℕ → Token → Option Next
byte_step g t = given (in_word byte_of t) (λ b. with_groups g [])

pub bytes_end : {x y : Point} → Takes closing x tt y → (end : ℕ) (k : List Want) → misfit end x.tokens x.groups (Bytes ∷ k) ≡ misfit end y.tokens y.groups k
bytes_end {x = x} t end k = keeps t Bytes [] (λ token e. many_ends Bytes x.groups token (given (in_word byte_of token) (λ b. with_groups x.groups [])) e) end k

pub byte_goes_on : {x y : Point} {b : ℕ} → Takes (in_word byte_of) x b y → (end : ℕ) (k : List Want) →
    misfit end x.tokens x.groups (Bytes ∷ k) ≡ misfit end y.tokens y.groups (Bytes ∷ k)
byte_goes_on {x = x} {b = b} t end k =
    keeps t Bytes (Bytes ∷ [])
    (λ token e. ap (λ o. many_step Bytes x.groups token (given o (λ u. with_groups x.groups []))) e
    ∙ some_goes_on Bytes x.groups token (with_groups x.groups []) (word_not_closing byte_of b token e))
    end k

-- ---- forms

pub begun : {x : Point} {f : Form} {z : Point} → Begins x f z → (end : ℕ) (k : List Want) →
    misfit end x.tokens x.groups (Node ∷ k) ≡ misfit end z.tokens z.groups (wants f ++ k)
begun {x = x} {f = f} {z = z} b end k =
    keeps b.opened Node (Head ∷ []) (open_may x.groups) end k
    ∙ ap (λ ts. misfit end ts b.y.groups (Head ∷ k)) b.head.tokens
    ∙ stepped end b.head.first b.after.tokens b.y.groups Head k (with_groups z.groups (wants f))
    (ap (λ o. given o (λ h. with_groups h.1 (wants h.0))) b.head.is)
    ∙ ap (λ ts. misfit end ts z.groups (wants f ++ k)) (sym b.tokens)

pub bytes_stand : {x y : Point} {bs : List ℕ} → SpellsBytes x y bs → (end : ℕ) (k : List Want) →
    misfit end x.tokens x.groups (Bytes ∷ k) ≡ misfit end y.tokens y.groups k
bytes_stand (no_byte t) end k = bytes_end t end k
bytes_stand (byte t more) end k = byte_goes_on t end k ∙ bytes_stand more end k

pub text_stands : {x y : Point} {q : Bool × List ℕ} → Takes quoted x q y → (end : ℕ) (k : List Want) →
    misfit end x.tokens x.groups (Node ∷ k) ≡ misfit end y.tokens y.groups k
text_stands {x = x} {q = q} t end k = keeps t Node [] (text_may x.groups q) end k

mutual
  pub node_stands : {x y : Point} {e : Tree} → Spells x y e → (end : ℕ) (k : List Want) →
      misfit end x.tokens x.groups (Node ∷ k) ≡ misfit end y.tokens y.groups k
  node_stands (text t) end k = text_stands t end k
  node_stands {x} (leaf t) end k = keeps t Node [] (leaf_may x.groups _) end k
  node_stands (formed b f) end k = begun b end k ∙ form_stands f end k

  pub form_stands : {f : Form} {x y : Point} {e : Tree} → SpellsForm f x y e → (end : ℕ) (k : List Want) →
      misfit end x.tokens x.groups (wants f ++ k) ≡ misfit end y.tokens y.groups k
  form_stands (cat ps) end k = parts_stand ps end k
  form_stands (alt e ps) end k = node_stands e end (Parts ∷ k) ∙ parts_stand ps end k
  form_stands (around e c) end k = node_stands e end (Shut ∷ k) ∙ shut c end k
  form_stands (repeat lo hi e c) end k =
      wanted lo Count (λ n. Bound n ∷ []) (λ g token. refl) end (Node ∷ Shut ∷ k)
      ∙ wanted hi (Bound _) (λ n. []) (λ g token. refl) end (Node ∷ Shut ∷ k)
      ∙ node_stands e end (Shut ∷ k)
      ∙ shut c end k
  form_stands (set s c) end k = wanted s Class (λ u. []) (λ g token. refl) end (Shut ∷ k) ∙ shut c end k
  form_stands (bytes bs) end k = bytes_stand bs end k
  form_stands (names n c) end k = wanted n Number (λ u. []) (λ g token. refl) end (Shut ∷ k) ∙ shut c end k
  form_stands (names_at n l c) end k =
      wanted n Number (λ u. []) (λ g token. refl) end (Level ∷ Shut ∷ k)
      ∙ wanted l Level (λ u. []) (λ g token. refl) end (Shut ∷ k)
      ∙ shut c end k
  form_stands (verb v c) end k = wanted v VerbName (λ u. []) (λ g token. refl) end (Shut ∷ k) ∙ shut c end k
  form_stands (conditional c t f s) end k =
      node_stands c end (Node ∷ Node ∷ Shut ∷ k) ∙ node_stands t end (Node ∷ Shut ∷ k) ∙ node_stands f end (Shut ∷ k) ∙ shut s end k
  form_stands (absent_expression a e s) end k = node_stands a end (Node ∷ Shut ∷ k) ∙ node_stands e end (Shut ∷ k) ∙ shut s end k

  pub parts_stand : {splices : Bool} {x y : Point} {es : List Tree} → SpellsParts splices x y es → (end : ℕ) (k : List Want) →
      misfit end x.tokens x.groups (Parts ∷ k) ≡ misfit end y.tokens y.groups k
  parts_stand (no_part t) end k = parts_end t end k
  parts_stand {x = x} (spliced t more) end k =
      wants_node end x.tokens x.groups k (first_is t closing ∙ text_not_closing _ _ t.is)
      ∙ text_stands t end (Parts ∷ k)
      ∙ parts_stand more end k
  parts_stand {x = x} (part plain e more) end k =
      wants_node end x.tokens x.groups k (not_closing e)
      ∙ node_stands e end (Parts ∷ k)
      ∙ parts_stand more end k
