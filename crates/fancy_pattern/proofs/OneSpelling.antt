-- Tokens spell one tree: each rule is decided by the next token.
use Rattle.std.proofs.Common.{◌≡◌, ℕ, Bool, true, false, List, ◌∷◌, ◌++◌, Option, Some, refl, sym, ap, ◌∙◌, subst}
use Rattle.std.proofs.lemmas.Bool.{true≢false}
use Rattle.fancy_meaning.specs.Tree as tree
use Rattle.fancy_meaning.specs.Tree.{Tree}
use Rattle.fancy_tokens.specs.declared.tokens.Suffix.{Suffix}
use Rattle.fancy_tokens.specs.Tokens.{Opening, Token, Open, Close, ClassOpen, ClassClose, Placed}
use Rattle.fancy_pattern.specs.Grammar.{Names, Takes, is_at, gives_some, is_branch_end, bar, closing, opening, node_of, class_open, class_text, class_close, class_of, suffixed, enclosed, branch_of, alternated, SpellsClass, class_end, class_piece, SpellsSuffix, no_suffix, a_suffix, SpellsAtom, node, class, opened, SpellsOpened, around, group, stopper, expression, asked, if_group, if_pattern, if_look, SpellsBodies, one_body, two_bodies, SpellsPiece, plain, quantified, SpellsPieces, no_piece, piece, SpellsBranch, branch, SpellsBars, no_bar, barred, SpellsAlternatives, branches}

-- a value, and what is left behind it
abbrev Same : {V : Type 0} → V → List Placed → V → List Placed → Type 0
Same v y w z = (v ≡ w) × (y ≡ z)

pub one_token : {V : Type 0} {gives : Token → Option V} {x x' : List Placed} {v w : V} {y z : List Placed} → x ≡ x' → Takes gives x v y →
    Takes gives x' w z → Same v y w z
one_token {gives = gives} {v = v} {w = w} {y = y} {z = z} q s t =
    let e : s.first ∷ y ≡ t.first ∷ z = sym s.tokens ∙ q ∙ t.tokens in
    let first : s.first ≡ t.first = cc in
    let gift : Some v ≡ Some w = sym s.is ∙ ap (λ p. gives p.token) first ∙ t.is in
    (cc, cc)

pub there : {V : Type 0} {gives : Token → Option V} {x : List Placed} {v : V} {y : List Placed} → Takes gives x v y → is_at gives x ≡ true
there {gives = gives} t = ap (is_at gives) t.tokens ∙ ap gives_some t.is

-- a token that is there and is not
pub there_or_not : {G V : Type 0} {gives : Token → Option V} {x x' y : List Placed} {v : V} → x ≡ x' → is_at gives x ≡ false → Takes gives x' v y → G
there_or_not {gives = gives} q h t = absurd (true≢false (sym (there t) ∙ ap (is_at gives) (sym q) ∙ h))

-- both tokens are the same, which cannot be
pub clash : {G V W : Type 0} {gives : Token → Option V} {others : Token → Option W} {x x' : List Placed} {v : V} {w : W} {y z : List Placed} →
    ((t : Token) → gives t ≡ Some v → others t ≡ Some w → G) → x ≡ x' → Takes gives x v y → Takes others x' w z → G
clash {gives = gives} {y = y} {z = z} never q s t =
    let e : s.first ∷ y ≡ t.first ∷ z = sym s.tokens ∙ q ∙ t.tokens in
    let first : s.first ≡ t.first = cc in
    never t.first.token (ap (λ p. gives p.token) (sym first) ∙ s.is) t.is

pub node_or_class : {G : Type 0} (names : Names) (e : Tree) (casei : Bool) (t : Token) → node_of names t ≡ Some e → class_open t ≡ Some casei → G
node_or_class names e casei (ClassOpen k) a b = absurd (cc)
node_or_class names e casei t a b = absurd (cc)

pub node_or_open : {G : Type 0} (names : Names) (e : Tree) (o : Opening) (t : Token) → node_of names t ≡ Some e → opening t ≡ Some o → G
node_or_open names e o (Open p) a b = absurd (cc)
node_or_open names e o t a b = absurd (cc)

pub class_or_open : {G : Type 0} (casei : Bool) (o : Opening) (t : Token) → class_open t ≡ Some casei → opening t ≡ Some o → G
class_or_open casei o (Open p) a b = absurd (cc)
class_or_open casei o t a b = absurd (cc)

pub close_or_bar : {G : Type 0} (t : Token) → closing t ≡ Some tt → bar t ≡ Some tt → G
close_or_bar Close a b = absurd (cc)
close_or_bar t a b = absurd (cc)

pub text_or_end : {G : Type 0} (text : List ℕ) (t : Token) → class_text t ≡ Some text → class_close t ≡ Some tt → G
text_or_end text ClassClose a b = absurd (cc)
text_or_end text t a b = absurd (cc)

pub one_class : {x x' y z : List Placed} {v w : List ℕ} → x ≡ x' → SpellsClass x y v → SpellsClass x' z w → Same v y w z
one_class q (class_end s) (class_end t) = (refl, (one_token q s t).1)
one_class q (class_end s) (class_piece t more) = clash (λ t a b. text_or_end _ t b a) q s t
one_class q (class_piece s more) (class_end t) = clash (text_or_end _) q s t
one_class q (class_piece {text = v} s more) (class_piece {piece = p} t rest) =
    let h = one_token q s t in
    let r = one_class h.1 more rest in
    (ap (λ l. l ++ v) h.0 ∙ ap (λ l. p ++ l) r.0, r.1)

pub one_suffix : {x x' y z : List Placed} {s t : Option Suffix} → x ≡ x' → SpellsSuffix x y s → SpellsSuffix x' z t → Same s y t z
one_suffix q (no_suffix h) (no_suffix k) = (refl, q)
one_suffix q (no_suffix h) (a_suffix t) = there_or_not q h t
one_suffix q (a_suffix t) (no_suffix h) = there_or_not (sym q) h t
one_suffix q (a_suffix s) (a_suffix t) = let h = one_token q s t in (ap Some h.0, h.1)

pub of_opening : {names : Names} {o p : Opening} {x y : List Placed} {e : Tree} → o ≡ p → SpellsOpened names p x y e → SpellsOpened names o x y e
of_opening {names = names} {x = x} {y = y} {e = e} q s = subst (λ o. SpellsOpened names o x y e) (sym q) s

pub of_condition : {names : Names} {c d : Tree} {x y : List Placed} {e : Tree} → c ≡ d → SpellsBodies names d x y e → SpellsBodies names c x y e
of_condition {names = names} {x = x} {y = y} {e = e} q s = subst (λ c. SpellsBodies names c x y e) (sym q) s

pub some_same : {V : Type 0} {o : Option V} {v w : V} → o ≡ Some v → o ≡ Some w → v ≡ w
some_same e f = cc

mutual
  pub one_atom : {names : Names} {x x' y z : List Placed} {e d : Tree} → x ≡ x' → SpellsAtom names x y e → SpellsAtom names x' z d → Same e y d z
  one_atom q (node s) (node t) = one_token q s t
  one_atom q (node s) (class t c) = clash (node_or_class _ _ _) q s t
  one_atom q (node s) (opened t o) = clash (node_or_open _ _ _) q s t
  one_atom q (class s c) (node t) = clash (λ t a b. node_or_class _ _ _ t b a) q s t
  one_atom q (class {casei = k} s c) (class {text = u} t d) =
      let h = one_token q s t in
      let r = one_class h.1 c d in
      (ap (λ w. class_of w k) r.0 ∙ ap (class_of u) h.0, r.1)
  one_atom q (class s c) (opened t o) = clash (class_or_open _ _) q s t
  one_atom q (opened s o) (node t) = clash (λ t a b. node_or_open _ _ _ t b a) q s t
  one_atom q (opened s o) (class t c) = clash (λ t a b. class_or_open _ _ t b a) q s t
  one_atom q (opened s o) (opened t p) = let h = one_token q s t in one_opened h.1 o (of_opening h.0 p)

  pub one_opened : {names : Names} {o : Opening} {x x' y z : List Placed} {e d : Tree} → x ≡ x' → SpellsOpened names o x y e → SpellsOpened names o x' z d →
      Same e y d z
  one_opened q (around {f = f} s c) (around t d) =
      let h = one_alternatives q s t in
      (ap (enclosed f) h.0, (one_token h.1 c d).1)
  one_opened q (group s c) (group t d) =
      let h = one_alternatives q s t in
      (ap (tree.Group 0) h.0, (one_token h.1 c d).1)
  one_opened q (stopper s c) (stopper t d) =
      let h = one_branch q s t in
      (ap tree.AbsentStopper h.0, (one_token h.1 c d).1)
  one_opened q (stopper s c) (expression t b e d) = let h = one_branch q s t in clash close_or_bar h.1 c b
  one_opened q (expression s b e c) (stopper t d) = let h = one_branch q s t in clash (λ t a b. close_or_bar t b a) h.1 b d
  one_opened q (expression {e = e} s b f c) (expression {a = a} t b' g d) =
      let h = one_branch q s t in
      let k = one_token h.1 b b' in
      let r = one_alternatives k.1 f g in
      (ap (λ n. tree.AbsentExpression n e) h.0 ∙ ap (tree.AbsentExpression a) r.0, (one_token r.1 c d).1)
  one_opened q (asked r c) (asked s d) = (some_same r s, (one_token q c d).1)
  one_opened q (asked r c) (if_group s h b) = there_or_not (sym q) h c
  one_opened q (if_group r h b) (asked s c) = there_or_not q h c
  one_opened q (if_group r h b) (if_group s k d) = one_bodies q b (of_condition (some_same r s) d)
  one_opened q (if_pattern s c b) (if_pattern t d k) =
      let h = one_alternatives q s t in
      one_bodies (one_token h.1 c d).1 b (of_condition h.0 k)
  one_opened q (if_look {l = l} s c b) (if_look t d k) =
      let h = one_alternatives q s t in
      one_bodies (one_token h.1 c d).1 b (of_condition (ap (tree.LookAround l) h.0) k)

  pub one_bodies : {names : Names} {c : Tree} {x x' y z : List Placed} {e d : Tree} → x ≡ x' → SpellsBodies names c x y e → SpellsBodies names c x' z d →
      Same e y d z
  one_bodies {c = c} q (one_body s k) (one_body t l) =
      let h = one_branch q s t in
      (ap (λ b. tree.Conditional c b tree.Empty) h.0, (one_token h.1 k l).1)
  one_bodies q (one_body s k) (two_bodies t b a l) = let h = one_branch q s t in clash close_or_bar h.1 k b
  one_bodies q (two_bodies s b a k) (one_body t l) = let h = one_branch q s t in clash (λ t a b. close_or_bar t b a) h.1 b l
  one_bodies {c = c} q (two_bodies {f = f} s b a k) (two_bodies {t = u} t b' a' l) =
      let h = one_branch q s t in
      let i = one_token h.1 b b' in
      let r = one_alternatives i.1 a a' in
      (ap (λ n. tree.Conditional c n f) h.0 ∙ ap (tree.Conditional c u) r.0, (one_token r.1 k l).1)

  pub one_piece : {names : Names} {x x' y z : List Placed} {e d : Tree} → x ≡ x' → SpellsPiece names x y e → SpellsPiece names x' z d → Same e y d z
  one_piece q (plain s h) (plain t k) = one_atom q s t
  one_piece q (plain s h) (quantified t may b k) = let r = one_atom q s t in there_or_not r.1 h b
  one_piece q (quantified s may b k) (plain t h) = let r = one_atom q s t in there_or_not (sym r.1) h b
  one_piece q (quantified {q = c} {s = v} {e = e} s may b k) (quantified {q = d} {s = w} {e = f} t may' b' k') =
      let r = one_atom q s t in
      let i = one_token r.1 b b' in
      let j = one_suffix i.1 k k' in
      (ap (λ p. suffixed p.0 p.1 v e) i.0 ∙ ap (λ u. suffixed d.0 d.1 u e) j.0 ∙ ap (suffixed d.0 d.1 w) r.0, j.1)

  pub one_row : {names : Names} {x x' y z : List Placed} {es ds : List Tree} → x ≡ x' → SpellsPieces names x y es → SpellsPieces names x' z ds → Same es y ds z
  one_row q (no_piece h) (no_piece k) = (refl, q)
  one_row q (no_piece h) (piece on s more) = absurd (true≢false (sym h ∙ ap is_branch_end q ∙ on))
  one_row q (piece on s more) (no_piece h) = absurd (true≢false (sym h ∙ ap is_branch_end (sym q) ∙ on))
  one_row q (piece {es = es} on s more) (piece {e = d} on' t rest) =
      let h = one_piece q s t in
      let r = one_row h.1 more rest in
      (ap (λ e. e ∷ es) h.0 ∙ ap (λ l. d ∷ l) r.0, r.1)

  pub one_branch : {names : Names} {x x' y z : List Placed} {e d : Tree} → x ≡ x' → SpellsBranch names x y e → SpellsBranch names x' z d → Same e y d z
  one_branch q (branch s) (branch t) = let h = one_row q s t in (ap branch_of h.0, h.1)

  pub one_bars : {names : Names} {x x' y z : List Placed} {es ds : List Tree} → x ≡ x' → SpellsBars names x y es → SpellsBars names x' z ds → Same es y ds z
  one_bars q (no_bar h) (no_bar k) = (refl, q)
  one_bars q (no_bar h) (barred t b more) = there_or_not q h t
  one_bars q (barred t b more) (no_bar h) = there_or_not (sym q) h t
  one_bars q (barred {es = es} s b more) (barred {e = d} t c rest) =
      let i = one_token q s t in
      let h = one_branch i.1 b c in
      let r = one_bars h.1 more rest in
      (ap (λ e. e ∷ es) h.0 ∙ ap (λ l. d ∷ l) r.0, r.1)

  pub one_alternatives : {names : Names} {x x' y z : List Placed} {e d : Tree} → x ≡ x' → SpellsAlternatives names x y e → SpellsAlternatives names x' z d →
      Same e y d z
  one_alternatives q (branches {es = es} b more) (branches {e = d} c rest) =
      let h = one_branch q b c in
      let r = one_bars h.1 more rest in
      (ap (λ e. alternated (e ∷ es)) h.0 ∙ ap (λ l. alternated (d ∷ l)) r.0, r.1)
