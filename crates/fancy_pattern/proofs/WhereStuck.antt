-- Where the reader is stuck in a part, it is stuck in the whole.
use Rattle.std.proofs.Common.{◌≡◌, ℕ, ◌≤◌, Bool, true, false, not, List, [], ◌∷◌, ◌++◌, length, Option, Some, None, Result, Ok, Err, refl, sym, ap, ◌∙◌, subst, arith, append_assoc}
use Rattle.std.specs.Prelude.{IfErr}
use Rattle.std.proofs.lemmas.Bool.{true≢false}
use Rattle.fancy_meaning.specs.Tree as tree
use Rattle.fancy_meaning.specs.Tree.{Tree}
use Rattle.fancy_tokens.specs.declared.error.Fault.{Fault}
use Rattle.fancy_pattern.specs.declared.failure.Failure.{Failure}
use Rattle.fancy_pattern.specs.declared.failure.Failure.TheVariants as failure
use Rattle.fancy_tokens.specs.declared.tokens.Enclosing.{Enclosing}
use Rattle.fancy_tokens.specs.Tokens.{Reference, Opening, Around, Group, AbsentBar, If, IfPattern, IfLook, Token, Node, Refer, FlagsItem, Open, Close, ClassOpen, ClassClose, Placed, placed}
use Rattle.fancy_pattern.specs.Grammar.{Names, Takes, first_gives, is_at, gives_some, is_branch_end, is_repeatable, bar, closing, quantifier, opening, node_of, class_open, class_text, class_close, reference, suffixed, alternated, SpellsClass, class_end, class_piece, SpellsAtom, node, class, opened, SpellsOpened, around, group, stopper, expression, asked, if_group, if_pattern, if_look, SpellsBodies, one_body, two_bodies, SpellsPiece, plain, quantified, SpellsPieces, no_piece, piece, SpellsBranch, branch, SpellsBars, no_bar, barred, SpellsAlternatives, branches}
use Rattle.fancy_pattern.specs.Faults.{misfit, IsPlace, at_token, at_name, asked_by, referring}
use Rattle.fancy_pattern.specs.Stuck.{Within, whole, NoNode, Alike, SameFirst, both_ended, same_token, is_end, is_calm, anything, Stuck, Fails, IsMisfit, NoAtom, behind, unnamed, FailsOpened}
use Rattle.fancy_pattern.specs.Reading.{SpellsLast, Quantifies, alone, by, Row}
use Rattle.fancy_pattern.proofs.Lengths as lengths
use Rattle.fancy_pattern.proofs.Splits as splits
use Rattle.fancy_pattern.proofs.OneSpelling.{one_token, there_or_not, node_or_class, node_or_open, class_or_open, some_same, clash, close_or_bar, of_condition, of_opening, one_atom, one_branch, one_alternatives}
use Rattle.fancy_pattern.proofs.Moved.{Meets, by_same, by_start, calm_of, follows_of, ended, alike_end, alike_first, Moved, OneToken, token_moved, atom_moved, branch_moved, alternatives_moved}
use Rattle.fancy_pattern.proofs.Rows.{row_within, row_moved, row_rest, row_then, BarRow, bar_row_within, bar_row_moved, bar_row_rest, bar_row_then, TextRow, text_row_within, text_row_moved, text_row_rest, text_row_then}

-- ---- a part and the whole

-- stuck behind a part that was read
pub stuck_then : {U V W : Type 0} {names : Names} {starts ends : List Placed → Bool} {A : List Placed → List Placed → U → Type 0}
    {B : List Placed → List Placed → V → Type 0} {S : List Placed → List Placed → W → Type 0} {x y : List Placed} {a : U} {f : Fault} → Within y x →
    ((x' y' z : List Placed) (w : W) → SameFirst y y' → A x' y' a → S x' z w → (v : V) × B y' z v) →
    ((x' y' z : List Placed) (v : V) → is_end z ≡ true → A x' y' a → B y' z v → (w : W) × S x' z w) →
    ((r r' x' : List Placed) → length r ≤ length y → (length y ≡ length r → Meets starts r r') → Alike r r' x x' → Moved A r r' y x' a) →
    (length y ≡ length x → (r : List Placed) → starts r ≡ true → ends r ≡ true) → Stuck names starts B y f → Stuck names ends S x f
stuck_then within rest_of whole_of move weaker s = record {
  rest = s.rest;
  within = splits.on within s.within;
  place = s.place;
  never = λ rest' x' z v same alike w.
      let m = move s.rest rest' x' (splits.shorter s.within) (λ e. by_same same) alike in
      let b = rest_of x' m.behind z v (alike_first same m.alike) m.spelled w in
      s.never rest' m.behind z b.0 same m.alike b.1;
  more = s.more;
  goes = λ x' z end alike.
      let m = move s.rest (s.more ++ z) x' (splits.shorter s.within) (λ e. by_start (s.fits z end (sym e))) alike in
      let b = s.goes m.behind z end m.alike in
      whole_of x' m.behind z b.0 end m.spelled b.1;
  fits = λ z end e.
      let h = splits.shorter s.within in
      let k = splits.shorter within in
      weaker (omega (arith, h, k, e)) (s.more ++ z) (s.fits z end (omega (arith, h, k, e)));
}

-- stuck in the first part, behind which `c` completes the whole
pub stuck_first : {U W : Type 0} {names : Names} {starts : List Placed → Bool} {A : List Placed → List Placed → U → Type 0}
    {S : List Placed → List Placed → W → Type 0} {x : List Placed} {f : Fault} (c : List Placed) →
    ((z : List Placed) → is_end z ≡ true → is_end (c ++ z) ≡ true) →
    ((x' z : List Placed) (w : W) → SameFirst x x' → S x' z w → (y' : List Placed) × (u : U) × A x' y' u) →
    ((x' z : List Placed) (u : U) → is_end z ≡ true → A x' (c ++ z) u → (w : W) × S x' z w) → Stuck names starts A x f → Stuck names starts S x f
stuck_first {starts = starts} {x = x} c closes part_of whole_of s = record {
  rest = s.rest;
  within = s.within;
  place = s.place;
  never = λ rest' x' z v same alike w.
      let p = part_of x' z v (alike_first same alike) w in
      s.never rest' x' p.0 p.1 same alike p.2;
  more = s.more ++ c;
  goes = λ x' z end alike.
      let g = s.goes x' (c ++ z) (closes z end) (subst (λ l. Alike s.rest l x x') (append_assoc s.more c z) alike) in
      whole_of x' z g.0 end g.1;
  fits = λ z end e. subst (λ l. starts l ≡ true) (sym (append_assoc s.more c z)) (s.fits (c ++ z) (closes z end) e);
}

-- nothing is said of what may start there
pub forget : {V : Type 0} {names : Names} {starts : List Placed → Bool} {S : List Placed → List Placed → V → Type 0} {x : List Placed} {f : Fault} →
    Stuck names starts S x f → Stuck names anything S x f
forget s = record { rest = s.rest; within = s.within; place = s.place; never = s.never; more = s.more; goes = s.goes; fits = λ z end e. refl }

-- the first token cannot stand
stuck_here : {V : Type 0} {names : Names} {starts : List Placed → Bool} {S : List Placed → List Placed → V → Type 0} {x : List Placed} {f : Fault}
    (more : List Placed) → IsPlace names f x → ((x' z : List Placed) (v : V) → SameFirst x x' → S x' z v → ⊥) →
    ((z : List Placed) → is_end z ≡ true → (v : V) × S (more ++ z) z v) → ((z : List Placed) → is_end z ≡ true → starts (more ++ z) ≡ true) →
    Stuck names starts S x f
stuck_here {V} {S = S} {x = x} more is cannot goes fits = record {
  rest = x;
  within = whole;
  place = is;
  never = λ rest' x' z v same alike w. cannot x' z v (alike_first same alike) w;
  more = more;
  goes = λ x' z end alike. subst (λ l. (v : V) × S l z v) (sym (alike_end alike refl)) (goes z end);
  fits = λ z end e. fits z end;
}

pub first_same : {V : Type 0} (gives : Token → Option V) {x y : List Placed} → SameFirst x y → first_gives gives x ≡ first_gives gives y
first_same gives both_ended = refl
first_same gives same_token = refl

pub at_same : {V : Type 0} (gives : Token → Option V) {x y : List Placed} → SameFirst x y → is_at gives x ≡ is_at gives y
at_same gives s = ap gives_some (first_same gives s)

pub end_same : {x y : List Placed} → SameFirst x y → is_branch_end x ≡ is_branch_end y
end_same both_ended = refl
end_same same_token = refl

taken : {V : Type 0} {gives : Token → Option V} {x y : List Placed} {v : V} → Takes gives x v y → first_gives gives x ≡ Some v
taken {gives = gives} t = ap (first_gives gives) t.tokens ∙ t.is

not_taken : {G V : Type 0} {gives : Token → Option V} {x x' y : List Placed} {v : V} → first_gives gives x ≡ None → SameFirst x x' → Takes gives x' v y → G
not_taken {gives = gives} none s t = let e = sym none ∙ first_same gives s ∙ taken t in absurd (cc)

-- what the next token gives, where there is one
pub given_by : {V : Type 0} (gives : Token → Option V) (x : List Placed) (t : Token) → first_gives (λ u. Some u) x ≡ Some t → first_gives gives x ≡ gives t
given_by gives [] t e = absurd (cc)
given_by gives (p ∷ ps) t e = let same : p.token ≡ t = cc in ap gives same

pub nothing_given : {V : Type 0} (gives : Token → Option V) (x : List Placed) → ◌≡◌ {A = Option Token} (first_gives (λ u. Some u) x) None →
    first_gives gives x ≡ None
nothing_given gives [] e = refl
nothing_given gives (p ∷ ps) e = absurd (cc)

pub unnamed_token : (names : Names) (t : Token) (r : Reference) (e : Failure) → t ≡ Refer r → NoNode (reference names r) r.left e → NoAtom names t e
unnamed_token names t r (failure.Fault f) is h = (r, is, h.0, h.1)
unnamed_token names t r failure.Memory is h = tt

-- ---- completions

flags_item : Placed
flags_item = placed 0 FlagsItem

close_token : Placed
close_token = placed 0 Close

class_end_token : Placed
class_end_token = placed 0 ClassClose

-- ---- atoms

pub no_atom : (names : Names) (x : List Placed) (e : Failure) → first_gives (node_of names) x ≡ None → IsMisfit x e →
    Fails names is_calm (OneToken (node_of names)) x e
unfolding flags_item
no_atom names x (failure.Fault f) none is =
    stuck_here (flags_item ∷ []) (at_token is) (λ x' z v s t. not_taken none s t)
    (λ z end. (tree.Empty, record { first = flags_item; tokens = refl; is = refl })) (λ z end. refl)
no_atom names x failure.Memory none is = tt

pub unnamed_atom : (names : Names) (x : List Placed) (t : Token) (e : Failure) → first_gives (λ t. Some t) x ≡ Some t → NoAtom names t e →
    Fails names is_calm (OneToken (node_of names)) x e
unfolding flags_item
unnamed_atom names [] t (failure.Fault f) next h = absurd (cc)
unnamed_atom names (p ∷ ps) t (failure.Fault f) next h =
    let same : p.token ≡ Refer h.0 = cc in
    stuck_here (flags_item ∷ []) (at_name h.0 (ap referring same) h.2 h.3)
    (λ x' z v s u. not_taken {gives = node_of names} (ap (node_of names) same ∙ h.2) s u)
    (λ z end. (tree.Empty, record { first = flags_item; tokens = refl; is = refl })) (λ z end. refl)
unnamed_atom names x t failure.Memory next h = tt

pub atom_of_node : (names : Names) (x : List Placed) (e : Failure) → first_gives opening x ≡ None → first_gives class_open x ≡ None →
    Fails names is_calm (OneToken (node_of names)) x e → Fails names is_calm (SpellsAtom names) x e
atom_of_node names x (failure.Fault f) no_open no_class s = stuck_first [] (λ z end. end) part_of (λ x' z u end t. (u, node t)) s
  where
    part_of : (x' z : List Placed) (w : Tree) → SameFirst x x' → SpellsAtom names x' z w → (y : List Placed) × (u : Tree) × Takes (node_of names) x' u y
    part_of x' z w same (node t) = (z, w, t)
    part_of x' z w same (class t c) = not_taken no_class same t
    part_of x' z w same (opened t o) = not_taken no_open same t
atom_of_node names x failure.Memory no_open no_class s = tt

class_atom : {names : Names} {x y z : List Placed} {casei : Bool} {e : Tree} → Takes class_open x casei y → SpellsAtom names x z e →
    (text : List ℕ) × SpellsClass y z text
class_atom t (node s) = clash (λ t a b. node_or_class _ _ _ t b a) refl t s
class_atom {z = z} t (class {text = text} s c) = let h = one_token refl t s in (text, subst (λ y. SpellsClass y z text) (sym h.1) c)
class_atom t (opened s o) = clash (class_or_open _ _) refl t s

pub atom_of_class : (names : Names) (x y : List Placed) (casei : Bool) (e : Failure) → Takes class_open x casei y → Fails names anything SpellsClass y e →
    Fails names is_calm (SpellsAtom names) x e
atom_of_class names x y casei (failure.Fault f) t s =
    stuck_then {A = OneToken class_open} {a = casei} (splits.takes t) (λ x' y' z w same a h. class_atom a h) (λ x' y' z v end a c. (_, class a c))
    (λ r r' x' h m l. token_moved t h l) (λ e r h. absurd (let k = lengths.takes t in omega (arith, e, k))) s
atom_of_class names x y casei failure.Memory t s = tt

opened_atom : {names : Names} {x y z : List Placed} {o : Opening} {e : Tree} → Takes opening x o y → SpellsAtom names x z e →
    (d : Tree) × SpellsOpened names o y z d
opened_atom t (node s) = clash (λ t a b. node_or_open _ _ _ t b a) refl t s
opened_atom t (class s c) = clash (λ t a b. class_or_open _ _ t b a) refl t s
opened_atom {names = names} {z = z} {o = o} {e = e} t (opened s p) =
    let h = one_token refl t s in
    (e, subst (λ y. SpellsOpened names o y z e) (sym h.1) (of_opening h.0 p))

take_same : {V : Type 0} {gives : Token → Option V} {x x' y : List Placed} {v : V} → SameFirst x x' → Takes gives x v y →
    (y' : List Placed) × Takes gives x' v y'
take_same {gives = gives} {y = y} both_ended t = let e : [] ≡ t.first ∷ y = t.tokens in absurd (cc)
take_same {gives = gives} {y = y} (same_token {p = p} {x = a} {y = b}) t =
    let e : p ∷ a ≡ t.first ∷ y = t.tokens in
    let first : p ≡ t.first = cc in
    (b, record { first = p; tokens = refl; is = ap (λ q. gives q.token) first ∙ t.is })

not_asked : (names : Names) (r : Reference) (x z : List Placed) (v : Tree) → reference names r ≡ None → SpellsOpened names (If r) x z v → ⊥
not_asked names r x z v none (asked q c) = absurd (cc)
not_asked names r x z v none (if_group q h b) = absurd (cc)

asked_at : (t : Token) (o : Opening) (r : Reference) → opening t ≡ Some o → o ≡ If r → referring t ≡ Some r
asked_at (Open p) o r e is = let same : p ≡ If r = cc in ap asked_by same
asked_at t o r e is = absurd (cc)

pub atom_of_opened : (names : Names) (x y : List Placed) (o : Opening) (e : Failure) → Takes opening x o y → FailsOpened names o y e →
    Fails names is_calm (SpellsAtom names) x e
unfolding flags_item
atom_of_opened names x y o (failure.Fault f) t (behind s) =
    stuck_then {A = OneToken opening} {a = o} (splits.takes t) (λ x' y' z w same a h. opened_atom a h) (λ x' y' z v end a c. (v, opened a c))
    (λ r r' x' h m l. token_moved t h l) (λ e r h. absurd (let k = lengths.takes t in omega (arith, e, k))) s
atom_of_opened names x y o (failure.Fault f) t (unnamed r is none at) =
    stuck_here (flags_item ∷ []) (at_name r (ap (first_gives referring) t.tokens ∙ asked_at t.first.token o r t.is is) none at)
    (λ x' z v same s.
    let u = take_same same t in
    let h = opened_atom u.1 s in
    not_asked names r u.0 z h.0 none (subst (λ p. SpellsOpened names p u.0 z h.0) is h.1))
    (λ z end. (tree.Empty, node (record { first = flags_item; tokens = refl; is = refl }))) (λ z end. refl)
atom_of_opened names x y o failure.Memory t s = tt

-- ---- classes

pub class_fails : (x y : List Placed) (text : List ℕ) (names : Names) (e : Failure) → TextRow x y text → first_gives class_text y ≡ None →
    is_at class_close y ≡ false → IsMisfit y e → Fails names anything SpellsClass x e
unfolding class_end_token
class_fails x y text names (failure.Fault f) row no_text no_end is =
    stuck_then {A = TextRow} {a = text} (text_row_within row) (λ x' y' z w same a s. text_row_rest refl a s) (λ x' y' z v end a s. text_row_then a s)
    (λ r r' x' h m l. text_row_moved row h l) (λ e r h. refl)
    (stuck_here {starts = anything} (class_end_token ∷ []) (at_token is) cannot
    (λ z end. ([], class_end (record { first = class_end_token; tokens = refl; is = refl }))) (λ z end. refl))
  where
    cannot : (x' z : List Placed) (v : List ℕ) → SameFirst y x' → SpellsClass x' z v → ⊥
    cannot x' z v same (class_end t) = there_or_not refl (sym (at_same class_close same) ∙ no_end) t
    cannot x' z v same (class_piece t more) = not_taken no_text same t
class_fails x y text names failure.Memory row no_text no_end is = tt

-- ---- pieces

pub not_repeatable : (names : Names) (x : List Placed) (t : Tree) (e : Failure) → is_at quantifier x ≡ true → is_repeatable t ≡ false → IsMisfit x e →
    Fails names is_calm (Quantifies t) x e
not_repeatable names x t (failure.Fault f) at cannot is =
    stuck_here [] (at_token is) never (λ z end. (t, alone (ended z end).quantifier)) (λ z end. ap not (ended z end).quantifier)
  where
    never : (x' z : List Placed) (v : Tree) → SameFirst x x' → Quantifies t x' z v → ⊥
    never x' z v same (alone h) = absurd (true≢false (sym at ∙ at_same quantifier same ∙ h))
    never x' z v same (by may q s) = absurd (true≢false (sym may ∙ cannot))
not_repeatable names x t failure.Memory at cannot is = tt

pub piece_of_atom : (names : Names) (x : List Placed) (e : Failure) → Fails names is_calm (SpellsAtom names) x e → Fails names is_calm (SpellsPiece names) x e
piece_of_atom names x (failure.Fault f) s = stuck_first [] (λ z end. end) part_of (λ x' z u end a. (u, plain a (ended z end).quantifier)) s
  where
    part_of : (x' z : List Placed) (w : Tree) → SameFirst x x' → SpellsPiece names x' z w → (y : List Placed) × (u : Tree) × SpellsAtom names x' y u
    part_of x' z w same (plain a h) = (_, _, a)
    part_of x' z w same (quantified a may t s) = (_, _, a)
piece_of_atom names x failure.Memory s = tt

quantified_rest : {names : Names} {x y z : List Placed} {t e : Tree} → SpellsAtom names x y t → SpellsPiece names x z e → (d : Tree) × Quantifies t y z d
quantified_rest {z = z} {t = t} {e = e} a (plain b h) =
    let o = one_atom refl a b in
    (t, subst (λ y. Quantifies t y z t) (sym o.1) (alone h))
quantified_rest {z = z} {t = t} {e = e} a (quantified {y = u} {q = q} {s = s} {e = d} b may k l) =
    let o = one_atom refl a b in (
      suffixed q.0 q.1 s d,
      subst (λ y. Quantifies t y z (suffixed q.0 q.1 s d)) (sym o.1)
          (subst (λ c. Quantifies c u z (suffixed q.0 q.1 s d)) (sym o.0) (by may k l)),
    )

piece_whole : {names : Names} {x y z : List Placed} {t d : Tree} → SpellsAtom names x y t → Quantifies t y z d → (e : Tree) × SpellsPiece names x z e
piece_whole a (alone h) = (_, plain a h)
piece_whole a (by may q s) = (_, quantified a may q s)

pub piece_of_quantifier : (names : Names) (x y : List Placed) (t : Tree) (e : Failure) → SpellsAtom names x y t →
    Fails names is_calm (Quantifies t) y e → Fails names is_calm (SpellsPiece names) x e
piece_of_quantifier names x y t (failure.Fault f) a s =
    stuck_then {A = SpellsAtom names} {a = t} (splits.atom a) (λ x' y' z w same b p. quantified_rest b p) (λ x' y' z v end b q. piece_whole b q)
    (λ r r' x' h m l. atom_moved a h l) (λ e r h. h) s
piece_of_quantifier names x y t failure.Memory a s = tt

atom_begins : {names : Names} {x y : List Placed} {e : Tree} → SpellsAtom names x y e → is_branch_end x ≡ false
atom_begins {names = names} {y = y} (node t) = ap is_branch_end t.tokens ∙ of_token t.first t.first.token y refl t.is
  where
    of_token : (p : Placed) (u : Token) (ps : List Placed) {e : Tree} → p.token ≡ u → node_of names u ≡ Some e → is_branch_end (p ∷ ps) ≡ false
    of_token p (Node d) ps is e = ap (λ u. is_branch_end (record { left = 0; token = u } ∷ [])) is
    of_token p (Refer r) ps is e = ap (λ u. is_branch_end (record { left = 0; token = u } ∷ [])) is
    of_token p FlagsItem ps is e = ap (λ u. is_branch_end (record { left = 0; token = u } ∷ [])) is
    of_token p u ps is e = absurd (cc)
atom_begins (class {y = y} t c) = ap is_branch_end t.tokens ∙ of_token t.first t.first.token y refl t.is
  where
    of_token : (p : Placed) (u : Token) (ps : List Placed) {k : Bool} → p.token ≡ u → class_open u ≡ Some k → is_branch_end (p ∷ ps) ≡ false
    of_token p (ClassOpen k) ps is e = ap (λ u. is_branch_end (record { left = 0; token = u } ∷ [])) is
    of_token p u ps is e = absurd (cc)
atom_begins (opened {y = y} t o) = ap is_branch_end t.tokens ∙ of_token t.first t.first.token y refl t.is
  where
    of_token : (p : Placed) (u : Token) (ps : List Placed) {k : Opening} → p.token ≡ u → opening u ≡ Some k → is_branch_end (p ∷ ps) ≡ false
    of_token p (Open k) ps is e = ap (λ u. is_branch_end (record { left = 0; token = u } ∷ [])) is
    of_token p u ps is e = absurd (cc)

pub piece_begins : {names : Names} {x y : List Placed} {e : Tree} → SpellsPiece names x y e → is_branch_end x ≡ false
piece_begins (plain a h) = atom_begins a
piece_begins (quantified a may t s) = atom_begins a

pub pieces_fail : (names : Names) (x y : List Placed) (es : List Tree) (e : Failure) → Row names x y es → is_branch_end y ≡ false →
    Fails names is_calm (SpellsPiece names) y e → Fails names anything (SpellsPieces names) x e
pieces_fail names x y es (failure.Fault f) row on s =
    stuck_then {A = Row names} {a = es} (row_within row) (λ x' y' z w same a p. row_rest refl a p) (λ x' y' z v end a p. row_then a p)
    (λ r r' x' h m l. row_moved row h (λ e. calm_of (m e)) l) (λ e r h. refl) here_stuck
  where
    part_of : (x' z : List Placed) (w : List Tree) → SameFirst y x' → SpellsPieces names x' z w → (u : List Placed) × (d : Tree) × SpellsPiece names x' u d
    part_of x' z w same (no_piece h) = absurd (true≢false (sym h ∙ sym (end_same same) ∙ on))
    part_of x' z w same (piece at p more) = (_, _, p)

    here_stuck : Stuck names is_calm (SpellsPieces names) y f
    here_stuck =
        stuck_first [] (λ z end. end) part_of (λ x' z u end p. (_, piece (piece_begins p) p (no_piece (ended z end).ends))) s
pieces_fail names x y es failure.Memory row on s = tt

-- ---- branches and alternatives

pub branch_of_pieces : (names : Names) (x : List Placed) (e : Failure) → Fails names anything (SpellsPieces names) x e →
    Fails names anything (SpellsBranch names) x e
branch_of_pieces names x (failure.Fault f) s = stuck_first [] (λ z end. end) part_of (λ x' z u end p. (_, branch p)) s
  where
    part_of : (x' z : List Placed) (w : Tree) → SameFirst x x' → SpellsBranch names x' z w → (y : List Placed) × (u : List Tree) × SpellsPieces names x' y u
    part_of x' z w same (branch ps) = (_, _, ps)
branch_of_pieces names x failure.Memory s = tt

pub alternatives_of_branch : (names : Names) (x : List Placed) (e : Failure) → Fails names anything (SpellsBranch names) x e →
    Fails names anything (SpellsAlternatives names) x e
alternatives_of_branch names x (failure.Fault f) s =
    stuck_first [] (λ z end. end) part_of (λ x' z u end b. (_, branches b (no_bar (ended z end).bar))) s
  where
    part_of : (x' z : List Placed) (w : Tree) → SameFirst x x' → SpellsAlternatives names x' z w → (y : List Placed) × (u : Tree) × SpellsBranch names x' y u
    part_of x' z w same (branches b more) = (_, _, b)
alternatives_of_branch names x failure.Memory s = tt

-- branches behind bars, and one more bar
BarTaken : Names → List Placed → List Placed → List Tree → Type 0
BarTaken names x y es = (u : List Placed) × BarRow names x u es × Takes bar u tt y

after_bar : {names : Names} {x y z : List Placed} {ds : List Tree} → Takes bar x tt y → SpellsBars names x z ds → (v : Tree) × SpellsAlternatives names y z v
after_bar t (no_bar h) = there_or_not refl h t
after_bar {names = names} {z = z} t (barred {e = d} {es = es} k b more) =
    (_, subst (λ q. SpellsAlternatives names q z (alternated (d ∷ es))) (sym (one_token refl t k).1) (branches b more))

pub bars_fail : (names : Names) (x y z : List Placed) (es : List Tree) (e : Failure) → BarRow names x y es → Takes bar y tt z →
    Fails names anything (SpellsBranch names) z e → Fails names is_end (SpellsBars names) x e
unfolding BarTaken
bars_fail names x y z es (failure.Fault f) row t s =
    stuck_then {A = BarTaken names} {a = es} (splits.on (bar_row_within row) (splits.takes t)) rest_of whole_of move
    (λ e r h. absurd (let i = lengths.takes t in let j = splits.shorter (bar_row_within row) in omega (arith, e, i, j)))
    (alternatives_of_branch names z (failure.Fault f) s)
  where
    rest_of : (x' y' u : List Placed) (w : List Tree) → SameFirst z y' → (k : List Placed) × BarRow names x' k es × Takes bar k tt y' →
        SpellsBars names x' u w → (v : Tree) × SpellsAlternatives names y' u v
    rest_of x' y' u w same a more = after_bar a.2 (bar_row_rest refl a.1 more).1

    whole_of : (x' y' u : List Placed) (v : Tree) → is_end u ≡ true → (k : List Placed) × BarRow names x' k es × Takes bar k tt y' →
        SpellsAlternatives names y' u v → (w : List Tree) × SpellsBars names x' u w
    whole_of x' y' u v end a (branches b more) = bar_row_then a.1 (barred a.2 b more)

    move : (r r' x' : List Placed) → length r ≤ length z → (length z ≡ length r → Meets anything r r') → Alike r r' x x' →
        Moved (BarTaken names) r r' z x' es
    move r r' x' h m l =
        let i = lengths.takes t in
        let n = bar_row_moved row (omega (arith, h, i)) (λ e. absurd (omega (arith, h, i, e))) l in
        let o = token_moved t h n.alike in
        record { behind = o.behind; alike = o.alike; spelled = (n.behind, n.spelled, o.spelled) }
bars_fail names x y z es failure.Memory row t s = tt

pub alternatives_of_bars : (names : Names) (x y : List Placed) (t : Tree) (e : Failure) → SpellsBranch names x y t →
    Fails names is_end (SpellsBars names) y e → Fails names anything (SpellsAlternatives names) x e
alternatives_of_bars names x y t (failure.Fault f) b s =
    stuck_then {A = SpellsBranch names} {a = t} (splits.one_branch b) rest_of (λ x' y' z v end c more. (_, branches c more))
    (λ r r' x' h m l. branch_moved b h (λ e. follows_of (m e)) l) (λ e r h. refl) s
  where
    rest_of : (x' y' z : List Placed) (w : Tree) → SameFirst y y' → SpellsBranch names x' y' t → SpellsAlternatives names x' z w →
        (v : List Tree) × SpellsBars names y' z v
    rest_of x' y' z w same c (branches {es = es} d more) =
        let o = one_branch refl c d in
        (es, subst (λ q. SpellsBars names q z es) (sym o.1) more)
alternatives_of_bars names x y t failure.Memory b s = tt

-- ---- what ends with a closing parenthesis

no_close : {names : Names} {x : List Placed} {f : Fault} → is_at closing x ≡ false → f ≡ misfit x → Stuck names is_end (OneToken closing) x f
unfolding close_token
no_close lacks is =
    stuck_here (close_token ∷ []) (at_token is) (λ x' z v same t. there_or_not refl (sym (at_same closing same) ∙ lacks) t)
    (λ z end. (tt, record { first = close_token; tokens = refl; is = refl })) (λ z end. refl)

pub last_of_alternatives : (names : Names) (x : List Placed) (e : Failure) → Fails names anything (SpellsAlternatives names) x e →
    Fails names anything (SpellsLast names) x e
unfolding close_token
last_of_alternatives names x (failure.Fault f) s =
    stuck_first (close_token ∷ []) (λ z end. refl) (λ x' z w same l. (l.0, w, l.1))
    (λ x' z u end a. (u, (close_token ∷ z, a, record { first = close_token; tokens = refl; is = refl }))) s
last_of_alternatives names x failure.Memory s = tt

pub last_of_close : (names : Names) (x y : List Placed) (t : Tree) (e : Failure) → SpellsAlternatives names x y t → is_at closing y ≡ false →
    IsMisfit y e → Fails names anything (SpellsLast names) x e
last_of_close names x y t (failure.Fault f) a lacks is =
    stuck_then {A = SpellsAlternatives names} {a = t} (splits.alternatives a) rest_of (λ x' y' z v end b c. (_, (y', b, c)))
    (λ r r' x' h m l. alternatives_moved a h (λ e. follows_of (m e)) l) (λ e r h. refl) (no_close lacks is)
  where
    rest_of : (x' y' z : List Placed) (w : Tree) → SameFirst y y' → SpellsAlternatives names x' y' t → SpellsLast names x' z w →
        (v : Unit {0}) × Takes closing y' v z
    rest_of x' y' z w same b l =
        let o = one_alternatives refl b l.1 in
        (tt, subst (λ q. Takes closing q tt z) (sym o.1) l.2)
last_of_close names x y t failure.Memory a lacks is = tt

last_moved : {names : Names} {r r' x x' y : List Placed} {e : Tree} → SpellsLast names x y e → length r ≤ length y → Alike r r' x x' →
    Moved (SpellsLast names) r r' y x' e
last_moved s h l =
    let k = lengths.takes s.2 in
    let m = alternatives_moved s.1 (omega (arith, h, k)) (λ e. absurd (omega (arith, h, k, e))) l in
    let n = token_moved s.2 h m.alike in
    record { behind = n.behind; alike = n.alike; spelled = (m.behind, m.spelled, n.spelled) }

last_within : {names : Names} {x y : List Placed} {e : Tree} → SpellsLast names x y e → Within y x
last_within s = splits.on (splits.alternatives s.1) (splits.takes s.2)

-- ---- two branches in parentheses

-- what follows the first branch
data Tail (names : Names) (y z : List Placed) : Type 0 where
  closes : Takes closing y tt z → Tail names y z
  splits_off : {u : List Placed} {t : Tree} → Takes bar y tt u → SpellsLast names u z t → Tail names y z

-- a branch, and behind a bar alternatives where there is one
record Halves (names : Names) (S : List Placed → List Placed → Tree → Type 0) : Type 0 where
  one : {x y z : List Placed} {t : Tree} → SpellsBranch names x y t → Takes closing y tt z → (w : Tree) × S x z w
  two : {x y u z : List Placed} {t e : Tree} → SpellsBranch names x y t → Takes bar y tt u → SpellsLast names u z e → (w : Tree) × S x z w
  parts : {x z : List Placed} {w : Tree} → S x z w → (y : List Placed) × (t : Tree) × SpellsBranch names x y t × Tail names y z

halves_first : {names : Names} {S : List Placed → List Placed → Tree → Type 0} → Halves names S → (x : List Placed) (e : Failure) →
    Fails names anything (SpellsBranch names) x e → Fails names anything S x e
unfolding close_token
halves_first {S = S} s x (failure.Fault f) b =
    stuck_first (close_token ∷ []) (λ z end. refl) (λ x' z w same v. let p = s.parts v in (p.0, p.1, p.2))
    (λ x' z u end a. s.one a (record { first = close_token; tokens = refl; is = refl })) b
halves_first s x failure.Memory b = tt

halves_close : {names : Names} {S : List Placed → List Placed → Tree → Type 0} → Halves names S → (x y : List Placed) (t : Tree) (e : Failure) →
    SpellsBranch names x y t → is_at bar y ≡ false → is_at closing y ≡ false → IsMisfit y e → Fails names anything S x e
halves_close {names} {S} s x y t (failure.Fault f) b no_bar_there lacks is =
    stuck_then {A = SpellsBranch names} {a = t} (splits.one_branch b) rest_of (λ x' y' z v end c k. s.one c k)
    (λ r r' x' h m l. branch_moved b h (λ e. follows_of (m e)) l) (λ e r h. refl) (no_close lacks is)
  where
    rest_of : (x' y' z : List Placed) (w : Tree) → SameFirst y y' → SpellsBranch names x' y' t → S x' z w → (v : Unit {0}) × Takes closing y' v z
    rest_of x' y' z w same c v = let p = s.parts v in by_tail (one_branch refl c p.2).1 p.3
      where
        by_tail : {u : List Placed} → y' ≡ u → Tail names u z → (v : Unit {0}) × Takes closing y' v z
        by_tail q (closes k) = (tt, subst (λ q. Takes closing q tt z) (sym q) k)
        by_tail q (splits_off k l) = there_or_not q (sym (at_same bar same) ∙ no_bar_there) k
halves_close s x y t failure.Memory b no_bar_there lacks is = tt

-- a branch, and the bar behind it
BranchBar : Names → List Placed → List Placed → Tree → Type 0
BranchBar names x y t = (u : List Placed) × SpellsBranch names x u t × Takes bar u tt y

halves_last : {names : Names} {S : List Placed → List Placed → Tree → Type 0} → Halves names S → (x y z : List Placed) (t : Tree) (e : Failure) →
    SpellsBranch names x y t → Takes bar y tt z → Fails names anything (SpellsLast names) z e → Fails names anything S x e
unfolding BranchBar
halves_last {names} {S} s x y z t (failure.Fault f) b k last =
    stuck_then {A = BranchBar names} {a = t} (splits.on (splits.one_branch b) (splits.takes k)) rest_of (λ x' y' u v end c l. s.two c.1 c.2 l) move
    (λ e r h. refl) last
  where
    rest_of : (x' y' u : List Placed) (w : Tree) → SameFirst z y' → (q : List Placed) × SpellsBranch names x' q t × Takes bar q tt y' → S x' u w →
        (v : Tree) × SpellsLast names y' u v
    rest_of x' y' u w same c v = let p = s.parts v in by_tail (one_branch refl c.1 p.2).1 p.3
      where
        by_tail : {q : List Placed} → c.0 ≡ q → Tail names q u → (v : Tree) × SpellsLast names y' u v
        by_tail q (closes l) = clash close_or_bar (sym q) l c.2
        by_tail q (splits_off {t = d} l last) = (d, subst (λ a. SpellsLast names a u d) (sym (one_token q c.2 l).1) last)

    move : (r r' x' : List Placed) → length r ≤ length z → (length z ≡ length r → Meets anything r r') → Alike r r' x x' →
        Moved (BranchBar names) r r' z x' t
    move r r' x' h m l =
        let i = lengths.takes k in
        let n = branch_moved b (omega (arith, h, i)) (λ e. absurd (omega (arith, h, i, e))) l in
        let o = token_moved k h n.alike in
        record { behind = o.behind; alike = o.alike; spelled = (n.behind, n.spelled, o.spelled) }
halves_last s x y z t failure.Memory b k last = tt

absent_halves : (names : Names) → Halves names (SpellsOpened names AbsentBar)
absent_halves names = record {
  one = λ b k. (_, stopper b k);
  two = λ b k l. (_, expression b k l.1 l.2);
  parts = parts_of;
}
  where
    parts_of : {x z : List Placed} {w : Tree} → SpellsOpened names AbsentBar x z w → (y : List Placed) ×
        (t : Tree) × SpellsBranch names x y t × Tail names y z
    parts_of (stopper b k) = (_, _, b, closes k)
    parts_of (expression {e = e} b k a c) = (_, _, b, splits_off k (_, a, c))

body_halves : (names : Names) (c : Tree) → Halves names (SpellsBodies names c)
body_halves names c = record {
  one = λ b k. (_, one_body b k);
  two = λ b k l. (_, two_bodies b k l.1 l.2);
  parts = parts_of;
}
  where
    parts_of : {x z : List Placed} {w : Tree} → SpellsBodies names c x z w → (y : List Placed) × (t : Tree) × SpellsBranch names x y t × Tail names y z
    parts_of (one_body b k) = (_, _, b, closes k)
    parts_of (two_bodies {f = f} b k a l) = (_, _, b, splits_off k (_, a, l))

opened_fails : (names : Names) (o : Opening) (x : List Placed) (e : Failure) → Fails names anything (SpellsOpened names o) x e → FailsOpened names o x e
opened_fails names o x (failure.Fault f) s = behind s
opened_fails names o x failure.Memory s = tt

pub absent_of_branch : (names : Names) (x : List Placed) (e : Failure) → Fails names anything (SpellsBranch names) x e → FailsOpened names AbsentBar x e
absent_of_branch names x e b = opened_fails names AbsentBar x e (halves_first (absent_halves names) x e b)

pub absent_of_close : (names : Names) (x y : List Placed) (t : Tree) (e : Failure) → SpellsBranch names x y t → is_at bar y ≡ false →
    is_at closing y ≡ false → IsMisfit y e → FailsOpened names AbsentBar x e
absent_of_close names x y t e b k lacks is = opened_fails names AbsentBar x e (halves_close (absent_halves names) x y t e b k lacks is)

pub absent_of_last : (names : Names) (x y z : List Placed) (t : Tree) (e : Failure) → SpellsBranch names x y t → Takes bar y tt z →
    Fails names anything (SpellsLast names) z e → FailsOpened names AbsentBar x e
absent_of_last names x y z t e b k l = opened_fails names AbsentBar x e (halves_last (absent_halves names) x y z t e b k l)

pub bodies_of_branch : (names : Names) (c : Tree) (x : List Placed) (e : Failure) → Fails names anything (SpellsBranch names) x e →
    Fails names anything (SpellsBodies names c) x e
bodies_of_branch names c x e b = halves_first (body_halves names c) x e b

pub bodies_of_close : (names : Names) (c : Tree) (x y : List Placed) (t : Tree) (e : Failure) → SpellsBranch names x y t → is_at bar y ≡ false →
    is_at closing y ≡ false → IsMisfit y e → Fails names anything (SpellsBodies names c) x e
bodies_of_close names c x y t e b k lacks is = halves_close (body_halves names c) x y t e b k lacks is

pub bodies_of_last : (names : Names) (c : Tree) (x y z : List Placed) (t : Tree) (e : Failure) → SpellsBranch names x y t → Takes bar y tt z →
    Fails names anything (SpellsLast names) z e → Fails names anything (SpellsBodies names c) x e
bodies_of_last names c x y z t e b k l = halves_last (body_halves names c) x y z t e b k l

-- ---- groups

pub around_of_last : (names : Names) (g : Enclosing) (x : List Placed) (e : Failure) → Fails names anything (SpellsLast names) x e →
    FailsOpened names (Around g) x e
around_of_last names g x (failure.Fault f) s = behind (stuck_first [] (λ z end. end) part_of (λ x' z u end l. (_, around l.1 l.2)) s)
  where
    part_of : (x' z : List Placed) (w : Tree) → SameFirst x x' → SpellsOpened names (Around g) x' z w → (y : List Placed) ×
        (u : Tree) × SpellsLast names x' y u
    part_of x' z w same (around a c) = (_, _, (_, a, c))
around_of_last names g x failure.Memory s = tt

pub around_fails : {A : Type 0} (names : Names) (g : Enclosing) (x : List Placed) (r : Result A Failure) → IfErr r (Fails names anything (SpellsLast names) x) →
    IfErr r (FailsOpened names (Around g) x)
around_fails names g x (Ok e) h = tt
around_fails names g x (Err e) h = around_of_last names g x e h

pub group_of_last : (names : Names) (number : ℕ) (name : Option (List ℕ)) (x : List Placed) (e : Failure) → Fails names anything (SpellsLast names) x e →
    FailsOpened names (Group number name) x e
group_of_last names number name x (failure.Fault f) s = behind (stuck_first [] (λ z end. end) part_of (λ x' z u end l. (_, group l.1 l.2)) s)
  where
    part_of : (x' z : List Placed) (w : Tree) → SameFirst x x' → SpellsOpened names (Group number name) x' z w →
        (y : List Placed) × (u : Tree) × SpellsLast names x' y u
    part_of x' z w same (group a c) = (_, _, (_, a, c))
group_of_last names number name x failure.Memory s = tt

-- no branch but the closing parenthesis
empty_body : (names : Names) (c : Tree) (z : List Placed) → (e : Tree) × SpellsBodies names c (close_token ∷ z) z e
unfolding close_token
empty_body names c z = (_, one_body (branch (no_piece refl)) (record { first = close_token; tokens = refl; is = refl }))

pub pattern_of_last : (names : Names) (x : List Placed) (e : Failure) → Fails names anything (SpellsLast names) x e → FailsOpened names IfPattern x e
unfolding close_token
pattern_of_last names x (failure.Fault f) s =
    behind (stuck_first (close_token ∷ []) (λ z end. refl) part_of (λ x' z u end l. (_, if_pattern l.1 l.2 (empty_body names u z).1)) s)
  where
    part_of : (x' z : List Placed) (w : Tree) → SameFirst x x' → SpellsOpened names IfPattern x' z w → (y : List Placed) ×
        (u : Tree) × SpellsLast names x' y u
    part_of x' z w same (if_pattern a c b) = (_, _, (_, a, c))
pattern_of_last names x failure.Memory s = tt

pub look_of_last : (names : Names) (k : tree.Look) (x : List Placed) (e : Failure) → Fails names anything (SpellsLast names) x e →
    FailsOpened names (IfLook k) x e
unfolding close_token
look_of_last names k x (failure.Fault f) s =
    behind (stuck_first (close_token ∷ []) (λ z end. refl) part_of (λ x' z u end l. (_, if_look l.1 l.2 (empty_body names (tree.LookAround k u) z).1)) s)
  where
    part_of : (x' z : List Placed) (w : Tree) → SameFirst x x' → SpellsOpened names (IfLook k) x' z w → (y : List Placed) ×
        (u : Tree) × SpellsLast names x' y u
    part_of x' z w same (if_look a c b) = (_, _, (_, a, c))
look_of_last names k x failure.Memory s = tt

pub pattern_of_bodies : (names : Names) (c : Tree) (x y : List Placed) (e : Failure) → SpellsLast names x y c →
    Fails names anything (SpellsBodies names c) y e → FailsOpened names IfPattern x e
pattern_of_bodies names c x y (failure.Fault f) l s =
    behind (stuck_then {A = SpellsLast names} {a = c} (last_within l) rest_of (λ x' y' z v end k b. (_, if_pattern k.1 k.2 b))
    (λ r r' x' h m q. last_moved l h q) (λ e r h. refl) s)
  where
    rest_of : (x' y' z : List Placed) (w : Tree) → SameFirst y y' → SpellsLast names x' y' c → SpellsOpened names IfPattern x' z w →
        (v : Tree) × SpellsBodies names c y' z v
    rest_of x' y' z w same k (if_pattern a b d) =
        let o = one_alternatives refl k.1 a in
        (w, subst (λ q. SpellsBodies names c q z w) (sym (one_token o.1 k.2 b).1) (of_condition o.0 d))
pattern_of_bodies names c x y failure.Memory l s = tt

pub look_of_bodies : (names : Names) (k : tree.Look) (c d : Tree) (x y : List Placed) (e : Failure) → SpellsLast names x y c →
    d ≡ tree.LookAround k c → Fails names anything (SpellsBodies names d) y e → FailsOpened names (IfLook k) x e
look_of_bodies names k c d x y (failure.Fault f) l is s =
    behind (stuck_then {A = SpellsLast names} {a = c} (last_within l) rest_of whole_of (λ r r' x' h m q. last_moved l h q) (λ e r h. refl) s)
  where
    rest_of : (x' y' z : List Placed) (w : Tree) → SameFirst y y' → SpellsLast names x' y' c → SpellsOpened names (IfLook k) x' z w →
        (v : Tree) × SpellsBodies names d y' z v
    rest_of x' y' z w same q (if_look a b g) =
        let o = one_alternatives refl q.1 a in
        (w, subst (λ p. SpellsBodies names d p z w) (sym (one_token o.1 q.2 b).1) (of_condition (is ∙ ap (tree.LookAround k) o.0) g))

    whole_of : (x' y' z : List Placed) (v : Tree) → is_end z ≡ true → SpellsLast names x' y' c → SpellsBodies names d y' z v →
        (w : Tree) × SpellsOpened names (IfLook k) x' z w
    whole_of x' y' z v end q b = (_, if_look q.1 q.2 (subst (λ p. SpellsBodies names p y' z v) is b))
look_of_bodies names k c d x y failure.Memory l is s = tt

pub if_unnamed : (names : Names) (r : Reference) (x : List Placed) (e : Failure) → NoNode (reference names r) r.left e → FailsOpened names (If r) x e
if_unnamed names r x (failure.Fault f) h = unnamed r refl h.0 h.1
if_unnamed names r x failure.Memory h = tt

-- where the closing parenthesis comes at once
closed_bodies : {names : Names} {c : Tree} {x z : List Placed} {w : Tree} → is_branch_end x ≡ true → is_at bar x ≡ false → SpellsBodies names c x z w →
    Takes closing x tt z
closed_bodies end lacks (one_body (branch (no_piece h)) k) = k
closed_bodies end lacks (one_body (branch (piece on p more)) k) = absurd (true≢false (sym end ∙ on))
closed_bodies end lacks (two_bodies (branch (no_piece h)) k a l) = there_or_not refl lacks k
closed_bodies end lacks (two_bodies (branch (piece on p more)) k a l) = absurd (true≢false (sym end ∙ on))

close_ends : (x : List Placed) → is_at closing x ≡ true → (is_branch_end x ≡ true) × (is_at bar x ≡ false)
close_ends [] h = absurd (true≢false (sym h))
close_ends (p ∷ ps) h = let e = ended (p ∷ ps) h in (e.ends, e.bar)

pub if_of_bodies : (names : Names) (r : Reference) (c : Tree) (x : List Placed) (e : Failure) → reference names r ≡ Some c → is_at closing x ≡ false →
    Fails names anything (SpellsBodies names c) x e → FailsOpened names (If r) x e
if_of_bodies names r c x (failure.Fault f) is lacks s = behind (stuck_first [] (λ z end. end) part_of (λ x' z u end b. whole_of x' z u b
    (is_at closing x') refl) s)
  where
    part_of : (x' z : List Placed) (w : Tree) → SameFirst x x' → SpellsOpened names (If r) x' z w → (y : List Placed) ×
        (u : Tree) × SpellsBodies names c x' y u
    part_of x' z w same (asked q k) = there_or_not refl (sym (at_same closing same) ∙ lacks) k
    part_of x' z w same (if_group q h b) = (z, w, of_condition (some_same is q) b)

    whole_of : (x' z : List Placed) (u : Tree) → SpellsBodies names c x' z u → (b : Bool) → is_at closing x' ≡ b → (w : Tree) × SpellsOpened names
        (If r) x' z w
    whole_of x' z u b true at = let e = close_ends x' at in (c, asked is (closed_bodies e.0 e.1 b))
    whole_of x' z u b false at = (u, if_group is at b)
if_of_bodies names r c x failure.Memory is lacks s = tt

-- ---- what calls answer

pub atom_opened_fails : {A : Type 0} (names : Names) (x y : List Placed) (o : Opening) (r : Result A Failure) → Takes opening x o y →
    IfErr r (FailsOpened names o y) →
    IfErr r (Fails names is_calm (SpellsAtom names) x)
atom_opened_fails names x y o (Ok v) t h = tt
atom_opened_fails names x y o (Err e) t h = atom_of_opened names x y o e t h

pub atom_class_fails : {A : Type 0} (names : Names) (x y : List Placed) (casei : Bool) (r : Result A Failure) → Takes class_open x casei y →
    IfErr r (Fails names anything SpellsClass y) → IfErr r (Fails names is_calm (SpellsAtom names) x)
atom_class_fails names x y casei (Ok v) t h = tt
atom_class_fails names x y casei (Err e) t h = atom_of_class names x y casei e t h

pub atom_node_fails : {A : Type 0} (names : Names) (x : List Placed) (r : Result A Failure) → first_gives opening x ≡ None → first_gives class_open x ≡ None →
    IfErr r (Fails names is_calm (OneToken (node_of names)) x) → IfErr r (Fails names is_calm (SpellsAtom names) x)
atom_node_fails names x (Ok v) no_open no_class h = tt
atom_node_fails names x (Err e) no_open no_class h = atom_of_node names x e no_open no_class h

pub piece_fails : {A : Type 0} (names : Names) (x y : List Placed) (t : Tree) (r : Result A Failure) → SpellsAtom names x y t →
    IfErr r (Fails names is_calm (Quantifies t) y) → IfErr r (Fails names is_calm (SpellsPiece names) x)
piece_fails names x y t (Ok v) a h = tt
piece_fails names x y t (Err e) a h = piece_of_quantifier names x y t e a h

pub if_fails : {A : Type 0} (names : Names) (q : Reference) (c : Tree) (x : List Placed) (r : Result A Failure) → Some c ≡ reference names q →
    false ≡ is_at closing x →
    IfErr r (Fails names anything (SpellsBodies names c) x) → IfErr r (FailsOpened names (If q) x)
if_fails names q c x (Ok v) is lacks h = tt
if_fails names q c x (Err e) is lacks h = if_of_bodies names q c x e (sym is) (sym lacks) h

pub pattern_fails : {A : Type 0} (names : Names) (c : Tree) (x y : List Placed) (o : Opening) (r : Result A Failure) → o ≡ IfPattern → SpellsLast names x y c →
    IfErr r (Fails names anything (SpellsBodies names c) y) → IfErr r (FailsOpened names o x)
pattern_fails names c x y o (Ok v) is l h = tt
pattern_fails names c x y o (Err e) is l h = subst (λ p. FailsOpened names p x e) (sym is) (pattern_of_bodies names c x y e l h)

pub look_fails : {A : Type 0} (names : Names) (k : tree.Look) (c d : Tree) (x y : List Placed) (o : Opening) (r : Result A Failure) → o ≡ IfLook k →
    SpellsLast names x y c → d ≡ tree.LookAround k c → IfErr r (Fails names anything (SpellsBodies names d) y) → IfErr r (FailsOpened names o x)
look_fails names k c d x y o (Ok v) is l same h = tt
look_fails names k c d x y o (Err e) is l same h = subst (λ p. FailsOpened names p x e) (sym is) (look_of_bodies names k c d x y e l same h)

pub group_fails : {A : Type 0} (names : Names) (number : ℕ) (name : Option (List ℕ)) (x : List Placed) (r : Result A Failure) →
    IfErr r (Fails names anything (SpellsLast names) x) → IfErr r (FailsOpened names (Group number name) x)
group_fails names number name x (Ok v) h = tt
group_fails names number name x (Err e) h = group_of_last names number name x e h

pub bars_fails : {A : Type 0} (names : Names) (x y : List Placed) (t : Tree) (r : Result A Failure) → SpellsBranch names x y t →
    IfErr r (Fails names is_end (SpellsBars names) y) → IfErr r (Fails names anything (SpellsAlternatives names) x)
bars_fails names x y t (Ok v) b h = tt
bars_fails names x y t (Err e) b h = alternatives_of_bars names x y t e b h

pub close_fails : {A : Type 0} (names : Names) (x y : List Placed) (t : Tree) (r : Result A Failure) → SpellsAlternatives names x y t →
    IfErr r (λ e. (is_at closing y ≡ false) × IsMisfit y e) → IfErr r (Fails names anything (SpellsLast names) x)
close_fails names x y t (Ok v) a h = tt
close_fails names x y t (Err e) a h = last_of_close names x y t e a h.0 h.1

-- an opening of this form
pub form_fails : {A : Type 0} (names : Names) (o p : Opening) (x : List Placed) (r : Result A Failure) → o ≡ p → IfErr r (FailsOpened names p x) →
    IfErr r (FailsOpened names o x)
form_fails names o p x r is h = subst (λ q. IfErr r (FailsOpened names q x)) (sym is) h

pub of_form : (names : Names) (o p : Opening) (x : List Placed) (e : Failure) → o ≡ p → FailsOpened names p x e → FailsOpened names o x e
of_form names o p x e is h = subst (λ q. FailsOpened names q x e) (sym is) h
