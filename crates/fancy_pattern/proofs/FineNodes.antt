-- What is spelled is fine, but for what its texts are.
use Rattle.std.proofs.Common.{◌≡◌, ℕ, ℤ, ◌<◌, Bool, true, false, not, cond, List, [], ◌∷◌, ◌++◌, length, map, reverse, filter, encode_utf8_all, Option, Some, None, IfSome, refl, sym, subst, arith, append-nil}
use Rattle.std.specs.Prelude.{FitsSigned}
use Rattle.std.specs.Int.{w64}
use Rattle.std.specs.Str.{bytes_eq}
use Rattle.std.proofs.Math.Utf8.{encode}
use Rattle.std.proofs.lemmas.List.{length-reverse}
use Rattle.std.proofs.lemmas.Grind.{reverse_onto}
use Rattle.fancy_meaning.specs.Tree as tree
use Rattle.fancy_meaning.specs.Tree.{Tree, trees}
use Rattle.fancy_meaning.specs.Nodes.{nodes, nodes_of_each}
use Rattle.fancy_meaning.specs.WellFormed.{IsUsize}
use Rattle.fancy_expr.specs.Each.{Each}
use Rattle.fancy_tokens.specs.declared.tokens.Enclosing.{Enclosing}
use Rattle.fancy_tokens.specs.declared.tokens.Enclosing.TheVariants as enclosing
use Rattle.fancy_tokens.specs.declared.tokens.Naming.{Naming}
use Rattle.fancy_tokens.specs.declared.tokens.Naming.TheVariants as naming
use Rattle.fancy_tokens.specs.declared.tokens.Quantifier.{Quantifier}
use Rattle.fancy_tokens.specs.declared.tokens.Suffix.{Suffix}
use Rattle.fancy_tokens.specs.declared.tokens.Suffix.TheVariants.{Turned, Possessive}
use Rattle.fancy_tokens.specs.Tokens.{Target, Name, Number, Nowhere, Reference, Opening, Group, Token, Node, Refer, FlagsItem, Open, Quantified, Placed}
use Rattle.fancy_pattern.specs.Naming.{numbers_of, named_in, named_of, named_opening}
use Rattle.fancy_pattern.specs.Stuck.{Within, whole, past}
use Rattle.fancy_pattern.specs.Grammar.{Names, Takes, named, unresolved, several, by_groups, by_target, reference, node_of, opening, class_of, quantifier, suffixed, enclosed, is_empty, joined, alternated, SpellsAtom, node, class, opened, SpellsOpened, around, group, stopper, expression, asked, if_group, if_pattern, if_look, SpellsBodies, one_body, two_bodies, SpellsPiece, plain, quantified, SpellsPieces, no_piece, piece, SpellsBranch, branch, SpellsBars, no_bar, barred, SpellsAlternatives, branches}
use Rattle.fancy_pattern.proofs.Splits as splits
use Rattle.fancy_pattern.proofs.Namesakes.{several_nodes}
use Rattle.fancy_pattern.proofs.FoundTokens.{FineToken, FineTarget, FineOpening, FineReference, FineCounts, FineBut}

each_append : {X : Type 0} (P : X → Type 0) (xs ys : List X) → Each P xs → Each P ys → Each P (xs ++ ys)
each_append P [] ys h k = k
each_append P (x ∷ xs) ys h k = (h.0, each_append P xs ys h.1 k)

abbrev AllFine : Tree → Type 0
AllFine e = Each FineBut (nodes e)

abbrev RowFine : List Tree → Type 0
RowFine es = Each FineBut (nodes_of_each (trees es))

-- ---- names

abbrev NamesFine : Names → Type 0
NamesFine names = Each (λ p. IsUsize p.1) names

numbers_fine : (names : Names) (name : List ℕ) → NamesFine names → Each IsUsize (numbers_of names name)
numbers_fine [] name h = tt
numbers_fine (p ∷ ps) name h = by_test (bytes_eq name p.0) (numbers_fine ps name h.1)
  where
    by_test : (b : Bool) → Each IsUsize (numbers_of ps name) →
        Each IsUsize (map (λ q. q.1) (cond b (p ∷ filter (λ q. bytes_eq name q.0) ps) (filter (λ q. bytes_eq name q.0) ps)))
    by_test true k = (h.0, k)
    by_test false k = k

opening_names : (o : Opening) → FineOpening o → (o' : Option (List ℕ × ℕ)) → named_opening o ≡ o' → NamesFine (elim o' [
  | Some p ↦
      (encode_utf8_all p.0, p.1) ∷ []
  | None ↦ []
])
opening_names o h None e = tt
opening_names (Group number None) h (Some p) e = absurd (cc)
opening_names (Group number (Some name)) h (Some p) e = let same : (name, number) ≡ p = cc in (subst (λ q. IsUsize q.1) same h, tt)
opening_names o h (Some p) e = absurd (cc)

token_names : (t : Token) → FineToken t → NamesFine (named_of t)
token_names (Open o) h = opening_names o h (named_opening o) refl
token_names t h = tt

pub names_fine : (ts : List Placed) → Each (λ p. FineToken p.token) ts → NamesFine (named_in ts)
names_fine [] h = tt
names_fine (p ∷ ps) h = each_append (λ p. IsUsize p.1) (named_of p.token) (named_in ps) (token_names p.token h.0) (names_fine ps h.1)

-- ---- references

named_fine : (n : Naming) (level : Option ℤ) (g : ℕ) → IsUsize g → IfSome level (FitsSigned w64) → AllFine (named n level g)
named_fine (naming.Backref casei) None g h k = (h, tt)
named_fine (naming.Backref casei) (Some l) g h k = ((h, k), tt)
named_fine naming.Exists level g h k = ((h, k), tt)
named_fine naming.Call level g h k = (h, tt)

unresolved_fine : (n : Naming) → AllFine (unresolved n)
unresolved_fine (naming.Backref casei) = (tt, tt)
unresolved_fine naming.Exists = (tt, tt)
unresolved_fine naming.Call = (tt, tt)

all_named : (n : Naming) (level : Option ℤ) (gs : List ℕ) → Each IsUsize gs → IfSome level (FitsSigned w64) → RowFine (map (named n level) gs)
all_named n level [] h k = tt
all_named n level (g ∷ gs) h k =
    each_append FineBut (nodes (named n level g)) (nodes_of_each (trees (map (named n level) gs))) (named_fine n level g h.0 k) (all_named n level gs h.1 k)

some_reversed : (g : ℕ) (gs : List ℕ) → 0 < length (reverse (g ∷ gs))
some_reversed g gs = omega (arith, length-reverse (g ∷ gs))

each_reverse : (gs : List ℕ) → Each IsUsize gs → Each IsUsize (reverse gs)
each_reverse [] h = tt
each_reverse (g ∷ gs) h = subst (Each IsUsize) (sym (reverse_onto gs g [])) (each_append IsUsize (reverse gs) (g ∷ []) (each_reverse gs h.1) (h.0, tt))

alt_fine : (n : Naming) (level : Option ℤ) (gs : List ℕ) → 0 < length gs → Each IsUsize gs → IfSome level (FitsSigned w64) →
    AllFine (tree.Alt (trees (map (named n level) gs)))
alt_fine n level [] some h k = absurd (omega (arith, some))
alt_fine n level (g ∷ gs) some h k = (tt, all_named n level (g ∷ gs) h k)

same_fine : (e d : Tree) → AllFine e → Some e ≡ Some d → AllFine d
same_fine e d h is = let same : e ≡ d = cc in subst AllFine same h

several_fine : (n : Naming) (level : Option ℤ) (g : ℕ) (gs : List ℕ) (e : Tree) → Each IsUsize (g ∷ gs) → IfSome level (FitsSigned w64) →
    several n level (g ∷ gs) ≡ Some e → AllFine e
several_fine n level g gs e h k is =
    same_fine _ e (alt_fine n level (reverse (g ∷ gs)) (some_reversed g gs) (each_reverse (g ∷ gs) h) k) (several_nodes n level (g ∷ gs) e is)

by_groups_fine : (n : Naming) (level : Option ℤ) (gs : List ℕ) (e : Tree) → Each IsUsize gs → IfSome level (FitsSigned w64) → by_groups n level gs ≡ Some e →
    AllFine e
by_groups_fine n level [] e h k is = same_fine _ e (unresolved_fine n) is
by_groups_fine n level (g ∷ []) e h k is = same_fine _ e (named_fine n level g h.0 k) is
by_groups_fine n level (g ∷ d ∷ gs) e h k is = several_fine n level g (d ∷ gs) e h k is

reference_fine : (names : Names) (r : Reference) (e : Tree) → NamesFine names → FineReference r → reference names r ≡ Some e → AllFine e
reference_fine names r e all fine is = by_target_fine r.target fine.0 is
  where
    by_target_fine : (t : Target) → FineTarget t → by_target names r.naming r.level t ≡ Some e → AllFine e
    by_target_fine (Name name) h is =
        by_groups_fine r.naming r.level (numbers_of names (encode_utf8_all name)) e (numbers_fine names (encode_utf8_all name) all) fine.1 is
    by_target_fine (Number g) h is = same_fine _ e (named_fine r.naming r.level g h fine.1) is
    by_target_fine Nowhere h is = same_fine _ e (unresolved_fine r.naming) is

-- ---- tokens

abbrev Fine : List Placed → Type 0
Fine ts = Each (λ p. FineToken p.token) ts

within : {y x : List Placed} → Within y x → Fine x → Fine y
within whole h = h
within (past p w) h = within w h.1

first_fine : {V : Type 0} {gives : Token → Option V} {x y : List Placed} {v : V} (t : Takes gives x v y) → Fine x → FineToken t.first.token
first_fine t fine = (subst Fine t.tokens fine).0

node_fine : (names : Names) (t : Token) (e : Tree) → NamesFine names → FineToken t → node_of names t ≡ Some e → AllFine e
node_fine names (Node d) e all fine is = same_fine d e fine.1 is
node_fine names (Refer r) e all fine is = reference_fine names r e all fine is
node_fine names FlagsItem e all fine is = same_fine tree.Empty e (tt, tt) is
node_fine names t e all fine is = absurd (cc)

opening_fine : (t : Token) (o : Opening) → FineToken t → opening t ≡ Some o → FineOpening o
opening_fine (Open p) o fine is = let same : p ≡ o = cc in subst FineOpening same fine
opening_fine t o fine is = absurd (cc)

quantifier_fine : (t : Token) (q : Quantifier × Bool) → FineToken t → quantifier t ≡ Some q → FineCounts q.0
quantifier_fine (Quantified p greedy) q fine is = let same : (p, greedy) ≡ q = cc in subst (λ r. FineCounts r.0) same fine
quantifier_fine t q fine is = absurd (cc)

-- ---- what is made

suffixed_fine : (q : Quantifier) (greedy : Bool) (s : Option Suffix) (e : Tree) → FineCounts q → AllFine e → AllFine (suffixed q greedy s e)
suffixed_fine q greedy None e h k = (h, k)
suffixed_fine q greedy (Some Turned) e h k = (h, k)
suffixed_fine q greedy (Some Possessive) e h k = (tt, (h, k))

enclosed_fine : (f : Enclosing) (e : Tree) → AllFine e → AllFine (enclosed f e)
enclosed_fine enclosing.Plain e h = h
enclosed_fine enclosing.Atomic e h = (tt, h)
enclosed_fine enclosing.Define e h = (tt, h)
enclosed_fine (enclosing.Look l) e h = (tt, h)
enclosed_fine enclosing.AbsentRepeater e h = (tt, h)

class_fine : (text : List ℕ) (casei : Bool) → AllFine (class_of text casei)
unfolding encode
class_fine text casei = (tt, tt)

row_more : (e : Tree) (es : List Tree) → AllFine e → RowFine es → RowFine (e ∷ es)
row_more e es h k = each_append FineBut (nodes e) (nodes_of_each (trees es)) h k

joined_fine : (es : List Tree) → RowFine es → AllFine (joined es)
joined_fine [] h = (tt, tt)
joined_fine (e ∷ []) h = subst (Each FineBut) (append-nil (nodes e)) h
joined_fine (e ∷ d ∷ es) h = (tt, h)

alternated_fine : (es : List Tree) → RowFine es → AllFine (alternated es)
alternated_fine [] h = (tt, tt)
alternated_fine (e ∷ []) h = subst (Each FineBut) (append-nil (nodes e)) h
alternated_fine (e ∷ d ∷ es) h = (tt, h)

some_fine : (e : Tree) (es : List Tree) (b : Bool) → AllFine e → RowFine (filter (λ d. not (is_empty d)) es) →
    RowFine (cond (not b) (e ∷ filter (λ d. not (is_empty d)) es) (filter (λ d. not (is_empty d)) es))
some_fine e es true h k = k
some_fine e es false h k = row_more e (filter (λ d. not (is_empty d)) es) h k

-- ---- what is spelled

mutual
  atom_fine : {names : Names} {x y : List Placed} {e : Tree} → SpellsAtom names x y e → NamesFine names → Fine x → AllFine e
  atom_fine {names = names} {e = e} (node t) all fine = node_fine names t.first.token e all (first_fine t fine) t.is
  atom_fine (class {casei = k} {text = text} t c) all fine = class_fine text k
  atom_fine (opened {o = o} t s) all fine = opened_fine s all (opening_fine t.first.token o (first_fine t fine) t.is) (within (splits.takes t) fine)

  opened_fine : {names : Names} {o : Opening} {x y : List Placed} {e : Tree} → SpellsOpened names o x y e → NamesFine names → FineOpening o → Fine x →
      AllFine e
  opened_fine (around {f = f} {e = e} a c) all o fine = enclosed_fine f e (alternatives_fine a all fine)
  opened_fine (group a c) all o fine = (tt, alternatives_fine a all fine)
  opened_fine (stopper b c) all o fine = (tt, branch_fine b all fine)
  opened_fine (expression {a = d} {e = e} b t a c) all o fine = (
    tt,
    each_append FineBut (nodes d) (nodes e) (branch_fine b all fine)
        (alternatives_fine a all (within (splits.on (splits.one_branch b) (splits.takes t)) fine)),
  )
  opened_fine {names = names} (asked {r = r} {c = c} is t) all o fine = reference_fine names r c all o is
  opened_fine {names = names} (if_group {r = r} {c = c} is h b) all o fine = bodies_fine b all (reference_fine names r c all o is) fine
  opened_fine (if_pattern a c b) all o fine =
      bodies_fine b all (alternatives_fine a all fine) (within (splits.on (splits.alternatives a) (splits.takes c)) fine)
  opened_fine (if_look a c b) all o fine =
      bodies_fine b all (tt, alternatives_fine a all fine) (within (splits.on (splits.alternatives a) (splits.takes c)) fine)

  bodies_fine : {names : Names} {c : Tree} {x y : List Placed} {e : Tree} → SpellsBodies names c x y e → NamesFine names → AllFine c → Fine x → AllFine e
  bodies_fine {c = c} (one_body {t = t} b k) all h fine =
      (tt, each_append FineBut (nodes c) (nodes t ++ nodes tree.Empty) h (each_append FineBut (nodes t) (nodes tree.Empty) (branch_fine b all fine) (tt, tt)))
  bodies_fine {c = c} (two_bodies {t = t} {f = f} b s a k) all h fine = (
    tt,
    each_append FineBut (nodes c) (nodes t ++ nodes f) h (each_append FineBut (nodes t) (nodes f) (branch_fine b all fine)
        (alternatives_fine a all (within (splits.on (splits.one_branch b) (splits.takes s)) fine))),
  )

  piece_fine : {names : Names} {x y : List Placed} {e : Tree} → SpellsPiece names x y e → NamesFine names → Fine x → AllFine e
  piece_fine (plain a h) all fine = atom_fine a all fine
  piece_fine (quantified {q = q} {s = s} {e = e} a may t k) all fine =
      suffixed_fine q.0 q.1 s e (quantifier_fine t.first.token q (first_fine t (within (splits.atom a) fine)) t.is) (atom_fine a all fine)

  pieces_fine : {names : Names} {x y : List Placed} {es : List Tree} → SpellsPieces names x y es → NamesFine names → Fine x →
      RowFine (filter (λ e. not (is_empty e)) es)
  pieces_fine (no_piece h) all fine = tt
  pieces_fine (piece {e = e} {es = es} at p more) all fine =
      some_fine e es (is_empty e) (piece_fine p all fine) (pieces_fine more all (within (splits.one_piece p) fine))

  branch_fine : {names : Names} {x y : List Placed} {e : Tree} → SpellsBranch names x y e → NamesFine names → Fine x → AllFine e
  branch_fine (branch {es = es} ps) all fine = joined_fine (filter (λ e. not (is_empty e)) es) (pieces_fine ps all fine)

  bars_fine : {names : Names} {x y : List Placed} {es : List Tree} → SpellsBars names x y es → NamesFine names → Fine x → RowFine es
  bars_fine (no_bar h) all fine = tt
  bars_fine (barred {e = e} {es = es} t b more) all fine =
      let after = within (splits.takes t) fine in
      row_more e es (branch_fine b all after) (bars_fine more all (within (splits.one_branch b) after))

  alternatives_fine : {names : Names} {x y : List Placed} {e : Tree} → SpellsAlternatives names x y e → NamesFine names → Fine x → AllFine e
  alternatives_fine (branches {e = e} {es = es} b more) all fine =
      alternated_fine (e ∷ es) (row_more e es (branch_fine b all fine) (bars_fine more all (within (splits.one_branch b) fine)))

pub spelled_fine : (ts : List Placed) (e : Tree) → SpellsAlternatives (named_in ts) ts [] e → Each (λ p. FineToken p.token) ts → Each FineBut (nodes e)
spelled_fine ts e s fine = alternatives_fine s (names_fine ts fine) fine
