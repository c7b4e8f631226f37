-- The groups that tokens open are the groups of the tree that they spell.
use Rattle.std.proofs.Common.{◌≡◌, ℕ, ℤ, ◌+◌, Bool, true, false, not, cond, List, [], ◌∷◌, ◌++◌, length, map, reverse, filter, filter_map, encode_utf8_all, Option, Some, None, refl, sym, ap, ◌∙◌, subst, arith, length-append}
use Rattle.std.proofs.lemmas.Bool.{true≢false}
use Rattle.std.proofs.lemmas.List.Elements.{filter_map-append}
use Rattle.fancy_meaning.specs.Tree as tree
use Rattle.fancy_meaning.specs.Tree.{Tree, trees}
use Rattle.fancy_meaning.specs.Nodes.{nodes, nodes_of_each, as_group, groups, group_count}
use Rattle.fancy_expr.specs.Each.{Each}
use Rattle.fancy_tokens.specs.declared.tokens.Enclosing.{Enclosing}
use Rattle.fancy_tokens.specs.declared.tokens.Enclosing.TheVariants as enclosing
use Rattle.fancy_tokens.specs.declared.tokens.Naming.{Naming}
use Rattle.fancy_tokens.specs.declared.tokens.Naming.TheVariants as naming
use Rattle.fancy_tokens.specs.declared.tokens.Quantifier.{Quantifier}
use Rattle.fancy_tokens.specs.declared.tokens.Suffix.{Suffix}
use Rattle.fancy_tokens.specs.declared.tokens.Suffix.TheVariants.{Turned, Possessive}
use Rattle.fancy_tokens.specs.Tokens.{Target, Name, Number, Nowhere, Reference, Opening, Token, Node, Refer, FlagsItem, Open, Placed}
use Rattle.fancy_pattern.specs.Naming.{numbers_of}
use Rattle.fancy_tokens.specs.Nesting.{group_opened_by, opened_by}
use Rattle.fancy_pattern.specs.Grammar.{Names, Takes, named, unresolved, several, by_groups, by_target, reference, node_of, opening, bar, closing, class_open, class_text, class_close, quantifier, suffix, suffixed, enclosed, is_empty, joined, branch_of, alternated, SpellsClass, class_end, class_piece, SpellsSuffix, no_suffix, a_suffix, SpellsAtom, node, class, opened, SpellsOpened, around, group, stopper, expression, asked, if_group, if_pattern, if_look, SpellsBodies, one_body, two_bodies, SpellsPiece, plain, quantified, SpellsPieces, no_piece, piece, SpellsBranch, branch, SpellsBars, no_bar, barred, SpellsAlternatives, branches}
use Rattle.fancy_pattern.proofs.Namesakes.{several_nodes}
use Rattle.fancy_pattern.proofs.FoundTokens.{FineToken, opened_in}

count : List Tree → ℕ
count es = length (filter_map as_group es)

count-append : (a b : List Tree) → count (a ++ b) ≡ count a + count b
unfolding count
count-append a b = ap length (filter_map-append as_group a b) ∙ length-append (filter_map as_group a) (filter_map as_group b)

row : List Tree → ℕ
row es = count (nodes_of_each (trees es))

row-more : (e : Tree) (es : List Tree) → row (e ∷ es) ≡ count (nodes e) + row es
unfolding row
row-more e es = count-append (nodes e) (nodes_of_each (trees es))

-- ---- references

named_count : (n : Naming) (level : Option ℤ) (g : ℕ) → count (nodes (named n level g)) ≡ 0
unfolding count
named_count (naming.Backref casei) None g = refl
named_count (naming.Backref casei) (Some l) g = refl
named_count naming.Exists level g = refl
named_count naming.Call level g = refl

all_named : (n : Naming) (level : Option ℤ) (gs : List ℕ) → row (map (named n level) gs) ≡ 0
unfolding row count
all_named n level [] = refl
all_named n level (g ∷ gs) =
    omega (arith, row-more (named n level g) (map (named n level) gs), named_count n level g, all_named n level gs)

unresolved_count : (n : Naming) → count (nodes (unresolved n)) ≡ 0
unfolding count
unresolved_count (naming.Backref casei) = refl
unresolved_count naming.Exists = refl
unresolved_count naming.Call = refl

alt_count : (es : List Tree) → count (nodes (tree.Alt (trees es))) ≡ row es
unfolding count row
alt_count es = refl

same_tree : (e d : Tree) → count (nodes e) ≡ 0 → Some e ≡ Some d → count (nodes d) ≡ 0
same_tree e d h is = let same : e ≡ d = cc in subst (λ t. count (nodes t) ≡ 0) same h

several_count : (n : Naming) (level : Option ℤ) (gs : List ℕ) (e : Tree) → several n level gs ≡ Some e → count (nodes e) ≡ 0
several_count n level gs e is =
    same_tree _ e (alt_count (map (named n level) (reverse gs)) ∙ all_named n level (reverse gs)) (several_nodes n level gs e is)

by_groups_count : (n : Naming) (level : Option ℤ) (gs : List ℕ) (e : Tree) → by_groups n level gs ≡ Some e → count (nodes e) ≡ 0
by_groups_count n level [] e is = same_tree _ e (unresolved_count n) is
by_groups_count n level (g ∷ []) e is = same_tree _ e (named_count n level g) is
by_groups_count n level (g ∷ h ∷ gs) e is = several_count n level (g ∷ h ∷ gs) e is

target_count : (names : Names) (n : Naming) (level : Option ℤ) (t : Target) (e : Tree) → by_target names n level t ≡ Some e → count (nodes e) ≡ 0
target_count names n level (Name name) e is = by_groups_count n level (numbers_of names (encode_utf8_all name)) e is
target_count names n level (Number g) e is = same_tree _ e (named_count n level g) is
target_count names n level Nowhere e is = same_tree _ e (unresolved_count n) is

reference_count : (names : Names) (r : Reference) (e : Tree) → reference names r ≡ Some e → count (nodes e) ≡ 0
reference_count names r e is = target_count names r.naming r.level r.target e is

-- ---- tokens

abbrev Fine : List Placed → Type 0
Fine ts = Each (λ p. FineToken p.token) ts

-- what is left is fine, and these groups were opened before it
abbrev Counted : List Placed → List Placed → ℕ → Type 0
Counted x y n = Fine y × (opened_in x ≡ n + opened_in y)

taken : {V : Type 0} {gives : Token → Option V} {x y : List Placed} {v : V} → Takes gives x v y → Fine x → (k : ℕ) →
    ((t : Token) → FineToken t → gives t ≡ Some v → opened_by t ≡ k) → Counted x y k
unfolding opened_in
taken {y = y} t fine k opens =
    let f = subst Fine t.tokens fine in
    (f.1, ap opened_in t.tokens ∙ ap (λ n. n + opened_in y) (opens t.first.token f.0 t.is))

first_fine : {V : Type 0} {gives : Token → Option V} {x y : List Placed} {v : V} (t : Takes gives x v y) → Fine x → FineToken t.first.token
first_fine t fine = (subst Fine t.tokens fine).0

no_group : (e : Tree) → filter_map as_group (nodes e) ≡ [] → count (nodes e) ≡ 0
unfolding count
no_group e h = ap length h

node_count : (names : Names) (t : Token) (e : Tree) → FineToken t → node_of names t ≡ Some e → count (nodes e) ≡ 0
unfolding count
node_count names (Node d) e fine is = same_tree d e (no_group d fine.0) is
node_count names (Refer r) e fine is = reference_count names r e is
node_count names FlagsItem e fine is = same_tree tree.Empty e refl is
node_count names t e fine is = absurd (cc)

node_opens : (names : Names) (e : Tree) (t : Token) → FineToken t → node_of names t ≡ Some e → opened_by t ≡ 0
node_opens names e (Open o) fine is = absurd (cc)
node_opens names e t fine is = refl

opening_opens : (o : Opening) (t : Token) → FineToken t → opening t ≡ Some o → opened_by t ≡ group_opened_by o
opening_opens o (Open p) fine is = let same : p ≡ o = cc in ap group_opened_by same
opening_opens o t fine is = absurd (cc)

bar_opens : (t : Token) → FineToken t → bar t ≡ Some tt → opened_by t ≡ 0
bar_opens (Open o) fine is = absurd (cc)
bar_opens t fine is = refl

close_opens : (t : Token) → FineToken t → closing t ≡ Some tt → opened_by t ≡ 0
close_opens (Open o) fine is = absurd (cc)
close_opens t fine is = refl

class_opens : (casei : Bool) (t : Token) → FineToken t → class_open t ≡ Some casei → opened_by t ≡ 0
class_opens casei (Open o) fine is = absurd (cc)
class_opens casei t fine is = refl

text_opens : (text : List ℕ) (t : Token) → FineToken t → class_text t ≡ Some text → opened_by t ≡ 0
text_opens text (Open o) fine is = absurd (cc)
text_opens text t fine is = refl

end_opens : (t : Token) → FineToken t → class_close t ≡ Some tt → opened_by t ≡ 0
end_opens (Open o) fine is = absurd (cc)
end_opens t fine is = refl

quantifier_opens : (q : Quantifier × Bool) (t : Token) → FineToken t → quantifier t ≡ Some q → opened_by t ≡ 0
quantifier_opens q (Open o) fine is = absurd (cc)
quantifier_opens q t fine is = refl

suffix_opens : (s : Suffix) (t : Token) → FineToken t → suffix t ≡ Some s → opened_by t ≡ 0
suffix_opens s (Open o) fine is = absurd (cc)
suffix_opens s t fine is = refl

-- ---- what is made

suffixed_count : (q : Quantifier) (greedy : Bool) (s : Option Suffix) (e : Tree) → count (nodes (suffixed q greedy s e)) ≡ count (nodes e)
unfolding count
suffixed_count q greedy None e = refl
suffixed_count q greedy (Some Turned) e = refl
suffixed_count q greedy (Some Possessive) e = refl

enclosed_count : (f : Enclosing) (e : Tree) → count (nodes (enclosed f e)) ≡ count (nodes e)
unfolding count
enclosed_count enclosing.Plain e = refl
enclosed_count enclosing.Atomic e = refl
enclosed_count enclosing.Define e = refl
enclosed_count (enclosing.Look l) e = refl
enclosed_count enclosing.AbsentRepeater e = refl

empty_count : (e : Tree) → is_empty e ≡ true → count (nodes e) ≡ 0
unfolding count
empty_count tree.Empty h = refl
empty_count e h = absurd (true≢false (sym h))

some_count : (es : List Tree) → row (filter (λ e. not (is_empty e)) es) ≡ row es
unfolding row
some_count [] = refl
some_count (e ∷ es) = by_test (is_empty e) refl (some_count es)
  where
    by_test : (b : Bool) → is_empty e ≡ b → row (filter (λ d. not (is_empty d)) es) ≡ row es →
        row (cond (not b) (e ∷ filter (λ d. not (is_empty d)) es) (filter (λ d. not (is_empty d)) es)) ≡ row (e ∷ es)
    by_test true is h = omega (arith, h, row-more e es, empty_count e is)
    by_test false is h = omega (arith, h, row-more e es, row-more e (filter (λ d. not (is_empty d)) es))

joined_count : (es : List Tree) → count (nodes (joined es)) ≡ row es
unfolding row count
joined_count [] = refl
joined_count (e ∷ []) = omega (arith, row-more e [])
joined_count (e ∷ d ∷ es) = refl

alternated_count : (es : List Tree) → count (nodes (alternated es)) ≡ row es
unfolding row count
alternated_count [] = refl
alternated_count (e ∷ []) = omega (arith, row-more e [])
alternated_count (e ∷ d ∷ es) = refl

branch_count : (es : List Tree) → count (nodes (branch_of es)) ≡ row es
branch_count es = joined_count (filter (λ e. not (is_empty e)) es) ∙ some_count es

-- ---- what is spelled

class_counts : {x y : List Placed} {text : List ℕ} → SpellsClass x y text → Fine x → Counted x y 0
class_counts (class_end t) fine = taken t fine 0 end_opens
class_counts (class_piece {piece = p} t more) fine =
    let h = taken t fine 0 (text_opens p) in
    let k = class_counts more h.0 in
    (k.0, let a = h.1 in let b = k.1 in omega (arith, a, b))

suffix_counts : {x y : List Placed} {s : Option Suffix} → SpellsSuffix x y s → Fine x → Counted x y 0
suffix_counts (no_suffix h) fine = (fine, omega arith)
suffix_counts (a_suffix {s = s} t) fine = taken t fine 0 (suffix_opens s)

mutual
  unfolding count row

  atom_counts : {names : Names} {x y : List Placed} {e : Tree} → SpellsAtom names x y e → Fine x → Counted x y (count (nodes e))
  atom_counts {names = names} {e = e} (node t) fine =
      let h = taken t fine 0 (node_opens names e) in
      let z = node_count names t.first.token e (first_fine t fine) t.is in
      (h.0, let a = h.1 in omega (arith, a, z))
  atom_counts (class {casei = k} t c) fine =
      let h = taken t fine 0 (class_opens k) in
      let i = class_counts c h.0 in
      (i.0, let a = h.1 in let b = i.1 in omega (arith, a, b))
  atom_counts (opened {o = o} t s) fine =
      let h = taken t fine (group_opened_by o) (opening_opens o) in
      let i = opened_counts s h.0 in
      (i.0, let a = h.1 in let b = i.1 in omega (arith, a, b))

  opened_counts : {names : Names} {o : Opening} {x y : List Placed} {e : Tree} → SpellsOpened names o x y e → Fine x →
      Fine y × (group_opened_by o + opened_in x ≡ count (nodes e) + opened_in y)
  opened_counts (around {f = f} {e = e} a c) fine =
      let h = alternatives_counts a fine in
      let i = taken c h.0 0 close_opens in
      let z = enclosed_count f e in
      (i.0, let a = h.1 in let b = i.1 in omega (arith, a, b, z))
  opened_counts (group a c) fine =
      let h = alternatives_counts a fine in
      let i = taken c h.0 0 close_opens in
      (i.0, let a = h.1 in let b = i.1 in omega (arith, a, b))
  opened_counts (stopper b c) fine =
      let h = branch_counts b fine in
      let i = taken c h.0 0 close_opens in
      (i.0, let a = h.1 in let b = i.1 in omega (arith, a, b))
  opened_counts (expression {a = d} {e = e} b t a c) fine =
      let h = branch_counts b fine in
      let i = taken t h.0 0 bar_opens in
      let j = alternatives_counts a i.0 in
      let k = taken c j.0 0 close_opens in
      (k.0, let a = h.1 in let b = i.1 in let c = j.1 in let f = k.1 in omega (arith, a, b, c, f, count-append (nodes d) (nodes e)))
  opened_counts {names = names} (asked {r = r} {c = c} is t) fine =
      let i = taken t fine 0 close_opens in
      let z = reference_count names r c is in
      (i.0, let a = i.1 in omega (arith, a, z))
  opened_counts {names = names} (if_group {r = r} {c = c} is h b) fine =
      let z = reference_count names r c is in
      let i = bodies_counts b fine in
      (i.0, let a = i.1 in omega (arith, a, z))
  opened_counts (if_pattern a c b) fine =
      let h = alternatives_counts a fine in
      let i = taken c h.0 0 close_opens in
      let j = bodies_counts b i.0 in
      (j.0, let a = h.1 in let b = i.1 in let c = j.1 in omega (arith, a, b, c))
  opened_counts (if_look a c b) fine =
      let h = alternatives_counts a fine in
      let i = taken c h.0 0 close_opens in
      let j = bodies_counts b i.0 in
      (j.0, let a = h.1 in let b = i.1 in let c = j.1 in omega (arith, a, b, c))

  bodies_counts : {names : Names} {c : Tree} {x y : List Placed} {e : Tree} → SpellsBodies names c x y e → Fine x →
      Fine y × (count (nodes c) + opened_in x ≡ count (nodes e) + opened_in y)
  bodies_counts {c = c} (one_body {t = t} b k) fine =
      let h = branch_counts b fine in
      let i = taken k h.0 0 close_opens in (
        i.0,
        let a = h.1 in let b = i.1 in
            omega (arith, a, b, count-append (nodes c) (nodes t ++ nodes tree.Empty), count-append (nodes t) (nodes tree.Empty)),
      )
  bodies_counts {c = c} (two_bodies {t = t} {f = f} b s a k) fine =
      let h = branch_counts b fine in
      let i = taken s h.0 0 bar_opens in
      let j = alternatives_counts a i.0 in
      let l = taken k j.0 0 close_opens in (
        l.0,
        let a = h.1 in let b = i.1 in let d = j.1 in let g = l.1 in
            omega (arith, a, b, d, g, count-append (nodes c) (nodes t ++ nodes f), count-append (nodes t) (nodes f)),
      )

  piece_counts : {names : Names} {x y : List Placed} {e : Tree} → SpellsPiece names x y e → Fine x → Counted x y (count (nodes e))
  piece_counts (plain a h) fine = atom_counts a fine
  piece_counts (quantified {q = q} {s = s} {e = e} a may t k) fine =
      let h = atom_counts a fine in
      let i = taken t h.0 0 (quantifier_opens q) in
      let j = suffix_counts k i.0 in
      let z = suffixed_count q.0 q.1 s e in
      (j.0, let a = h.1 in let b = i.1 in let c = j.1 in omega (arith, a, b, c, z))

  pieces_counts : {names : Names} {x y : List Placed} {es : List Tree} → SpellsPieces names x y es → Fine x → Counted x y (row es)
  pieces_counts (no_piece h) fine = (fine, omega arith)
  pieces_counts (piece {e = e} {es = es} at p more) fine =
      let h = piece_counts p fine in
      let i = pieces_counts more h.0 in
      (i.0, let a = h.1 in let b = i.1 in omega (arith, a, b, row-more e es))

  branch_counts : {names : Names} {x y : List Placed} {e : Tree} → SpellsBranch names x y e → Fine x → Counted x y (count (nodes e))
  branch_counts (branch {es = es} ps) fine =
      let h = pieces_counts ps fine in
      (h.0, let a = h.1 in let z = branch_count es in omega (arith, a, z))

  bars_counts : {names : Names} {x y : List Placed} {es : List Tree} → SpellsBars names x y es → Fine x → Counted x y (row es)
  bars_counts (no_bar h) fine = (fine, omega arith)
  bars_counts (barred {e = e} {es = es} t b more) fine =
      let h = taken t fine 0 bar_opens in
      let i = branch_counts b h.0 in
      let j = bars_counts more i.0 in
      (j.0, let a = h.1 in let b = i.1 in let c = j.1 in omega (arith, a, b, c, row-more e es))

  alternatives_counts : {names : Names} {x y : List Placed} {e : Tree} → SpellsAlternatives names x y e → Fine x → Counted x y (count (nodes e))
  alternatives_counts (branches {e = e} {es = es} b more) fine =
      let h = branch_counts b fine in
      let i = bars_counts more h.0 in
      let z = alternated_count (e ∷ es) in
      (i.0, let a = h.1 in let b = i.1 in omega (arith, a, b, z, row-more e es))

pub spelled_groups : (names : Names) (ts : List Placed) (e : Tree) → SpellsAlternatives names ts [] e → Each (λ p. FineToken p.token) ts →
    opened_in ts ≡ group_count e
unfolding group_count groups count opened_in
spelled_groups names ts e s fine = let h = (alternatives_counts s fine).1 in omega (arith, h)
