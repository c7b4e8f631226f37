-- A tree of easy nodes that a pattern spells may return.
use Rattle.std.proofs.Common.{◌≡◌, ℕ, ℤ, ◌<◌, Bool, true, false, not, ◌&&◌, ◌||◌, List, [], ◌∷◌, ◌++◌, map, reverse, filter, length, encode_utf8_all, Option, Some, None, if◌then◌else◌, refl, sym, ap, ◌∙◌, subst, arith}
use Rattle.std.specs.List.{list_any}
use Rattle.std.proofs.lemmas.Bool.{true≢false, and_parts, and_from}
use Rattle.std.proofs.lemmas.List.{length-reverse}
use Rattle.fancy_meaning.specs.Tree as tree
use Rattle.fancy_meaning.specs.Tree.{Tree, Trees, none, more, trees}
use Rattle.fancy_expr.specs.Each.{Each}
use Rattle.fancy_pattern.specs.declared.options.ParseOptions.{ParseOptions}
use Rattle.fancy_tokens.specs.declared.tokens.Enclosing.{Enclosing}
use Rattle.fancy_tokens.specs.declared.tokens.Enclosing.TheVariants as enclosing
use Rattle.fancy_tokens.specs.declared.tokens.Naming.{Naming}
use Rattle.fancy_tokens.specs.declared.tokens.Naming.TheVariants as naming
use Rattle.fancy_tokens.specs.declared.tokens.Quantifier.{Quantifier}
use Rattle.fancy_tokens.specs.declared.tokens.Suffix.{Suffix}
use Rattle.fancy_tokens.specs.declared.tokens.Suffix.TheVariants.{Turned, Possessive}
use Rattle.fancy_pattern.specs.Texts.{Text}
use Rattle.fancy_tokens.specs.Tokens.{Target, Name, Number, Nowhere, Reference, Opening, Token, Node, Refer, FlagsItem, Quantified, ClassOpen, Placed}
use Rattle.fancy_pattern.specs.Naming.{numbers_of}
use Rattle.fancy_pattern.specs.Stuck.{Within, whole, past}
use Rattle.fancy_pattern.specs.Spelling.{HasTokens, every_group, named_groups, Spells}
use Rattle.fancy_pattern.specs.Grammar.{Names, Takes, named, unresolved, several, by_groups, by_target, reference, node_of, quantifier, class_open, suffixed, enclosed, is_empty, is_repeatable, joined, alternated, SpellsClass, SpellsAtom, node, class, opened, SpellsOpened, around, group, stopper, expression, asked, if_group, if_pattern, if_look, SpellsBodies, one_body, two_bodies, SpellsPiece, plain, quantified, SpellsPieces, no_piece, piece, SpellsBranch, branch, SpellsBars, no_bar, barred, SpellsAlternatives, branches}
use Rattle.fancy_pattern.proofs.Splits as splits
use Rattle.fancy_pattern.proofs.Namesakes.{several_nodes}
use Rattle.fancy_pattern.proofs.FoundTokens.{FineToken, FineCounts, tokens_fine}
use Rattle.fancy_round_trip.specs.ClassTexts.{at_head, brackets, IsClass}
use Rattle.fancy_round_trip.specs.Returning.{Returns, EachReturns, returns_assertion, none_empty}
use Rattle.fancy_round_trip.specs.RoundTrip.{is_rewritten}
use Rattle.fancy_round_trip.proofs.OwnTokens.{OwnLeaf, OwnToken, tokens_own}
use Rattle.fancy_round_trip.proofs.ClassTokens.{Settled, HeadSettled, AllSettled, NotRewritten, tokens_settled, class_written}

-- ---- easy nodes

-- before it is numbered each assertion is outside of look-arounds
abbrev pub plain_assertion : tree.Within → tree.Assertion → Bool
plain_assertion tree.NoLook a = returns_assertion a
plain_assertion tree.InLookAhead a = true
plain_assertion tree.InLookBehind a = true

-- nodes that have a text
abbrev mutual
  pub is_plain : Tree → Bool
  is_plain tree.Empty = true
  is_plain (tree.Any newline crlf) = true
  is_plain (tree.Literal c casei) = true
  is_plain (tree.Delegate inner casei) = true
  is_plain (tree.Assert within a) = plain_assertion within a
  is_plain (tree.Concat es) = each_plain es
  is_plain (tree.Alt es) = each_plain es
  is_plain (tree.Group g e) = is_plain e
  is_plain (tree.Repeat lo hi greedy e) = is_plain e
  is_plain e = false

  pub each_plain : Trees → Bool
  each_plain none = true
  each_plain (more e es) = is_plain e && each_plain es

kept_first : (e : Tree) (es : List Tree) → each_plain (trees (e ∷ es)) ≡ true → (is_plain e ≡ true) × (each_plain (trees es) ≡ true)
kept_first e es h = and_parts (is_plain e) (each_plain (trees es)) h

abbrev Kept : Tree → Type 0
Kept e = is_plain e ≡ true

abbrev KeptRow : List Tree → Type 0
KeptRow es = each_plain (trees es) ≡ true

-- ---- references are not easy

named_hard : (n : Naming) (level : Option ℤ) (g : ℕ) → is_plain (named n level g) ≡ false
named_hard (naming.Backref casei) None g = refl
named_hard (naming.Backref casei) (Some l) g = refl
named_hard naming.Exists level g = refl
named_hard naming.Call level g = refl

unresolved_hard : (n : Naming) → is_plain (unresolved n) ≡ false
unresolved_hard (naming.Backref casei) = refl
unresolved_hard naming.Exists = refl
unresolved_hard naming.Call = refl

row_hard : (n : Naming) (level : Option ℤ) (gs : List ℕ) → 0 < length gs → each_plain (trees (map (named n level) gs)) ≡ false
row_hard n level [] h = absurd (omega (arith, h))
row_hard n level (g ∷ gs) h = ap (λ b. b && each_plain (trees (map (named n level) gs))) (named_hard n level g)

some_reversed : (g : ℕ) (gs : List ℕ) → 0 < length (reverse (g ∷ gs))
some_reversed g gs = omega (arith, length-reverse (g ∷ gs))

hard_same : (e d : Tree) → is_plain e ≡ false → Some e ≡ Some d → is_plain d ≡ false
hard_same e d h is = let same : e ≡ d = cc in subst (λ t. is_plain t ≡ false) same h

several_hard : (n : Naming) (level : Option ℤ) (g : ℕ) (gs : List ℕ) (e : Tree) → several n level (g ∷ gs) ≡ Some e → is_plain e ≡ false
several_hard n level g gs e is =
    hard_same _ e (row_hard n level (reverse (g ∷ gs)) (some_reversed g gs)) (several_nodes n level (g ∷ gs) e is)

by_groups_hard : (n : Naming) (level : Option ℤ) (gs : List ℕ) (e : Tree) → by_groups n level gs ≡ Some e → is_plain e ≡ false
by_groups_hard n level [] e is = hard_same _ e (unresolved_hard n) is
by_groups_hard n level (g ∷ []) e is = hard_same _ e (named_hard n level g) is
by_groups_hard n level (g ∷ d ∷ gs) e is = several_hard n level g (d ∷ gs) e is

target_hard : (names : Names) (n : Naming) (level : Option ℤ) (t : Target) (e : Tree) → by_target names n level t ≡ Some e → is_plain e ≡ false
target_hard names n level (Name name) e is = by_groups_hard n level (numbers_of names (encode_utf8_all name)) e is
target_hard names n level (Number g) e is = hard_same _ e (named_hard n level g) is
target_hard names n level Nowhere e is = hard_same _ e (unresolved_hard n) is

reference_hard : {G : Type 0} (names : Names) (r : Reference) (e : Tree) → reference names r ≡ Some e → is_plain e ≡ true → G
reference_hard names r e is h = absurd (true≢false (sym h ∙ target_hard names r.naming r.level r.target e is))

-- ---- tokens

record Own (ts : List Placed) : Type 0 where
  own : Each (λ p. OwnToken p.token) ts
  fine : Each (λ p. FineToken p.token) ts
  settled : AllSettled ts
  kept : NotRewritten ts

past_first : (p : Placed) (ts : List Placed) → Own (p ∷ ts) → Own ts
past_first p ts h = record { own = h.own.1; fine = h.fine.1; settled = h.settled.1; kept = h.kept.1 }

within : {y x : List Placed} → Within y x → Own x → Own y
within whole h = h
within (past p w) h = within w (past_first p _ h)

at_first : {V : Type 0} {gives : Token → Option V} {x y : List Placed} {v : V} (t : Takes gives x v y) → Own x → Own (t.first ∷ y)
at_first t own = subst Own t.tokens own

first_own : {V : Type 0} {gives : Token → Option V} {x y : List Placed} {v : V} (t : Takes gives x v y) → Own x → OwnToken t.first.token
first_own t own = (at_first t own).own.0

first_fine : {V : Type 0} {gives : Token → Option V} {x y : List Placed} {v : V} (t : Takes gives x v y) → Own x → FineToken t.first.token
first_fine t own = (at_first t own).fine.0

head_settled : (t : Token) (casei : Bool) (ts : List Placed) → class_open t ≡ Some casei → HeadSettled t ts → Settled ts at_head
head_settled (ClassOpen k) casei ts is h = h
head_settled t casei ts is h = absurd (cc)

own_class : {x y z : List Placed} {casei : Bool} {text : List ℕ} → Takes class_open x casei y → SpellsClass y z text → Own x →
    IsClass (encode_utf8_all (91 ∷ text ++ 93 ∷ []))
own_class {y = y} {casei = casei} {text = text} t c own =
    let o = at_first t own in
    record {
      text = 91 ∷ text ++ 93 ∷ [];
      bytes = refl;
      is = brackets text refl (class_written c at_head (head_settled t.first.token casei y t.is o.settled.0) o.kept.1);
    }

leaf_returns : (e : Tree) → OwnLeaf e → Kept e → Returns e
leaf_returns tree.Empty own h = tt
leaf_returns (tree.Any newline crlf) own h = own
leaf_returns (tree.Literal c casei) own h = tt
leaf_returns (tree.Delegate inner casei) own h = own
leaf_returns (tree.Assert within a) own h = (own, subst (λ w. plain_assertion w a ≡ true) own h)
leaf_returns (tree.Concat es) own h = absurd own
leaf_returns (tree.Alt es) own h = absurd own
leaf_returns (tree.Group g e) own h = absurd own
leaf_returns (tree.Repeat lo hi greedy e) own h = absurd own
leaf_returns e own h = absurd (true≢false (sym h))

node_returns : (names : Names) (t : Token) (e : Tree) → OwnToken t → node_of names t ≡ Some e → Kept e → Returns e
node_returns names (Node d) e own is h = let same : d ≡ e = cc in leaf_returns e (subst OwnLeaf same own) h
node_returns names (Refer r) e own is h = reference_hard names r e is h
node_returns names FlagsItem e own is h = let same : tree.Empty ≡ e = cc in subst Returns same tt
node_returns names t e own is h = absurd (cc)

quantifier_fine : (t : Token) (q : Quantifier × Bool) → FineToken t → quantifier t ≡ Some q → FineCounts q.0
quantifier_fine (Quantified p greedy) q fine is = let same : (p, greedy) ≡ q = cc in subst (λ r. FineCounts r.0) same fine
quantifier_fine t q fine is = absurd (cc)

-- ---- what is made

suffixed_returns : (q : Quantifier) (greedy : Bool) (s : Option Suffix) (e : Tree) → is_repeatable e ≡ true → FineCounts q → (Kept e → Returns e) →
    Kept (suffixed q greedy s e) → Returns (suffixed q greedy s e)
suffixed_returns q greedy None e may fine k h = (may, fine, k h)
suffixed_returns q greedy (Some Turned) e may fine k h = (may, fine, k h)
suffixed_returns q greedy (Some Possessive) e may fine k h = absurd (true≢false (sym h))

enclosed_returns : (f : Enclosing) (e : Tree) → (Kept e → Returns e) → Kept (enclosed f e) → Returns (enclosed f e)
enclosed_returns enclosing.Plain e k h = k h
enclosed_returns enclosing.Atomic e k h = absurd (true≢false (sym h))
enclosed_returns enclosing.Define e k h = absurd (true≢false (sym h))
enclosed_returns (enclosing.Look l) e k h = absurd (true≢false (sym h))
enclosed_returns enclosing.AbsentRepeater e k h = absurd (true≢false (sym h))

abbrev some_of : List Tree → List Tree
some_of es = filter (λ e. not (is_empty e)) es

joined_returns : (es : List Tree) → none_empty (trees es) ≡ true → (KeptRow es → EachReturns (trees es)) → Kept (joined es) → Returns (joined es)
joined_returns [] some k h = tt
joined_returns (e ∷ []) some k h = (k (and_from _ _ h refl)).0
joined_returns (e ∷ d ∷ es) some k h = (refl, some, k h)

alternated_returns : (es : List Tree) → (KeptRow es → EachReturns (trees es)) → Kept (alternated es) → Returns (alternated es)
alternated_returns [] k h = tt
alternated_returns (e ∷ []) k h = (k (and_from _ _ h refl)).0
alternated_returns (e ∷ d ∷ es) k h = (refl, k h)

some_none_empty : (es : List Tree) → none_empty (trees (some_of es)) ≡ true
some_none_empty [] = refl
some_none_empty (e ∷ es) = by_test (is_empty e) refl (some_none_empty es)
  where
    by_test : (b : Bool) → is_empty e ≡ b → none_empty (trees (some_of es)) ≡ true →
        none_empty (trees (if not b then e ∷ some_of es else some_of es)) ≡ true
    by_test true is h = h
    by_test false is h = and_from _ _ (ap not is) h

some_more : (e : Tree) (es : List Tree) (b : Bool) → (Kept e → Returns e) → (KeptRow (some_of es) → EachReturns (trees (some_of es))) →
    KeptRow (if not b then e ∷ some_of es else some_of es) → EachReturns (trees (if not b then e ∷ some_of es else some_of es))
some_more e es true k l h = l h
some_more e es false k l h = let r = kept_first e (some_of es) h in (k r.0, l r.1)

-- ---- what is spelled

mutual
  atom_returns : {names : Names} {x y : List Placed} {e : Tree} → SpellsAtom names x y e → Own x → Kept e → Returns e
  atom_returns {names = names} {e = e} (node t) own h = node_returns names t.first.token e (first_own t own) t.is h
  atom_returns (class t c) own h = own_class t c own
  atom_returns (opened t s) own h = opened_returns s (within (splits.takes t) own) h

  opened_returns : {names : Names} {o : Opening} {x y : List Placed} {e : Tree} → SpellsOpened names o x y e → Own x → Kept e → Returns e
  opened_returns (around {f = f} {e = e} a c) own h = enclosed_returns f e (λ k. alternatives_return a own k) h
  opened_returns (group a c) own h = (refl, alternatives_return a own h)
  opened_returns (stopper b c) own h = absurd (true≢false (sym h))
  opened_returns (expression b t a c) own h = absurd (true≢false (sym h))
  opened_returns {names = names} (asked {r = r} {c = c} is t) own h = reference_hard names r c is h
  opened_returns (if_group is n b) own h = bodies_hard b h
  opened_returns (if_pattern a c b) own h = bodies_hard b h
  opened_returns (if_look a c b) own h = bodies_hard b h

  bodies_hard : {names : Names} {c : Tree} {x y : List Placed} {e : Tree} → SpellsBodies names c x y e → Kept e → Returns e
  bodies_hard (one_body b k) h = absurd (true≢false (sym h))
  bodies_hard (two_bodies b s a k) h = absurd (true≢false (sym h))

  piece_returns : {names : Names} {x y : List Placed} {e : Tree} → SpellsPiece names x y e → Own x → Kept e → Returns e
  piece_returns (plain a n) own h = atom_returns a own h
  piece_returns (quantified {q = q} {s = s} {e = e} a may t k) own h =
      suffixed_returns q.0 q.1 s e may (quantifier_fine t.first.token q (first_fine t (within (splits.atom a) own)) t.is) (λ j. atom_returns a own j) h

  pieces_return : {names : Names} {x y : List Placed} {es : List Tree} → SpellsPieces names x y es → Own x → KeptRow (some_of es) →
      EachReturns (trees (some_of es))
  pieces_return (no_piece n) own h = tt
  pieces_return (piece {e = e} {es = es} at p others) own h =
      some_more e es (is_empty e) (λ j. piece_returns p own j) (λ j. pieces_return others (within (splits.one_piece p) own) j) h

  branch_returns : {names : Names} {x y : List Placed} {e : Tree} → SpellsBranch names x y e → Own x → Kept e → Returns e
  branch_returns (branch {es = es} ps) own h = joined_returns (some_of es) (some_none_empty es) (λ j. pieces_return ps own j) h

  bars_return : {names : Names} {x y : List Placed} {es : List Tree} → SpellsBars names x y es → Own x → KeptRow es → EachReturns (trees es)
  bars_return (no_bar n) own h = tt
  bars_return (barred {e = e} {es = es} t b others) own h =
      let after = within (splits.takes t) own in
      let r = kept_first e es h in
      (branch_returns b after r.0, bars_return others (within (splits.one_branch b) after) r.1)

  alternatives_return : {names : Names} {x y : List Placed} {e : Tree} → SpellsAlternatives names x y e → Own x → Kept e → Returns e
  alternatives_return (branches {e = e} {es = es} b others) own h =
      alternated_returns (e ∷ es) (λ j.
      let r = kept_first e es j in
      (branch_returns b own r.0, bars_return others (within (splits.one_branch b) own) r.1)) h

all_kept : (ts : List Placed) → list_any (λ p. is_rewritten p.token) ts ≡ false → NotRewritten ts
all_kept [] h = tt
all_kept (p ∷ ts) h = by_test (is_rewritten p.token) refl h (all_kept ts)
  where
    by_test : (b : Bool) → is_rewritten p.token ≡ b → (b || list_any (λ q. is_rewritten q.token) ts) ≡ false →
        (list_any (λ q. is_rewritten q.token) ts ≡ false → NotRewritten ts) → NotRewritten (p ∷ ts)
    by_test true e k others = absurd (true≢false k)
    by_test false e k others = (e, others k)

all_own : {options : ParseOptions} {text : Text} {ignored : Bool} {ts : List Placed} → HasTokens options text ignored ts →
    list_any (λ p. is_rewritten p.token) ts ≡ false → Own ts
all_own {ts = ts} (every_group l h) missing =
    record { own = tokens_own l; fine = tokens_fine l (omega arith); settled = (tokens_settled l).1; kept = all_kept ts missing }
all_own {ts = ts} (named_groups l h m) missing =
    record { own = tokens_own m; fine = tokens_fine m (omega arith); settled = (tokens_settled m).1; kept = all_kept ts missing }

pub spelled_returns : (options : ParseOptions) (text : Text) (e : Tree) (s : Spells options text e) → is_plain e ≡ true →
    list_any (λ p. is_rewritten p.token) s.tokens ≡ false → Returns e
spelled_returns options text e s simple missing = alternatives_return s.spelled (all_own s.lexed missing) simple
