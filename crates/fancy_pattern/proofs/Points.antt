-- What the reader's calls answer is spelled.
use Rattle.std.proofs.Common.{◌≡◌, ℕ, ◌<◌, ◌≤◌, Bool, true, false, not, cond, List, [], ◌∷◌, ◌++◌, length, drop, map, filter, Option, Some, None, Result, Ok, Err, IfOk, encode_utf8, encode_utf8_all, refl, sym, ap, ◌∙◌, subst, arith, append-nil, append_assoc}
use Rattle.std.proofs.lemmas.Bool.{true≢false}
use Rattle.std.proofs.lemmas.List.{map-append}
use Rattle.std.proofs.lemmas.List.Elements.{filter-append}
use Rattle.fancy_meaning.specs.Tree as tree
use Rattle.fancy_meaning.specs.Tree.{Tree}
use Rattle.fancy_expr.specs.declared.expr.Expr.{Expr}
use Rattle.fancy_expr.specs.Views.{tree_of}
use Rattle.fancy_pattern.specs.declared.failure.Failure.{Failure}
use Rattle.fancy_pattern.specs.declared.reader.Reader.{Reader}
use Rattle.fancy_tokens.specs.declared.tokens.Placed.{Placed as Code}
use Rattle.fancy_tokens.specs.declared.tokens.Quantifier.{Quantifier}
use Rattle.fancy_tokens.specs.declared.tokens.Suffix.{Suffix}
use Rattle.fancy_tokens.specs.declared.tokens.Enclosing.{Enclosing}
use Rattle.fancy_tokens.specs.Tokens.{Reference, Token, Placed, Opening, Around, Group, AbsentBar, If, IfPattern, IfLook}
use Rattle.fancy_tokens.specs.PatternViews.{placed_of}
use Rattle.fancy_pattern.specs.Grammar.{Names, Takes, first_gives, gives_some, is_at, is_branch_end, is_empty, is_repeatable, bar, closing, quantifier, class_text, class_close, class_of, joined, branch_of, alternated, suffixed, SpellsSuffix, SpellsClass, class_end, class_piece, class_open, opening, reference, enclosed, SpellsAtom, node, class, opened, SpellsOpened, around, group, stopper, expression, if_group, if_pattern, if_look, SpellsBodies, one_body, two_bodies, SpellsPiece, plain, quantified, SpellsPieces, no_piece, piece, SpellsBranch, branch, SpellsBars, no_bar, barred, SpellsAlternatives, branches}
use Rattle.fancy_pattern.proofs.MadeNodes.{text_added, one_char}
use Rattle.fancy_expr.specs.Each.{Each}
use Rattle.fancy_pattern.proofs.OneChars.{no_parts, with_part}
use Rattle.fancy_pattern.proofs.Rows.{row_more, row_both, row_pieces, BarRow, none_barred, bar_row_more, TextRow, none_text, text_row_more}
use Rattle.fancy_pattern.specs.Reading.{Row, none_read, PushesRow, OneCharEach, point_of, Skips, Adds, TakesOff, Pushes, Boxes, SpellsLast, SpellsMore, SpellsRest, SpellsNode, Quantifies, alone, by, some_of}

pub skipped : (old new : Reader) → 0 < length old.rest.now → new.rest.now ≡ drop 1 old.rest.now → Skips old new
skipped old new h rest = let p = front old.rest.now new.rest.now h rest in record { first = p.0; tokens = p.1 }
  where
    front : (xs ys : List Code) → 0 < length xs → ys ≡ drop 1 xs → (p : Placed) × (map placed_of xs ≡ p ∷ map placed_of ys)
    front [] ys h e = absurd (omega (arith, h))
    front (x ∷ xs) ys h e = (placed_of x, ap (λ l. placed_of x ∷ map placed_of l) (sym e))

-- the next token gives v, and it was passed
pub takes_next : {V : Type 0} (gives : Token → Option V) (v : V) (old new : Reader) → first_gives gives (point_of old) ≡ Some v → Skips old new →
    Takes gives (point_of old) v (point_of new)
takes_next gives v old new e s = record { first = s.first; tokens = s.tokens; is = sym (ap (first_gives gives) s.tokens) ∙ e }

at_some : (o : Option (Unit {0})) → gives_some o ≡ true → o ≡ Some tt
at_some None h = absurd (true≢false (sym h))
at_some (Some u) h = refl

-- the same where nothing is given but that it is there
pub takes_at : (gives : Token → Option (Unit {0})) (old new : Reader) → is_at gives (point_of old) ≡ true → Skips old new →
    Takes gives (point_of old) tt (point_of new)
takes_at gives old new e s = takes_next gives tt old new (at_some (first_gives gives (point_of old)) e) s

pub not_there : {V : Type 0} (o : Option V) → o ≡ None → gives_some o ≡ false
not_there o e = ap gives_some e

-- ---- the stack of nodes

-- a node with the tree that was read was pushed, or made of what is on top
pub pushed : (spells : List Placed → List Placed → Tree → Type 0) (old new : Reader) (below all : List Expr) (e : Tree) →
    spells (point_of old) (point_of new) e → Adds e below all → Pushes spells old new below all
pushed spells old new below all e s h = record { read = e; adds = h; spelled = s }

-- what is on top was put into a box
pub boxed : (spells : List Placed → List Placed → Tree → Type 0) (old new : Reader) (below left : List Expr) (found : Expr) (e : Tree) →
    spells (point_of old) (point_of new) e → TakesOff e below left found → Boxes spells old new below left found
boxed spells old new below left found e s h =
    record { spelled = subst (spells (point_of old) (point_of new)) (sym h.made) s; one_char = h.one_char; rest = h.rest }

-- in place of a stack an equal one
pub on_same : (e : Tree) (below same all : List Expr) → same ≡ below → Adds e same all → Adds e below all
on_same e below same all is h = subst (λ l. Adds e l all) is h

pub one_added : (e : Tree) (row : List Expr) → Adds e [] row → (map tree_of row ≡ e ∷ []) × Each OneCharEach row
one_added e row h = (
  ap (map tree_of) h.added ∙ ap (λ t. t ∷ []) h.made,
  subst (Each OneCharEach) (sym h.added) (h.one_char, tt),
)

-- ---- pieces

pub by_quantifier : (e r : Tree) (x y z : List Placed) (q : Quantifier) (g : Bool) (s : Option Suffix) → is_repeatable e ≡ true → Takes quantifier x
    (q, g) y →
    SpellsSuffix y z s → r ≡ suffixed q g s e → Quantifies e x z r
by_quantifier e r x y z q g s may t more is = subst (Quantifies e x z) (sym is) (by may t more)

pub piece_spelled : (names : Names) (e r : Tree) (x y z : List Placed) → SpellsAtom names x y e → Quantifies e y z r → SpellsPiece names x z r
piece_spelled names e r x y z a (alone h) = plain a h
piece_spelled names e r x y z a (by may t more) = quantified a may t more

pub branch_spelled : (names : Names) (x y : List Placed) (es : List Tree) (made : List Tree) (r : Tree) → SpellsPieces names x y es →
    made ≡ filter (λ e. not (is_empty e)) es → r ≡ joined made → SpellsBranch names x y r
branch_spelled names x y es made r s are is = subst (SpellsBranch names x y) (sym (is ∙ ap joined are)) (branch s)

-- one piece alone
pub piece_alone : (names : Names) (x y : List Placed) (e : Tree) → is_branch_end x ≡ false → SpellsPiece names x y e → is_branch_end y ≡ true →
    SpellsBranch names x y e
piece_alone names x y e on p end = subst (SpellsBranch names x y) (itself e) (branch (piece on p (no_piece end)))
  where
    itself : (e : Tree) → branch_of (e ∷ []) ≡ e
    itself tree.Empty = refl
    itself e = refl

-- ---- atoms

pub atom_opened : {A : Type 0} (names : Names) (old mid new : Reader) (o : Opening) (below all : List Expr) (r : Result A Failure) →
    first_gives opening (point_of old) ≡ Some o → Skips old mid → IfOk r (λ u. Pushes (SpellsOpened names o) mid new below all) →
    IfOk r (λ u. Pushes (SpellsAtom names) old new below all)
atom_opened names old mid new o below all (Ok u) is s h =
    record { read = h.read; adds = h.adds; spelled = opened (takes_next opening o old mid is s) h.spelled }
atom_opened names old mid new o below all (Err f) is s h = tt

pub atom_class : {A : Type 0} (names : Names) (old mid new : Reader) (casei : Bool) (below all : List Expr) (r : Result A Failure) →
    first_gives class_open (point_of old) ≡ Some casei → Skips old mid → IfOk r (λ u. Pushes (SpellsRest casei) mid new below all) →
    IfOk r (λ u. Pushes (SpellsAtom names) old new below all)
atom_class names old mid new casei below all (Ok u) is s h =
    let rest = h.spelled in
    record {
      read = h.read;
      adds = h.adds;
      spelled = subst (SpellsAtom names (point_of old) (point_of new)) (sym rest.2) (class (takes_next class_open casei old mid is s) rest.1);
    }
atom_class names old mid new casei below all (Err f) is s h = tt

pub atom_node : {A : Type 0} (names : Names) (old new : Reader) (below all : List Expr) (r : Result A Failure) →
    IfOk r (λ u. Pushes (SpellsNode names) old new below all) → IfOk r (λ u. Pushes (SpellsAtom names) old new below all)
atom_node names old new below all (Ok u) h = record { read = h.read; adds = h.adds; spelled = node h.spelled }
atom_node names old new below all (Err f) h = tt

pub piece_read : {A : Type 0} (names : Names) (atom : Tree) (old mid new : Reader) (below all : List Expr) (r : Result A Failure) →
    SpellsAtom names (point_of old) (point_of mid) atom → IfOk r (λ u. Pushes (Quantifies atom) mid new below all) →
    IfOk r (λ u. Pushes (SpellsPiece names) old new below all)
piece_read names atom old mid new below all (Ok u) a h =
    record { read = h.read; adds = h.adds; spelled = piece_spelled names atom h.read (point_of old) (point_of mid) (point_of new) a h.spelled }
piece_read names atom old mid new below all (Err f) a h = tt

-- ---- groups

pub around_spelled : (names : Names) (f : Enclosing) (x z : List Placed) (e r : Tree) → SpellsLast names x z e → r ≡ enclosed f e →
    SpellsOpened names (Around f) x z r
around_spelled names f x z e r h is = subst (SpellsOpened names (Around f) x z) (sym is) (around h.1 h.2)

-- alternatives, and what closes them
pub last_read : {A : Type 0} (names : Names) (old mid new : Reader) (below all : List Expr) (r : Result A Failure) →
    Pushes (SpellsAlternatives names) old mid below all → IfOk r (λ u. Takes closing (point_of mid) tt (point_of new)) →
    IfOk r (λ u. Pushes (SpellsLast names) old new below all)
last_read names old mid new below all (Ok u) h t = record { read = h.read; adds = h.adds; spelled = (point_of mid, h.spelled, t) }
last_read names old mid new below all (Err f) h t = tt

pub group_spelled : (names : Names) (number : ℕ) (name : Option (List ℕ)) (x z : List Placed) (e r : Tree) → SpellsLast names x z e → r ≡ tree.Group 0 e →
    SpellsOpened names (Group number name) x z r
group_spelled names number name x z e r h is = subst (SpellsOpened names (Group number name) x z) (sym is) (group h.1 h.2)

pub stopper_spelled : (names : Names) (x y z : List Placed) (e r : Tree) → SpellsBranch names x y e → Takes closing y tt z → r ≡ tree.AbsentStopper e →
    SpellsOpened names AbsentBar x z r
stopper_spelled names x y z e r b c is = subst (SpellsOpened names AbsentBar x z) (sym is) (stopper b c)

pub expression_spelled : (names : Names) (x y z v : List Placed) (a e r : Tree) → SpellsBranch names x y a → Takes bar y tt z → SpellsLast names z v e →
    r ≡ tree.AbsentExpression a e → SpellsOpened names AbsentBar x v r
expression_spelled names x y z v a e r b t h is = subst (SpellsOpened names AbsentBar x v) (sym is) (expression b t h.1 h.2)

pub one_body_spelled : (names : Names) (c : Tree) (x y z : List Placed) (t r : Tree) → SpellsBranch names x y t → Takes closing y tt z →
    r ≡ tree.Conditional c t tree.Empty → SpellsBodies names c x z r
one_body_spelled names c x y z t r b k is = subst (SpellsBodies names c x z) (sym is) (one_body b k)

pub two_bodies_spelled : (names : Names) (c : Tree) (x y z v : List Placed) (t f r : Tree) → SpellsBranch names x y t → Takes bar y tt z →
    SpellsLast names z v f → r ≡ tree.Conditional c t f → SpellsBodies names c x v r
two_bodies_spelled names c x y z v t f r b k h is = subst (SpellsBodies names c x v) (sym is) (two_bodies b k h.1 h.2)

-- ---- conditions

pub if_group_read : {A : Type 0} (names : Names) (q : Reference) (c : Tree) (old new : Reader) (below all : List Expr) (r : Result A Failure) →
    Some c ≡ reference names q → false ≡ is_at closing (point_of old) → IfOk r (λ u. Pushes (SpellsBodies names c) old new below all) →
    IfOk r (λ u. Pushes (SpellsOpened names (If q)) old new below all)
if_group_read names q c old new below all (Ok u) is on h =
    record { read = h.read; adds = h.adds; spelled = if_group (sym is) (sym on) h.spelled }
if_group_read names q c old new below all (Err f) is on h = tt

pub if_pattern_read : {A : Type 0} (names : Names) (c : Tree) (old mid new : Reader) (below all : List Expr) (r : Result A Failure) →
    SpellsLast names (point_of old) (point_of mid) c → IfOk r (λ u. Pushes (SpellsBodies names c) mid new below all) →
    IfOk r (λ u. Pushes (SpellsOpened names IfPattern) old new below all)
if_pattern_read names c old mid new below all (Ok u) s h =
    record { read = h.read; adds = h.adds; spelled = if_pattern s.1 s.2 h.spelled }
if_pattern_read names c old mid new below all (Err f) s h = tt

pub if_look_read : {A : Type 0} (names : Names) (l : tree.Look) (c k : Tree) (old mid new : Reader) (below all : List Expr) (r : Result A Failure) →
    SpellsLast names (point_of old) (point_of mid) c → k ≡ tree.LookAround l c → IfOk r (λ u. Pushes (SpellsBodies names k) mid new below all) →
    IfOk r (λ u. Pushes (SpellsOpened names (IfLook l)) old new below all)
if_look_read names l c k old mid new below all (Ok u) s is h =
    record {
      read = h.read;
      adds = h.adds;
      spelled = if_look s.1 s.2 (subst (λ b. SpellsBodies names b (point_of mid) (point_of new) h.read) is h.spelled);
    }
if_look_read names l c k old mid new below all (Err f) s is h = tt

-- ---- loops

-- the pieces so far
pub record PiecesRead (names : Names) (start now : Reader) (made : List Expr) : Type 0 where
  pub so_far : List Tree
  pub are : map tree_of made ≡ filter (λ e. not (is_empty e)) so_far
  pub row : Row names (point_of start) (point_of now) so_far
  pub one_char : Each OneCharEach made
  pub spelled : (z : List Placed) (more : List Tree) → SpellsPieces names (point_of now) z more → SpellsPieces names (point_of start) z (so_far ++ more)
  pub shorter : length now.rest.now ≤ length start.rest.now

pub pieces_begin : (names : Names) (r : Reader) (made : List Expr) → made ≡ [] → PiecesRead names r r made
pieces_begin names r made none = record {
  so_far = [];
  are = ap (map tree_of) none;
  row = none_read;
  one_char = no_parts made none;
  spelled = λ z more s. s;
  shorter = omega arith;
}

pub filtered : (es : List Tree) (e : Tree) → filter (λ x. not (is_empty x)) (es ++ e ∷ []) ≡ filter (λ x. not (is_empty x)) es ++ some_of e
filtered [] e = by_test (is_empty e)
  where
    by_test : (b : Bool) → cond (not b) (e ∷ []) [] ≡ cond b [] (e ∷ [])
    by_test true = refl
    by_test false = refl
filtered (x ∷ es) e = by_test (not (is_empty x)) (filtered es e)
  where
    by_test : (b : Bool) → filter (λ y. not (is_empty y)) (es ++ e ∷ []) ≡ filter (λ y. not (is_empty y)) es ++ some_of e →
        cond b (x ∷ filter (λ y. not (is_empty y)) (es ++ e ∷ [])) (filter (λ y. not (is_empty y)) (es ++ e ∷ []))
        ≡ cond b (x ∷ filter (λ y. not (is_empty y)) es) (filter (λ y. not (is_empty y)) es) ++ some_of e
    by_test true h = ap (λ l. x ∷ l) h
    by_test false h = h

pub pieces_next : (names : Names) (start old new : Reader) (made more_made : List Expr) (e : Tree) → PiecesRead names start old made →
    is_branch_end (point_of old) ≡ false → SpellsPiece names (point_of old) (point_of new) e → map tree_of more_made ≡ map tree_of made ++ some_of e →
    length new.rest.now ≤ length old.rest.now → Each OneCharEach more_made →
    PiecesRead names start new more_made
pieces_next names start old new made more_made e r on s are shorter chars = record {
  so_far = r.so_far ++ e ∷ [];
  are = are ∙ ap (λ l. l ++ some_of e) r.are ∙ sym (filtered r.so_far e);
  row = row_more r.row on s;
  one_char = chars;
  spelled = λ z more t. subst (SpellsPieces names (point_of start) z) (sym (append_assoc r.so_far (e ∷ []) more)) (r.spelled z (e ∷ more) (piece on s t));
  shorter = let a = r.shorter in omega (arith, a, shorter);
}

-- the same for a row of pieces
pub pieces_row : (names : Names) (start old new : Reader) (made more_made : List Expr) → PiecesRead names start old made →
    PushesRow names old new made more_made → length new.rest.now ≤ length old.rest.now → PiecesRead names start new more_made
pieces_row names start old new made more_made r p shorter = record {
  so_far = r.so_far ++ p.read;
  are = p.added ∙ ap (λ l. l ++ filter (λ e. not (is_empty e)) p.read) r.are ∙ sym (filter-append (λ e. not (is_empty e)) r.so_far p.read);
  row = row_both r.row p.row;
  one_char = p.one_char r.one_char;
  spelled = λ z more t. subst (SpellsPieces names (point_of start) z) (sym (append_assoc r.so_far p.read more)) (r.spelled z (p.read ++ more) (row_pieces p.row t));
  shorter = let a = r.shorter in omega (arith, a, shorter);
}

pub pieces_done : (names : Names) (start now : Reader) (made : List Expr) → PiecesRead names start now made → is_branch_end (point_of now) ≡ true →
    (es : List Tree) × SpellsPieces names (point_of start) (point_of now) es × (map tree_of made ≡ filter (λ e. not (is_empty e)) es)
pieces_done names start now made r at_end = (
  r.so_far,
  subst (SpellsPieces names (point_of start) (point_of now)) (append-nil r.so_far) (r.spelled (point_of now) [] (no_piece at_end)),
  r.are,
)

-- the branches so far, behind those given
pub record BarsRead (names : Names) (start now : Reader) (given made : List Expr) : Type 0 where
  pub so_far : List Tree
  pub are : map tree_of made ≡ map tree_of given ++ so_far
  pub row : BarRow names (point_of start) (point_of now) so_far
  pub one_char : Each OneCharEach given → Each OneCharEach made
  pub spelled : (z : List Placed) (more : List Tree) → SpellsBars names (point_of now) z more → SpellsBars names (point_of start) z (so_far ++ more)
  pub shorter : length now.rest.now ≤ length start.rest.now

pub bars_begin : (names : Names) (r : Reader) (given : List Expr) → BarsRead names r r given given
bars_begin names r given = record {
  so_far = [];
  are = sym (append-nil (map tree_of given));
  row = none_barred;
  one_char = λ h. h;
  spelled = λ z more s. s;
  shorter = omega arith;
}

pub bars_next : (names : Names) (start old mid new : Reader) (given made more_made : List Expr) (e : Expr) → BarsRead names start old given made →
    Takes bar (point_of old) tt (point_of mid) → SpellsBranch names (point_of mid) (point_of new) (tree_of e) → more_made ≡ made ++ e ∷ [] →
    length new.rest.now ≤ length old.rest.now → OneCharEach e →
    BarsRead names start new given more_made
bars_next names start old mid new given made more_made e r t s are shorter chars = record {
  so_far = r.so_far ++ tree_of e ∷ [];
  are =
      ap (map tree_of) are
      ∙ map-append tree_of made (e ∷ [])
      ∙ ap (λ l. l ++ tree_of e ∷ []) r.are
      ∙ append_assoc (map tree_of given) r.so_far (tree_of e ∷ []);
  row = bar_row_more r.row t s;
  one_char = λ h. with_part made more_made e are chars (r.one_char h);
  spelled = λ z more u.
      subst (SpellsBars names (point_of start) z) (sym (append_assoc r.so_far (tree_of e ∷ []) more)) (r.spelled z (tree_of e ∷ more) (barred t s u));
  shorter = let a = r.shorter in omega (arith, a, shorter);
}

pub bars_done : (names : Names) (start now : Reader) (given made : List Expr) → BarsRead names start now given made → is_at bar (point_of now) ≡ false →
    (es : List Tree) × SpellsBars names (point_of start) (point_of now) es × (map tree_of made ≡ map tree_of given ++ es)
bars_done names start now given made r at_end = (
  r.so_far,
  subst (SpellsBars names (point_of start) (point_of now)) (append-nil r.so_far) (r.spelled (point_of now) [] (no_bar at_end)),
  r.are,
)

-- the class so far
pub record ClassRead (start now : Reader) (text : List ℕ) : Type 0 where
  pub so_far : List ℕ
  pub is : text ≡ [] ++ encode_utf8_all (91 ∷ so_far)
  pub texts : List ℕ
  pub row : TextRow (point_of start) (point_of now) texts
  pub spelled : (z : List Placed) (more : List ℕ) → SpellsClass (point_of now) z more → SpellsClass (point_of start) z (so_far ++ more)
  pub shorter : length now.rest.now ≤ length start.rest.now

pub class_begin : (r : Reader) (old new : List ℕ) → old ≡ [] → new ≡ old ++ encode_utf8 91 → ClassRead r r new
class_begin r old new none is = record {
  so_far = [];
  is = one_char [] new 91 (is ∙ ap (λ l. l ++ encode_utf8 91) none);
  texts = [];
  row = none_text;
  spelled = λ z more s. s;
  shorter = omega arith;
}

pub class_next : (start old new : Reader) (text more_text added : List ℕ) → ClassRead start old text → Takes class_text (point_of old) added (point_of new) →
    more_text ≡ text ++ encode_utf8_all added → length new.rest.now ≤ length old.rest.now → ClassRead start new more_text
class_next start old new text more_text added r t is shorter = record {
  so_far = r.so_far ++ added;
  is = text_added [] (91 ∷ r.so_far) added text more_text r.is is;
  texts = (text_row_more r.row t).0;
  row = (text_row_more r.row t).1;
  spelled = λ z more s. subst (SpellsClass (point_of start) z) (sym (append_assoc r.so_far added more)) (r.spelled z (added ++ more) (class_piece t s));
  shorter = let a = r.shorter in omega (arith, a, shorter);
}

pub class_done : (start old new : Reader) (text whole : List ℕ) (casei : Bool) → ClassRead start old text → Takes class_close (point_of old) tt
    (point_of new) →
    whole ≡ text ++ encode_utf8 93 →
    (t : List ℕ) × SpellsClass (point_of start) (point_of new) t × (tree.Delegate whole casei ≡ class_of t casei)
class_done start old new text whole casei r t is = (
  r.so_far,
  subst (SpellsClass (point_of start) (point_of new)) (append-nil r.so_far) (r.spelled (point_of new) [] (class_end t)),
  ap (λ bytes. tree.Delegate bytes casei) (text_added [] (91 ∷ r.so_far) (93 ∷ []) text whole r.is (one_char text whole 93 is)),
)

-- ---- rows on the stack

-- the pieces of a branch so far, apart from the stack
pub record PiecesApart (names : Names) (start now : Reader) (before left made : List Expr) : Type 0 where
  pub pieces : PiecesRead names start now made
  pub rest : left ≡ before

pub pieces_pushed : (names : Names) (start now : Reader) (before left made all : List Expr) → PiecesApart names start now before left made →
    is_branch_end (point_of now) ≡ true → (Each OneCharEach made → Adds (joined (map tree_of made)) left all) →
    Pushes (SpellsBranch names) start now before all
pieces_pushed names start now before left made all p at_end h =
    let s = pieces_done names start now made p.pieces at_end in
    pushed (SpellsBranch names) start now before all (joined (map tree_of made))
    (branch_spelled names (point_of start) (point_of now) s.0 (map tree_of made) (joined (map tree_of made)) s.1 s.2 refl)
    (on_same (joined (map tree_of made)) before left all p.rest (h p.pieces.one_char))

-- the branches so far, the first of which was on top of the stack
pub record BarsApart (names : Names) (start now : Reader) (before left made : List Expr) : Type 0 where
  pub given : List Expr
  pub bars : BarsRead names start now given made
  pub first : (below : List Expr) (e : Tree) → Adds e below before → Adds e [] given × (left ≡ below)

pub bars_pushed : (names : Names) (start now : Reader) (before left made all : List Expr) → BarsApart names start now before left made →
    is_at bar (point_of now) ≡ false → (Each OneCharEach made → Adds (alternated (map tree_of made)) left all) →
    (below : List Expr) (e : Tree) → Adds e below before → Pushes (SpellsMore names e) start now below all
bars_pushed names start now before left made all b at_end h below e a =
    let f = b.first below e a in
    let one = one_added e b.given f.0 in
    let s = bars_done names start now b.given made b.bars at_end in
    pushed (SpellsMore names e) start now below all (alternated (map tree_of made))
    (s.0, s.1, ap alternated (s.2 ∙ ap (λ l. l ++ s.0) one.0))
    (on_same (alternated (map tree_of made)) below left all f.1 (h (b.bars.one_char one.1)))

pub alternatives_pushed : {A : Type 0} (names : Names) (old mid new : Reader) (below all : List Expr) (r : Result A Failure) (e : Tree) →
    SpellsBranch names (point_of old) (point_of mid) e → IfOk r (λ u. Pushes (SpellsMore names e) mid new below all) →
    IfOk r (λ u. Pushes (SpellsAlternatives names) old new below all)
alternatives_pushed names old mid new below all (Ok u) e s h =
    let more = h.spelled in
    record {
      read = h.read;
      adds = h.adds;
      spelled = subst (SpellsAlternatives names (point_of old) (point_of new)) (sym more.2) (branches s more.1);
    }
alternatives_pushed names old mid new below all (Err f) e s h = tt
