-- What is read of a text: its tokens, how it begins, and what they spell up to those of the rest.
use Rattle.std.proofs.Common.{◌≡◌, ℕ, ◌+◌, ◌<◌, ◌≤◌, Bool, true, false, not, List, [], ◌∷◌, ◌++◌, length, None, Ok, if◌then◌else◌, ◌==◌, refl, sym, ap, subst, arith}
use Rattle.std.proofs.lemmas.Bool.{true≢false}
use Rattle.fancy_meaning.specs.Tree.{Tree, Trees, none, more, children}
use Rattle.fancy_meaning.specs.WellFormed.{most_groups}
use Rattle.fancy_tokens.specs.declared.flags.Flags.{Flags}
use Rattle.fancy_tokens.specs.declared.tokens.Enclosing.TheVariants as enclosing
use Rattle.fancy_pattern.specs.Texts.{Text, gap_at}
use Rattle.fancy_tokens.specs.Tokens.{Token, Node, Open, Around, Bar, Close, Placed, placed, item}
use Rattle.fancy_pattern.specs.Items.{item_at}
use Rattle.fancy_pattern.specs.Lexing.{State, Lexes}
use Rattle.fancy_tokens.specs.Nesting.{most_nested}
use Rattle.fancy_pattern.specs.Grammar.{Names, SpellsAtom, SpellsPiece, SpellsPieces, SpellsBranch, SpellsBars, SpellsAlternatives, is_at, is_branch_end, is_empty, is_repeatable, quantifier, bar, joined, branch_of}
use Rattle.fancy_pattern.specs.Grammar as rule
use Rattle.fancy_round_trip.proofs.Steps.{at, base, node_step, open_step, close_step}

-- what may stand behind a parenthesis and behind `\b`
abbrev pub Starts : Text → Type 0
Starts [] = Unit {0}
Starts (c ∷ cs) = ((c == 63) ≡ false) × ((c == 42) ≡ false) × ((c == 123) ≡ false)

pub record Read (s : State) (text : Text) (Rel : List Placed → Type 0) : Type 0 where
  pub tokens : List Placed
  pub lexes : Lexes s text tokens
  pub starts : Starts text
  pub is : Rel tokens

-- a piece may begin there
abbrev pub Begins : List Placed → Type 0
Begins x = (is_branch_end x ≡ false) × (is_at quantifier x ≡ false)

abbrev pub AtomRel : Tree → List Placed → List Placed → Type 0
AtomRel e ts x = Begins x × ((names : Names) → SpellsAtom names x ts e)

abbrev pub PieceRel : Tree → List Placed → List Placed → Type 0
PieceRel e ts x = Begins x × ((names : Names) → SpellsPiece names x ts e)

abbrev pub RowRel : Trees → List Placed → List Placed → Type 0
RowRel es ts x = (is_at quantifier x ≡ false) × ((names : Names) → SpellsPieces names x ts (children es))

abbrev pub BranchRel : Tree → List Placed → List Placed → Type 0
BranchRel e ts x = (names : Names) → SpellsBranch names x ts e

abbrev pub WholeRel : Tree → List Placed → List Placed → Type 0
WholeRel e ts x = (names : Names) → SpellsAlternatives names x ts e

-- a branch, and after bars the others
abbrev pub BarsRel : Trees → List Placed → List Placed → Type 0
BarsRel none ts x = ⊥
BarsRel (more e es) ts x =
    (names : Names) → (y : List Placed) × SpellsBranch names x y e × SpellsBars names y ts (children es)

-- no further branch, and the end of this one
abbrev pub Ends : List Placed → Type 0
Ends ts = (is_branch_end ts ≡ true) × (is_at bar ts ≡ false)

-- ---- from one form to the next

no_quantifier_at : (left : ℕ) (t : Token) (ts : List Placed) → is_branch_end (placed left t ∷ ts) ≡ true → is_at quantifier (placed left t ∷ ts) ≡ false
no_quantifier_at left Bar ts h = refl
no_quantifier_at left Close ts h = refl
no_quantifier_at left t ts h = absurd (true≢false (sym h))

pub no_quantifier : (ts : List Placed) → is_branch_end ts ≡ true → is_at quantifier ts ≡ false
no_quantifier [] h = refl
no_quantifier (p ∷ ts) h = no_quantifier_at p.left p.token ts h

pub one_left : (e : Tree) → is_empty e ≡ false → branch_of (e ∷ []) ≡ e
one_left e h = ap {A = Bool} {B = Tree} (λ b. joined (if not b then e ∷ [] else [])) h

pub piece_of_atom : (e : Tree) (ts x : List Placed) → is_at quantifier ts ≡ false → AtomRel e ts x → PieceRel e ts x
piece_of_atom e ts x missing h = (h.0, λ names. rule.plain (h.1 names) missing)

pub branch_of_piece : (e : Tree) (ts x : List Placed) → is_empty e ≡ false → is_branch_end ts ≡ true → PieceRel e ts x → BranchRel e ts x
branch_of_piece e ts x some end h = λ names.
    subst (SpellsBranch names x ts) (one_left e some) (rule.branch (rule.piece h.0.0 (h.1 names) (rule.no_piece end)))

pub whole_of_branch : (e : Tree) (ts x : List Placed) → is_at bar ts ≡ false → BranchRel e ts x → WholeRel e ts x
whole_of_branch e ts x missing h = λ names. rule.branches (h names) (rule.no_bar missing)

-- ---- a node, and what stands in parentheses

pub node_read : (f : Flags) (outer : List Flags) (n : ℕ) (text rest : Text) (e : Tree) (ts : List Placed) → 0 < length text →
    gap_at f.ignore_whitespace text ≡ None → item_at f n text ≡ Ok (item f (Node e), rest) → n ≤ most_groups → Starts text → Lexes (at f outer n) rest ts →
    Read (at f outer n) text (AtomRel e ts)
node_read f outer n text rest e ts some no_gap is few starts lexed =
    record {
      tokens = placed (length text) (Node e) ∷ ts;
      lexes = node_step f outer n text rest e ts some no_gap is few lexed;
      starts = starts;
      is = ((refl, refl), λ names. rule.node (record { first = placed (length text) (Node e); tokens = refl; is = refl }));
    }

abbrev pub closed : Text → List Placed → List Placed
closed rest ts = placed (length (41 ∷ rest)) Close ∷ ts

-- what stands in brackets that are no group, with the flags that hold there
pub bracketed : (unicode : Bool) (g : Flags) (begin : Text → Text) (inner : Text) (e : Tree) (outer : List Flags) (n m : ℕ) (rest : Text) (ts : List Placed) →
    item_at (base unicode) n (40 ∷ begin inner) ≡ Ok (item g (Open (Around enclosing.Plain)), inner) → gap_at false (40 ∷ begin inner) ≡ None →
    length outer + 1 ≤ most_nested → n ≤ most_groups → m ≤ most_groups → Lexes (at (base unicode) outer m) rest ts →
    (Lexes (at g (outer ++ base unicode ∷ []) m) (41 ∷ rest) (closed rest ts) →
    Read (at g (outer ++ base unicode ∷ []) n) inner (WholeRel e (closed rest ts))) → Read (at (base unicode) outer n) (40 ∷ begin inner) (AtomRel e ts)
bracketed unicode g begin inner e outer n m rest ts is no_gap deep few few_behind lexes within =
    let f = base unicode in
    let r = within (close_step f g outer m rest ts few_behind lexes) in
    record {
      tokens = placed (length (40 ∷ begin inner)) (Open (Around enclosing.Plain)) ∷ r.tokens;
      lexes =
          open_step f g outer n n (40 ∷ begin inner) inner (Around enclosing.Plain) r.tokens (omega arith) no_gap is (omega arith) few deep refl r.lexes;
      starts = (refl, refl, refl);
      is = (
        (refl, refl),
        λ names.
            rule.opened
            (record { first = placed (length (40 ∷ begin inner)) (Open (Around enclosing.Plain)); tokens = refl; is = refl })
            (rule.around {f = enclosing.Plain} (r.is names)
            (record { first = placed (length (41 ∷ rest)) Close; tokens = refl; is = refl })),
      );
    }
