-- How a tree is read from its text, as an atom, a piece, a branch, and alternatives.
use Rattle.std.proofs.Common.{◌≡◌, ℕ, ◌+◌, ◌≤◌, Bool, true, false, not, List, [], ◌∷◌, ◌++◌, filter, length, Option, Some, None, Ok, ◌==◌, refl, sym, ap, ◌∙◌, subst, arith, length-append}
use Rattle.std.proofs.lemmas.Bool.{true≢false, and_parts}
use Rattle.fancy_meaning.specs.Tree as tree
use Rattle.fancy_meaning.specs.Tree.{Tree, Trees, none, more, children, trees}
use Rattle.fancy_meaning.specs.WellFormed.{most_groups}
use Rattle.fancy_tokens.specs.declared.flags.Flags.{Flags}
use Rattle.fancy_tokens.specs.declared.tokens.Enclosing.TheVariants as enclosing
use Rattle.fancy_tokens.specs.declared.tokens.Quantifier.{Quantifier}
use Rattle.fancy_tokens.specs.declared.tokens.Quantifier.TheVariants.{Question}
use Rattle.fancy_tokens.specs.declared.tokens.Suffix.{Suffix}
use Rattle.fancy_tokens.specs.declared.tokens.Suffix.TheVariants.{Turned}
use Rattle.fancy_pattern.specs.Texts.{Text, gap_at, blank_at, comment_end}
use Rattle.fancy_tokens.specs.Tokens.{Token, Open, Around, Group, Bar, Close, Quantified, Placed, placed, item}
use Rattle.fancy_pattern.specs.Groups.{opening_at, question_at}
use Rattle.fancy_pattern.specs.Items.{item_at}
use Rattle.fancy_pattern.specs.Lexing.{Lexes}
use Rattle.fancy_tokens.specs.Nesting.{most_nested}
use Rattle.fancy_pattern.specs.Grammar.{Names, Takes, SpellsAtom, SpellsPiece, SpellsPieces, SpellsSuffix, SpellsBranch, SpellsBars, is_at, is_branch_end, is_empty, is_repeatable, quantifier, suffix, suffixed, bar, joined, alternated, branch_of}
use Rattle.fancy_pattern.specs.Grammar as rule
use Rattle.fancy_pattern.proofs.EscapedTokens.{not_if}
use Rattle.fancy_round_trip.specs.Returning.{Returns, EachReturns, AreBounds, has_two, none_empty, depth_of, deepest}
use Rattle.fancy_round_trip.proofs.Spelled.{spell, spell_row, spell_bars, spell_bounds, spell_suffix, opens, each_opens}
use Rattle.fancy_round_trip.proofs.Steps.{at, base, is_if, open_step, close_step, bar_step, quantifier_step}
use Rattle.fancy_round_trip.proofs.Counts.{bounds_read, question_item}
use Rattle.fancy_round_trip.proofs.Read.{Starts, Read, AtomRel, PieceRel, RowRel, BranchRel, WholeRel, BarsRel, Ends, no_quantifier, piece_of_atom, branch_of_piece, whole_of_branch, closed, bracketed}
use Rattle.fancy_round_trip.proofs.Leaves.{LeafRead}

-- read from a text that nests so deep, with what follows it
abbrev pub AtomRead : Bool → Tree → ℕ → (Text → Text) → Type 0
AtomRead unicode e deep own =
    (outer : List Flags) (n m : ℕ) (rest : Text) (ts : List Placed) → length outer + deep ≤ most_nested → n + opens e ≡ m → m ≤ most_groups →
    (is_repeatable e ≡ false → Starts rest) → Lexes (at (base unicode) outer m) rest ts → Read (at (base unicode) outer n) (own rest) (AtomRel e ts)

abbrev pub PieceRead : Bool → Tree → ℕ → (Text → Text) → Type 0
PieceRead unicode e deep own =
    (outer : List Flags) (n m : ℕ) (rest : Text) (ts : List Placed) → length outer + deep ≤ most_nested → n + opens e ≡ m → m ≤ most_groups →
    Starts rest → is_at quantifier ts ≡ false → Lexes (at (base unicode) outer m) rest ts → Read (at (base unicode) outer n) (own rest) (PieceRel e ts)

abbrev pub RowRead : Bool → Trees → ℕ → (Text → Text) → Type 0
RowRead unicode es deep own =
    (outer : List Flags) (n m : ℕ) (rest : Text) (ts : List Placed) → length outer + deep ≤ most_nested → n + each_opens es ≡ m → m ≤ most_groups →
    Starts rest → is_branch_end ts ≡ true → Lexes (at (base unicode) outer m) rest ts → Read (at (base unicode) outer n) (own rest) (RowRel es ts)

abbrev pub BranchRead : Bool → Tree → ℕ → (Text → Text) → Type 0
BranchRead unicode e deep own =
    (outer : List Flags) (n m : ℕ) (rest : Text) (ts : List Placed) → length outer + deep ≤ most_nested → n + opens e ≡ m → m ≤ most_groups →
    Starts rest → is_branch_end ts ≡ true → Lexes (at (base unicode) outer m) rest ts → Read (at (base unicode) outer n) (own rest) (BranchRel e ts)

abbrev pub BarsRead : Bool → Trees → ℕ → (Text → Text) → Type 0
BarsRead unicode es deep own =
    (outer : List Flags) (n m : ℕ) (rest : Text) (ts : List Placed) → length outer + deep ≤ most_nested → n + each_opens es ≡ m → m ≤ most_groups →
    Starts rest → Ends ts → Lexes (at (base unicode) outer m) rest ts → Read (at (base unicode) outer n) (own rest) (BarsRel es ts)

abbrev pub WholeRead : Bool → Tree → ℕ → (Text → Text) → Type 0
WholeRead unicode e deep own =
    (outer : List Flags) (n m : ℕ) (rest : Text) (ts : List Placed) → length outer + deep ≤ most_nested → n + opens e ≡ m → m ≤ most_groups →
    Starts rest → Ends ts → Lexes (at (base unicode) outer m) rest ts → Read (at (base unicode) outer n) (own rest) (WholeRel e ts)

-- at each precedence
pub record Readings (unicode : Bool) (e : Tree) (h : Returns e) : Type 0 where
  pub atom : is_empty e ≡ false → AtomRead unicode e (depth_of e 3) (spell e h 3)
  pub piece : is_empty e ≡ false → PieceRead unicode e (depth_of e 2) (spell e h 2)
  pub branch : BranchRead unicode e (depth_of e 1) (spell e h 1)
  pub whole : WholeRead unicode e (depth_of e 0) (spell e h 0)

abbrev pub EachReadings : (unicode : Bool) (es : Trees) → EachReturns es → Type 0
EachReadings unicode none h = Unit {0}
EachReadings unicode (more e es) h = Readings unicode e h.0 × EachReadings unicode es h.1

-- ---- from one form to the next

piece_read : (unicode : Bool) (e : Tree) (deep : ℕ) (own : Text → Text) → AtomRead unicode e deep own → PieceRead unicode e deep own
piece_read unicode e deep own a outer n m rest ts nested groups few starts missing lexes =
    let r = a outer n m rest ts nested groups few (λ z. starts) lexes in
    record { tokens = r.tokens; lexes = r.lexes; starts = r.starts; is = piece_of_atom e ts r.tokens missing r.is }

branch_read : (unicode : Bool) (e : Tree) (deep : ℕ) (own : Text → Text) → is_empty e ≡ false → PieceRead unicode e deep own → BranchRead unicode e deep own
branch_read unicode e deep own some p outer n m rest ts nested groups few starts end lexes =
    let r = p outer n m rest ts nested groups few starts (no_quantifier ts end) lexes in
    record { tokens = r.tokens; lexes = r.lexes; starts = r.starts; is = branch_of_piece e ts r.tokens some end r.is }

pub whole_read : (unicode : Bool) (e : Tree) (deep : ℕ) (own : Text → Text) → BranchRead unicode e deep own → WholeRead unicode e deep own
whole_read unicode e deep own b outer n m rest ts nested groups few starts end lexes =
    let r = b outer n m rest ts nested groups few starts end.0 lexes in
    record { tokens = r.tokens; lexes = r.lexes; starts = r.starts; is = whole_of_branch e ts r.tokens end.1 r.is }

deeper_branch : (unicode : Bool) (e : Tree) (deep deeper : ℕ) (own : Text → Text) → deep ≤ deeper → BranchRead unicode e deep own →
    BranchRead unicode e deeper own
deeper_branch unicode e deep deeper own le b outer n m rest ts nested = b outer n m rest ts (omega (arith, nested, le))

deeper_whole : (unicode : Bool) (e : Tree) (deep deeper : ℕ) (own : Text → Text) → deep ≤ deeper → WholeRead unicode e deep own → WholeRead unicode e deeper own
deeper_whole unicode e deep deeper own le w outer n m rest ts nested = w outer n m rest ts (omega (arith, nested, le))

deeper_piece : (unicode : Bool) (e : Tree) (deep deeper : ℕ) (own : Text → Text) → deep ≤ deeper → PieceRead unicode e deep own → PieceRead unicode e deeper own
deeper_piece unicode e deep deeper own le p outer n m rest ts nested = p outer n m rest ts (omega (arith, nested, le))

plain_item : (unicode : Bool) (n : ℕ) (text : Text) →
    item_at (base unicode) n (40 ∷ 63 ∷ 58 ∷ text) ≡ Ok (item (base unicode) (Open (Around enclosing.Plain)), text)
unfolding item_at opening_at question_at
plain_item unicode n text = refl

more_nested : (outer : List Flags) (f : Flags) (deep : ℕ) → length outer + (1 + deep) ≤ most_nested → length (outer ++ f ∷ []) + deep ≤ most_nested
more_nested outer f deep h = omega (arith, h, length-append outer (f ∷ []))

-- `(?: )`
pub in_plain : (unicode : Bool) (e : Tree) (deep : ℕ) (own : Text → Text) → WholeRead unicode e deep own →
    AtomRead unicode e (1 + deep) (λ rest. 40 ∷ 63 ∷ 58 ∷ own (41 ∷ rest))
in_plain unicode e deep own w outer n m rest ts nested groups few ok lexes =
    let f = base unicode in
    bracketed unicode f (λ t. 63 ∷ 58 ∷ t) (own (41 ∷ rest)) e outer n m rest ts (plain_item unicode n (own (41 ∷ rest))) refl
    (omega (arith, nested)) (omega (arith, groups, few)) few lexes
    (λ inside. w (outer ++ f ∷ []) n m (41 ∷ rest) (closed rest ts) (more_nested outer f deep nested) groups few (refl, refl, refl) (refl, refl) inside)

-- ---- groups

no_gap_group : (text : Text) → Starts text → gap_at false (40 ∷ text) ≡ None
no_gap_group [] h = refl
no_gap_group (c ∷ cs) h =
    ap {A = Option Text} (λ o. elim o [ Some after ↦ comment_end false after | None ↦ blank_at false (40 ∷ c ∷ cs) ]) (not_if (c == 63) _ _ h.0)

group_item : (unicode : Bool) (n : ℕ) (text : Text) → Starts text →
    item_at (base unicode) n (40 ∷ text) ≡ Ok (item (base unicode) (Open (Group (n + 1) None)), text)
unfolding item_at opening_at
group_item unicode n [] h = refl
group_item unicode n (c ∷ cs) h = not_if (c == 63) _ _ h.0 ∙ not_if (c == 42) _ _ h.1

-- `( )`
pub in_group : (unicode : Bool) (e : Tree) (deep : ℕ) (own : Text → Text) → WholeRead unicode e deep own →
    AtomRead unicode (tree.Group 0 e) (1 + deep) (λ rest. 40 ∷ own (41 ∷ rest))
in_group unicode e deep own w outer n m rest ts nested groups few ok lexes =
    let f = base unicode in
    let r = w (outer ++ f ∷ []) (n + 1) m (41 ∷ rest) (closed rest ts) (more_nested outer f deep nested) (omega (arith, groups)) few (refl, refl, refl)
    (refl, refl) (close_step f f outer m rest ts few lexes) in
    let text = 40 ∷ own (41 ∷ rest) in
    let o = Group (n + 1) None in
    record {
      tokens = placed (length text) (Open o) ∷ r.tokens;
      lexes =
          open_step f f outer n (n + 1) text (own (41 ∷ rest)) o r.tokens (omega arith) (no_gap_group (own (41 ∷ rest)) r.starts)
          (group_item unicode n (own (41 ∷ rest)) r.starts) refl (omega (arith, groups, few)) (omega (arith, nested)) refl r.lexes;
      starts = (refl, refl, refl);
      is = (
        (refl, refl),
        λ names.
            rule.opened (record { first = placed (length text) (Open o); tokens = refl; is = refl })
            (rule.group (r.is names) (record { first = placed (length (41 ∷ rest)) Close; tokens = refl; is = refl })),
      );
    }

-- ---- loops

-- a quantifier, and what it makes of the atom before it
record IsQuantified (unicode : Bool) (outer : List Flags) (n : ℕ) (text : Text) (ts : List Placed) (lo : ℕ) (hi : Option ℕ) (greedy : Bool) : Type 0 where
  tokens : List Placed
  behind : List Placed
  lexes : Lexes (at (base unicode) outer n) text tokens
  count : Quantifier × Bool
  turned : Option Suffix
  takes : Takes quantifier tokens count behind
  suffix : SpellsSuffix behind ts turned
  same : (e : Tree) → suffixed count.0 count.1 turned e ≡ tree.Repeat lo hi greedy e

no_suffix_at : (left : ℕ) (t : Token) (ts : List Placed) → is_at quantifier (placed left t ∷ ts) ≡ false → is_at suffix (placed left t ∷ ts) ≡ false
no_suffix_at left (Quantified q greedy) ts h = absurd (true≢false h)
no_suffix_at left t ts h = refl

no_suffix : (ts : List Placed) → is_at quantifier ts ≡ false → is_at suffix ts ≡ false
no_suffix [] h = refl
no_suffix (p ∷ ts) h = no_suffix_at p.left p.token ts h

loop_same : (lo lo' : ℕ) (hi hi' : Option ℕ) (greedy : Bool) (e : Tree) → lo ≡ lo' → hi ≡ hi' → tree.Repeat lo hi greedy e ≡ tree.Repeat lo' hi' greedy e
loop_same lo lo' hi hi' greedy e p q = ap (λ l. tree.Repeat l hi greedy e) p ∙ ap (λ h. tree.Repeat lo' h greedy e) q

quantifier_read : (unicode : Bool) (outer : List Flags) (n : ℕ) (rest : Text) (ts : List Placed) (lo : ℕ) (hi : Option ℕ) (greedy : Bool) → AreBounds lo hi →
    n ≤ most_groups → is_at quantifier ts ≡ false → Lexes (at (base unicode) outer n) rest ts →
    IsQuantified unicode outer n (spell_bounds lo hi (spell_suffix greedy rest)) ts lo hi greedy
quantifier_read unicode outer n rest ts lo hi true bounds few missing lexes =
    let b = bounds_read unicode lo hi rest bounds in
    let text = spell_bounds lo hi rest in
    record {
      tokens = placed (length text) (Quantified b.quantifier true) ∷ ts;
      behind = ts;
      lexes = quantifier_step (base unicode) outer n text rest b.quantifier true ts b.some b.no_gap (b.is n) few lexes;
      count = (b.quantifier, true);
      turned = None;
      takes = record { first = placed (length text) (Quantified b.quantifier true); tokens = refl; is = refl };
      suffix = rule.no_suffix (no_suffix ts missing);
      same = λ e. loop_same _ lo _ hi true e b.lo_is b.hi_is;
    }
quantifier_read unicode outer n rest ts lo hi false bounds few missing lexes =
    let b = bounds_read unicode lo hi (63 ∷ rest) bounds in
    let text = spell_bounds lo hi (63 ∷ rest) in
    let mark = placed (length (63 ∷ rest)) (Quantified Question true) in
    record {
      tokens = placed (length text) (Quantified b.quantifier true) ∷ mark ∷ ts;
      behind = mark ∷ ts;
      lexes =
          quantifier_step (base unicode) outer n text (63 ∷ rest) b.quantifier true (mark ∷ ts) b.some b.no_gap (b.is n) few
          (quantifier_step (base unicode) outer n (63 ∷ rest) rest Question true ts (omega arith) refl (question_item unicode n rest) few lexes);
      count = (b.quantifier, true);
      turned = Some Turned;
      takes = record { first = placed (length text) (Quantified b.quantifier true); tokens = refl; is = refl };
      suffix = rule.a_suffix (record { first = mark; tokens = refl; is = refl });
      same = λ e. loop_same _ lo _ hi false e b.lo_is b.hi_is;
    }

pub repeatable_some : (e : Tree) → is_repeatable e ≡ true → is_empty e ≡ false
repeatable_some tree.Empty h = absurd (true≢false (sym h))
repeatable_some e h = refl

pub loop_read : (unicode : Bool) (e : Tree) (deep : ℕ) (own : Text → Text) (lo : ℕ) (hi : Option ℕ) (greedy : Bool) → is_repeatable e ≡ true → AreBounds lo hi →
    AtomRead unicode e deep own →
    PieceRead unicode (tree.Repeat lo hi greedy e) deep (λ rest. own (spell_bounds lo hi (spell_suffix greedy rest)))
loop_read unicode e deep own lo hi greedy may bounds a outer n m rest ts nested groups few starts missing lexes =
    let q = quantifier_read unicode outer m rest ts lo hi greedy bounds few missing lexes in
    let r = a outer n m (spell_bounds lo hi (spell_suffix greedy rest)) q.tokens nested groups few (λ z. absurd (true≢false (sym may ∙ z))) q.lexes in
    record {
      tokens = r.tokens;
      lexes = r.lexes;
      starts = r.starts;
      is = (r.is.0, λ names. subst (SpellsPiece names r.tokens ts) (q.same e) (rule.quantified (r.is.1 names) may q.takes q.suffix));
    }

-- ---- sequences

pub at_same : (unicode : Bool) (outer : List Flags) (n m : ℕ) (rest : Text) (ts : List Placed) → m ≡ n → Lexes (at (base unicode) outer m) rest ts →
    Lexes (at (base unicode) outer n) rest ts
at_same unicode outer n m rest ts same lexes = subst (λ k. Lexes (at (base unicode) outer k) rest ts) same lexes

first_some : (e : Tree) (es : Trees) → none_empty (more e es) ≡ true → is_empty e ≡ false
first_some e es h = by_test (is_empty e) (and_parts (not (is_empty e)) (none_empty es) h).0
  where
    by_test : (b : Bool) → not b ≡ true → b ≡ false
    by_test true z = absurd (true≢false (sym z))
    by_test false z = refl

pub row_read : (unicode : Bool) (es : Trees) (h : EachReturns es) → EachReadings unicode es h → none_empty es ≡ true →
    RowRead unicode es (deepest es 2) (spell_row es h)
row_read unicode none h all some outer n m rest ts nested groups few starts end lexes =
    record {
      tokens = ts;
      lexes = at_same unicode outer n m rest ts (omega (arith, groups)) lexes;
      starts = starts;
      is = (no_quantifier ts end, λ names. rule.no_piece end);
    }
row_read unicode (more e es) h all some outer n m rest ts nested groups few starts end lexes =
    let others = (and_parts (not (is_empty e)) (none_empty es) some).1 in
    let r = row_read unicode es h.1 all.1 others outer (n + opens e) m rest ts (omega (arith, nested)) (omega (arith, groups)) few starts end lexes in
    let p = all.0.piece (first_some e es some) outer n (n + opens e) (spell_row es h.1 rest) r.tokens (omega (arith, nested)) refl
    (omega (arith, groups, few)) r.starts r.is.0 r.lexes in
    record {
      tokens = p.tokens;
      lexes = p.lexes;
      starts = p.starts;
      is = (p.is.0.1, λ names. rule.piece {x = p.tokens} p.is.0.0 (p.is.1 names) (r.is.1 names));
    }

all_left : (es : Trees) → none_empty es ≡ true → filter (λ e. not (is_empty e)) (children es) ≡ children es
all_left none h = refl
all_left (more e es) h =
    let p = and_parts (not (is_empty e)) (none_empty es) h in
    is_if (not (is_empty e)) _ _ p.0 ∙ ap (λ l. e ∷ l) (all_left es p.1)

same_trees : (es : Trees) → trees (children es) ≡ es
same_trees none = refl
same_trees (more e es) = ap (more e) (same_trees es)

joined_two : (es : Trees) → has_two es ≡ true → joined (children es) ≡ tree.Concat es
joined_two none h = absurd (true≢false (sym h))
joined_two (more e none) h = absurd (true≢false (sym h))
joined_two (more e (more d es)) h = ap (λ l. tree.Concat (more e (more d l))) (same_trees es)

alternated_two : (es : Trees) → has_two es ≡ true → alternated (children es) ≡ tree.Alt es
alternated_two none h = absurd (true≢false (sym h))
alternated_two (more e none) h = absurd (true≢false (sym h))
alternated_two (more e (more d es)) h = ap (λ l. tree.Alt (more e (more d l))) (same_trees es)

pub concat_read : (unicode : Bool) (es : Trees) (h : EachReturns es) → EachReadings unicode es h → has_two es ≡ true → none_empty es ≡ true →
    BranchRead unicode (tree.Concat es) (deepest es 2) (spell_row es h)
concat_read unicode es h all two some outer n m rest ts nested groups few starts end lexes =
    let r = row_read unicode es h all some outer n m rest ts nested groups few starts end lexes in
    record {
      tokens = r.tokens;
      lexes = r.lexes;
      starts = r.starts;
      is = λ names.
          subst (SpellsBranch names r.tokens ts) (ap joined (all_left es some) ∙ joined_two es two) (rule.branch (r.is.1 names));
    }

-- ---- alternatives

pub bars_read : (unicode : Bool) (e : Tree) (es : Trees) (h : EachReturns (more e es)) → EachReadings unicode (more e es) h →
    BarsRead unicode (more e es) (deepest (more e es) 1) (spell_bars (more e es) h)
bars_read unicode e none h all outer n m rest ts nested groups few starts end lexes =
    let r = all.0.branch outer n m rest ts (omega (arith, nested)) (omega (arith, groups)) few starts end.0 lexes in
    record { tokens = r.tokens; lexes = r.lexes; starts = r.starts; is = λ names. (ts, r.is names, rule.no_bar end.1) }
bars_read unicode e (more d es) h all outer n m rest ts nested groups few starts end lexes =
    let r = bars_read unicode d es h.1 all.1 outer (n + opens e) m rest ts (omega (arith, nested)) (omega (arith, groups)) few starts end lexes in
    let others = spell_bars (more d es) h.1 rest in
    let first = placed (length (124 ∷ others)) Bar in
    let b = all.0.branch outer n (n + opens e) (124 ∷ others) (first ∷ r.tokens) (omega (arith, nested)) refl (omega (arith, groups, few)) (refl, refl, refl)
    refl (bar_step unicode outer (n + opens e) others r.tokens (omega (arith, groups, few)) r.lexes) in
    record {
      tokens = b.tokens;
      lexes = b.lexes;
      starts = b.starts;
      is = λ names.
          let s = r.is names in
          (first ∷ r.tokens, b.is names, rule.barred (record { first = first; tokens = refl; is = refl }) s.1 s.2);
    }

pub alt_read : (unicode : Bool) (es : Trees) (h : EachReturns es) → EachReadings unicode es h → has_two es ≡ true →
    WholeRead unicode (tree.Alt es) (deepest es 1) (spell_bars es h)
alt_read unicode none h all two outer n m rest ts nested groups few starts end lexes = absurd (true≢false (sym two))
alt_read unicode (more e es) h all two outer n m rest ts nested groups few starts end lexes =
    let r = bars_read unicode e es h all outer n m rest ts nested groups few starts end lexes in
    record {
      tokens = r.tokens;
      lexes = r.lexes;
      starts = r.starts;
      is = λ names.
          let s = r.is names in
          subst (rule.SpellsAlternatives names r.tokens ts) (alternated_two (more e es) two) (rule.branches s.1 s.2);
    }

-- ---- all forms of a tree

-- whose text is the same at each precedence
pub of_atom : (unicode : Bool) (e : Tree) (deep : ℕ) (own : Text → Text) → is_empty e ≡ false → AtomRead unicode e deep own →
    PieceRead unicode e deep own × BranchRead unicode e deep own × WholeRead unicode e deep own
of_atom unicode e deep own some a =
    let p = piece_read unicode e deep own a in
    let b = branch_read unicode e deep own some p in
    (p, b, whole_read unicode e deep own b)

-- which is in brackets from 3 on
pub of_piece : (unicode : Bool) (e : Tree) (deep : ℕ) (own : Text → Text) → is_empty e ≡ false → PieceRead unicode e deep own →
    AtomRead unicode e (1 + deep) (λ rest. 40 ∷ 63 ∷ 58 ∷ own (41 ∷ rest))
    × PieceRead unicode e (0 + deep) own × BranchRead unicode e (0 + deep) own × WholeRead unicode e (0 + deep) own
of_piece unicode e deep own some p =
    let b = branch_read unicode e deep own some p in
    let w = whole_read unicode e deep own b in
    let le : deep ≤ 0 + deep = omega arith in (
      in_plain unicode e deep own w,
      deeper_piece unicode e deep (0 + deep) own le p,
      deeper_branch unicode e deep (0 + deep) own le b,
      deeper_whole unicode e
          deep (0 + deep) own le w,
    )

-- which is in brackets from 2 on
pub of_branch : (unicode : Bool) (e : Tree) (deep : ℕ) (own : Text → Text) → BranchRead unicode e deep own →
    AtomRead unicode e (1 + deep) (λ rest. 40 ∷ 63 ∷ 58 ∷ own (41 ∷ rest))
    × PieceRead unicode e (1 + deep) (λ rest. 40 ∷ 63 ∷ 58 ∷ own (41 ∷ rest))
    × BranchRead unicode e (0 + deep) own × WholeRead unicode e (0 + deep) own
of_branch unicode e deep own b =
    let w = whole_read unicode e deep own b in
    let a = in_plain unicode e deep own w in
    let le : deep ≤ 0 + deep = omega arith in
    (a, piece_read unicode e (1 + deep) _ a, deeper_branch unicode e deep (0 + deep) own le b, deeper_whole unicode e deep (0 + deep) own le w)

-- which is in brackets from 1 on
pub of_whole : (unicode : Bool) (e : Tree) (deep : ℕ) (own : Text → Text) → is_empty e ≡ false → WholeRead unicode e deep own →
    AtomRead unicode e (1 + deep) (λ rest. 40 ∷ 63 ∷ 58 ∷ own (41 ∷ rest))
    × PieceRead unicode e (1 + deep) (λ rest. 40 ∷ 63 ∷ 58 ∷ own (41 ∷ rest))
    × BranchRead unicode e (1 + deep) (λ rest. 40 ∷ 63 ∷ 58 ∷ own (41 ∷ rest)) × WholeRead unicode e (0 + deep) own
of_whole unicode e deep own some w =
    let a = in_plain unicode e deep own w in
    let p = piece_read unicode e (1 + deep) _ a in
    (a, p, branch_read unicode e (1 + deep) _ some p, deeper_whole unicode e deep (0 + deep) own (omega arith) w)

-- ---- leaves

pub plain_leaf : (unicode : Bool) (e : Tree) (own : Text → Text) → opens e ≡ 0 → LeafRead (base unicode) own e → AtomRead unicode e 0 own
plain_leaf unicode e own closed l outer n m rest ts nested groups few ok lexes =
    l outer n rest ts (omega (arith, groups, few)) ok (at_same unicode outer n m rest ts (omega (arith, groups, closed)) lexes)

-- in a group with a flag
pub in_flags : (unicode : Bool) (g : Flags) (e : Tree) (begin own : Text → Text) → opens e ≡ 0 → is_empty e ≡ false →
    ((n : ℕ) (text : Text) → item_at (base unicode) n (40 ∷ begin text) ≡ Ok (item g (Open (Around enclosing.Plain)), text)) →
    ((text : Text) → gap_at false (40 ∷ begin text) ≡ None) → LeafRead g own e → AtomRead unicode e 1 (λ rest. 40 ∷ begin (own (41 ∷ rest)))
in_flags unicode g e begin own closes some is no_gap l outer n m rest ts nested groups few ok lexes =
    let f = base unicode in
    let inner = own (41 ∷ rest) in
    let same : n ≡ m = omega (arith, groups, closes) in
    bracketed unicode g begin inner e outer n m rest ts (is n inner) (no_gap inner) nested (omega (arith, groups, few)) few lexes
    (λ inside.
    let r = l (outer ++ f ∷ []) n (41 ∷ rest) (closed rest ts) (omega (arith, groups, few)) (λ z. (refl, refl, refl))
    (subst (λ k. Lexes (at g (outer ++ f ∷ []) k) (41 ∷ rest) (closed rest ts)) (sym same) inside) in
    record {
      tokens = r.tokens;
      lexes = r.lexes;
      starts = r.starts;
      is =
          whole_of_branch e (closed rest ts) r.tokens refl
          (branch_of_piece e (closed rest ts) r.tokens some refl (piece_of_atom e (closed rest ts) r.tokens refl r.is));
    })
