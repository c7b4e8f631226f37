-- Where no token names a group, no node does.
use Rattle.std.proofs.Common.{◌≡◌, ℕ, Bool, true, false, ◌||◌, not, cond, List, [], ◌∷◌, ◌++◌, map, filter, filter_map, Option, Some, None, is_some, refl, ap, ◌∙◌, subst, append-nil}
use Rattle.std.proofs.lemmas.Bool.{true≢false}
use Rattle.std.specs.List.{list_any}
use Rattle.fancy_meaning.specs.Tree as tree
use Rattle.fancy_meaning.specs.Tree.{Tree, trees}
use Rattle.fancy_meaning.specs.Nodes.{nodes, nodes_of_each}
use Rattle.fancy_meaning.specs.WellFormed.{is_any_call}
use Rattle.fancy_expr.specs.Each.{Each}
use Rattle.fancy_tokens.specs.declared.tokens.Token.{Token as CodeToken}
use Rattle.fancy_tokens.specs.declared.tokens.Token.TheVariants as token
use Rattle.fancy_tokens.specs.declared.tokens.Placed.{Placed as Code}
use Rattle.fancy_tokens.specs.declared.tokens.Enclosing.{Enclosing}
use Rattle.fancy_tokens.specs.declared.tokens.Enclosing.TheVariants as enclosing
use Rattle.fancy_tokens.specs.declared.tokens.Leaf.{Leaf}
use Rattle.fancy_tokens.specs.declared.tokens.Leaf.TheVariants as leaf
use Rattle.fancy_tokens.specs.declared.tokens.Opening as code_opening
use Rattle.fancy_tokens.specs.declared.tokens.Opening.TheVariants as opened_by
use Rattle.fancy_tokens.specs.declared.tokens.Quantifier.{Quantifier}
use Rattle.fancy_tokens.specs.declared.tokens.Suffix.{Suffix}
use Rattle.fancy_tokens.specs.declared.tokens.Suffix.TheVariants.{Turned, Possessive}
use Rattle.fancy_tokens.specs.Tokens.{Opening, If, Token, Node, Refer, FlagsItem, Open, Placed}
use Rattle.fancy_tokens.specs.PatternViews.{leaf_of, opening_of, token_of, placed_of}
use Rattle.fancy_pattern.specs.Faults.{asked_by}
use Rattle.fancy_pattern.specs.Stuck.{Within, whole, past}
use Rattle.fancy_pattern.specs.Grammar.{Names, Takes, node_of, opening, class_of, suffixed, enclosed, is_empty, joined, alternated, SpellsAtom, node, class, opened, SpellsOpened, around, group, stopper, expression, asked, if_group, if_pattern, if_look, SpellsBodies, one_body, two_bodies, SpellsPiece, plain, quantified, SpellsPieces, no_piece, piece, SpellsBranch, branch, SpellsBars, no_bar, barred, SpellsAlternatives, branches}
use Rattle.fancy_pattern.specs.Spelling.{IsSpelled}
use Rattle.fancy_pattern.specs.Described.{referred_to}
use Rattle.fancy_pattern.specs.Surveyed.{names_group, IsUnreferring}
use Rattle.fancy_pattern.proofs.Splits as splits

-- a node that is no reference and no call
abbrev Quiet : Tree → Type 0
Quiet e = (referred_to e ≡ None) × (is_any_call e ≡ false)

abbrev AllQuiet : Tree → Type 0
AllQuiet e = Each Quiet (nodes e)

abbrev RowQuiet : List Tree → Type 0
RowQuiet es = Each Quiet (nodes_of_each (trees es))

each_append : (xs ys : List Tree) → Each Quiet xs → Each Quiet ys → Each Quiet (xs ++ ys)
each_append [] ys h k = k
each_append (x ∷ xs) ys h k = (h.0, each_append xs ys h.1 k)

-- ---- tokens

abbrev QuietOpening : Opening → Type 0
QuietOpening (If r) = ⊥
QuietOpening o = Unit {0}

abbrev QuietToken : Token → Type 0
QuietToken (Node e) = AllQuiet e
QuietToken (Refer r) = ⊥
QuietToken (Open o) = QuietOpening o
QuietToken t = Unit {0}

abbrev AllSaid : List Placed → Type 0
AllSaid ts = Each (λ p. QuietToken p.token) ts

leaf_quiet : (l : Leaf) → AllQuiet (leaf_of l)
leaf_quiet (leaf.Any newline crlf) = ((refl, refl), tt)
leaf_quiet (leaf.Assertion a) = ((refl, refl), tt)
leaf_quiet (leaf.GeneralNewline unicode) = ((refl, refl), tt)
leaf_quiet (leaf.Literal val casei) = ((refl, refl), tt)
leaf_quiet (leaf.HexDigits negated) = ((refl, refl), tt)
leaf_quiet leaf.KeepOut = ((refl, refl), tt)
leaf_quiet leaf.ContinueFromPreviousMatchEnd = ((refl, refl), tt)
leaf_quiet leaf.AbsentClear = ((refl, refl), tt)
leaf_quiet (leaf.Verb v) = ((refl, refl), tt)

opening_said : (o : code_opening.Opening) → is_some (asked_by (opening_of o)) ≡ false → QuietOpening (opening_of o)
opening_said (opened_by.If r) h = absurd (true≢false h)
opening_said o h = tt

token_said : (k : CodeToken) → names_group (token_of k) ≡ false → QuietToken (token_of k)
token_said (token.Leaf l) h = leaf_quiet l
token_said (token.Set casei letter text) h = ((refl, refl), tt)
token_said (token.Numbered naming number left) h = absurd (true≢false h)
token_said (token.Refer r) h = absurd (true≢false h)
token_said (token.Open o) h = opening_said o.value.opening h
token_said k h = tt

or_none : (a b : Bool) → (a || b) ≡ false → (a ≡ false) × (b ≡ false)
or_none false b h = (refl, h)
or_none true b h = absurd (true≢false h)

all_said : (ts : List Code) → list_any (λ p. names_group p.token) (map placed_of ts) ≡ false → AllSaid (map placed_of ts)
all_said [] h = tt
all_said (t ∷ ts) h =
    let both = or_none (names_group (token_of t.token)) (list_any (λ p. names_group p.token) (map placed_of ts)) h in
    (token_said t.token both.0, all_said ts both.1)

within : {y x : List Placed} → Within y x → AllSaid x → AllSaid y
within whole h = h
within (past p w) h = within w h.1

first_said : {V : Type 0} {gives : Token → Option V} {x y : List Placed} {v : V} (t : Takes gives x v y) → AllSaid x → QuietToken t.first.token
first_said t said = (subst AllSaid t.tokens said).0

same_quiet : (e d : Tree) → AllQuiet e → Some e ≡ Some d → AllQuiet d
same_quiet e d h is = let same : e ≡ d = cc in subst AllQuiet same h

node_quiet : (names : Names) (t : Token) (e : Tree) → QuietToken t → node_of names t ≡ Some e → AllQuiet e
node_quiet names (Node d) e said is = same_quiet d e said is
node_quiet names (Refer r) e said is = absurd said
node_quiet names FlagsItem e said is = same_quiet tree.Empty e ((refl, refl), tt) is
node_quiet names t e said is = absurd (cc)

opening_quiet : (t : Token) (o : Opening) → QuietToken t → opening t ≡ Some o → QuietOpening o
opening_quiet (Open p) o said is = let same : p ≡ o = cc in subst QuietOpening same said
opening_quiet t o said is = absurd (cc)

-- ---- what is made

suffixed_quiet : (q : Quantifier) (greedy : Bool) (s : Option Suffix) (e : Tree) → AllQuiet e → AllQuiet (suffixed q greedy s e)
suffixed_quiet q greedy None e h = ((refl, refl), h)
suffixed_quiet q greedy (Some Turned) e h = ((refl, refl), h)
suffixed_quiet q greedy (Some Possessive) e h = ((refl, refl), ((refl, refl), h))

enclosed_quiet : (f : Enclosing) (e : Tree) → AllQuiet e → AllQuiet (enclosed f e)
enclosed_quiet enclosing.Plain e h = h
enclosed_quiet enclosing.Atomic e h = ((refl, refl), h)
enclosed_quiet enclosing.Define e h = ((refl, refl), h)
enclosed_quiet (enclosing.Look l) e h = ((refl, refl), h)
enclosed_quiet enclosing.AbsentRepeater e h = ((refl, refl), h)

class_quiet : (text : List ℕ) (casei : Bool) → AllQuiet (class_of text casei)
class_quiet text casei = ((refl, refl), tt)

row_more : (e : Tree) (es : List Tree) → AllQuiet e → RowQuiet es → RowQuiet (e ∷ es)
row_more e es h k = each_append (nodes e) (nodes_of_each (trees es)) h k

joined_quiet : (es : List Tree) → RowQuiet es → AllQuiet (joined es)
joined_quiet [] h = ((refl, refl), tt)
joined_quiet (e ∷ []) h = subst (Each Quiet) (append-nil (nodes e)) h
joined_quiet (e ∷ d ∷ es) h = ((refl, refl), h)

alternated_quiet : (es : List Tree) → RowQuiet es → AllQuiet (alternated es)
alternated_quiet [] h = ((refl, refl), tt)
alternated_quiet (e ∷ []) h = subst (Each Quiet) (append-nil (nodes e)) h
alternated_quiet (e ∷ d ∷ es) h = ((refl, refl), h)

some_quiet : (e : Tree) (es : List Tree) (b : Bool) → AllQuiet e → RowQuiet (filter (λ d. not (is_empty d)) es) →
    RowQuiet (cond (not b) (e ∷ filter (λ d. not (is_empty d)) es) (filter (λ d. not (is_empty d)) es))
some_quiet e es true h k = k
some_quiet e es false h k = row_more e (filter (λ d. not (is_empty d)) es) h k

-- ---- what is spelled

mutual
  atom_quiet : {names : Names} {x y : List Placed} {e : Tree} → SpellsAtom names x y e → AllSaid x → AllQuiet e
  atom_quiet {names = names} {e = e} (node t) said = node_quiet names t.first.token e (first_said t said) t.is
  atom_quiet (class {casei = k} {text = text} t c) said = class_quiet text k
  atom_quiet (opened {o = o} t s) said = opened_quiet s (opening_quiet t.first.token o (first_said t said) t.is) (within (splits.takes t) said)

  opened_quiet : {names : Names} {o : Opening} {x y : List Placed} {e : Tree} → SpellsOpened names o x y e → QuietOpening o → AllSaid x → AllQuiet e
  opened_quiet (around {f = f} {e = e} a c) o said = enclosed_quiet f e (alternatives_quiet a said)
  opened_quiet (group a c) o said = ((refl, refl), alternatives_quiet a said)
  opened_quiet (stopper b c) o said = ((refl, refl), branch_quiet b said)
  opened_quiet (expression {a = d} {e = e} b t a c) o said = (
    (refl, refl),
    each_append (nodes d) (nodes e) (branch_quiet b said) (alternatives_quiet a (within (splits.on (splits.one_branch b) (splits.takes t)) said)),
  )
  opened_quiet (asked is t) o said = absurd o
  opened_quiet (if_group is h b) o said = absurd o
  opened_quiet (if_pattern a c b) o said =
      bodies_quiet b (alternatives_quiet a said) (within (splits.on (splits.alternatives a) (splits.takes c)) said)
  opened_quiet (if_look a c b) o said =
      bodies_quiet b ((refl, refl), alternatives_quiet a said) (within (splits.on (splits.alternatives a) (splits.takes c)) said)

  bodies_quiet : {names : Names} {c : Tree} {x y : List Placed} {e : Tree} → SpellsBodies names c x y e → AllQuiet c → AllSaid x → AllQuiet e
  bodies_quiet {c = c} (one_body {t = t} b k) h said = (
    (refl, refl),
    each_append (nodes c) (nodes t ++ nodes tree.Empty) h (each_append (nodes t) (nodes tree.Empty) (branch_quiet b said) ((refl, refl), tt)),
  )
  bodies_quiet {c = c} (two_bodies {t = t} {f = f} b s a k) h said = (
    (refl, refl),
    each_append (nodes c) (nodes t ++ nodes f) h (each_append (nodes t) (nodes f) (branch_quiet b said)
        (alternatives_quiet a (within (splits.on (splits.one_branch b) (splits.takes s)) said))),
  )

  piece_quiet : {names : Names} {x y : List Placed} {e : Tree} → SpellsPiece names x y e → AllSaid x → AllQuiet e
  piece_quiet (plain a h) said = atom_quiet a said
  piece_quiet (quantified {q = q} {s = s} {e = e} a may t k) said = suffixed_quiet q.0 q.1 s e (atom_quiet a said)

  pieces_quiet : {names : Names} {x y : List Placed} {es : List Tree} → SpellsPieces names x y es → AllSaid x → RowQuiet (filter (λ e. not (is_empty e)) es)
  pieces_quiet (no_piece h) said = tt
  pieces_quiet (piece {e = e} {es = es} at p more) said =
      some_quiet e es (is_empty e) (piece_quiet p said) (pieces_quiet more (within (splits.one_piece p) said))

  branch_quiet : {names : Names} {x y : List Placed} {e : Tree} → SpellsBranch names x y e → AllSaid x → AllQuiet e
  branch_quiet (branch {es = es} ps) said = joined_quiet (filter (λ e. not (is_empty e)) es) (pieces_quiet ps said)

  bars_quiet : {names : Names} {x y : List Placed} {es : List Tree} → SpellsBars names x y es → AllSaid x → RowQuiet es
  bars_quiet (no_bar h) said = tt
  bars_quiet (barred {e = e} {es = es} t b more) said =
      let after = within (splits.takes t) said in
      row_more e es (branch_quiet b after) (bars_quiet more (within (splits.one_branch b) after))

  alternatives_quiet : {names : Names} {x y : List Placed} {e : Tree} → SpellsAlternatives names x y e → AllSaid x → AllQuiet e
  alternatives_quiet (branches {e = e} {es = es} b more) said =
      alternated_quiet (e ∷ es) (row_more e es (branch_quiet b said) (bars_quiet more (within (splits.one_branch b) said)))

-- ---- what quiet nodes say

no_references : (es : List Tree) → Each Quiet es → filter_map referred_to es ≡ []
no_references [] h = refl
no_references (e ∷ es) h = rw (h.0.0) (no_references es h.1)

no_calls : (es : List Tree) → Each Quiet es → list_any is_any_call es ≡ false
no_calls [] h = refl
no_calls (e ∷ es) h = ap (λ b. b || list_any is_any_call es) h.0.1 ∙ no_calls es h.1

pub unreferring : (ts : List Code) (e : Tree) → IsSpelled (map placed_of ts) e → list_any (λ p. names_group p.token) (map placed_of ts) ≡ false → IsUnreferring e
unreferring ts e spelled none =
    let quiet = alternatives_quiet spelled (all_said ts none) in
    record { references = no_references (nodes e) quiet; calls = no_calls (nodes e) quiet }
