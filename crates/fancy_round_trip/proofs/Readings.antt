-- Every tree that may return is read from its text.
use Rattle.std.proofs.Common.{◌≡◌, ℕ, ◌+◌, Bool, true, false, ◌&&◌, List, ◌∷◌, ◌++◌, Option, Ok, refl, sym, subst, arith}
use Rattle.std.proofs.lemmas.Bool.{true≢false}
use Rattle.fancy_meaning.specs.Tree as tree
use Rattle.fancy_meaning.specs.Tree.{Tree, Trees, none, more}
use Rattle.fancy_tokens.specs.declared.flags.Flags.{Flags}
use Rattle.fancy_tokens.specs.declared.tokens.Enclosing.TheVariants as enclosing
use Rattle.fancy_pattern.specs.Texts.{Text}
use Rattle.fancy_tokens.specs.Tokens.{Open, Around, item}
use Rattle.fancy_pattern.specs.Groups.{opening_at, question_at, other_question_at, flags_item_at}
use Rattle.fancy_pattern.specs.Items.{item_at}
use Rattle.fancy_pattern.specs.Grammar as rule
use Rattle.fancy_pattern.specs.Grammar.{is_empty}
use Rattle.fancy_round_trip.specs.ClassTexts.{IsClass}
use Rattle.fancy_round_trip.specs.Returning.{Returns, EachReturns, returns_assertion, is_line_edge, one_if, depth_of, deepest}
use Rattle.fancy_round_trip.proofs.Spelled.{spell, spell_row, spell_bars, spell_char, spell_assertion, spell_bounds, spell_suffix}
use Rattle.fancy_round_trip.proofs.Steps.{base}
use Rattle.fancy_round_trip.proofs.Leaves.{LeafRead, literal_leaf, dot_leaf, start_leaf, end_leaf, left_leaf, right_leaf, left_half_leaf, right_half_leaf, boundary_leaf, not_boundary_leaf, class_leaf}
use Rattle.fancy_round_trip.proofs.Forms.{AtomRead, PieceRead, BranchRead, WholeRead, Readings, EachReadings, at_same, whole_read, in_group, loop_read, repeatable_some, concat_read, alt_read, of_atom, of_piece, of_branch, of_whole, plain_leaf, in_flags}

-- ---- the flags of a leaf

abbrev folded : Bool → Flags
folded unicode = record (base unicode) { casei = true }

abbrev dotted : Bool → Flags
dotted unicode = record (base unicode) { dot_all = true }

abbrev returned : Bool → Flags
returned unicode = record (base unicode) { crlf = true }

abbrev lined : Bool → Bool → Flags
lined unicode crlf = record (base unicode) { multi_line = true; crlf = crlf }

folded_item : (unicode : Bool) (n : ℕ) (text : Text) →
    item_at (base unicode) n (40 ∷ 63 ∷ 105 ∷ 58 ∷ text) ≡ Ok (item (folded unicode) (Open (Around enclosing.Plain)), text)
unfolding item_at opening_at question_at other_question_at flags_item_at
folded_item unicode n text = refl

dotted_item : (unicode : Bool) (n : ℕ) (text : Text) →
    item_at (base unicode) n (40 ∷ 63 ∷ 115 ∷ 58 ∷ text) ≡ Ok (item (dotted unicode) (Open (Around enclosing.Plain)), text)
unfolding item_at opening_at question_at other_question_at flags_item_at
dotted_item unicode n text = refl

returned_item : (unicode : Bool) (n : ℕ) (text : Text) →
    item_at (base unicode) n (40 ∷ 63 ∷ 82 ∷ 58 ∷ text) ≡ Ok (item (returned unicode) (Open (Around enclosing.Plain)), text)
unfolding item_at opening_at question_at other_question_at flags_item_at
returned_item unicode n text = refl

lined_item : (unicode : Bool) (n : ℕ) (text : Text) →
    item_at (base unicode) n (40 ∷ 63 ∷ 109 ∷ 58 ∷ text) ≡ Ok (item (lined unicode false) (Open (Around enclosing.Plain)), text)
unfolding item_at opening_at question_at other_question_at flags_item_at
lined_item unicode n text = refl

crlf_item : (unicode : Bool) (n : ℕ) (text : Text) →
    item_at (base unicode) n (40 ∷ 63 ∷ 82 ∷ 109 ∷ 58 ∷ text) ≡ Ok (item (lined unicode true) (Open (Around enclosing.Plain)), text)
unfolding item_at opening_at question_at other_question_at flags_item_at
crlf_item unicode n text = refl

-- ---- leaves

abbrev Leaf : Bool → Tree → ℕ → (Text → Text) → Type 0
Leaf unicode e deep own =
    AtomRead unicode e deep own × PieceRead unicode e deep own × BranchRead unicode e deep own × WholeRead unicode e deep own

leaf : (unicode : Bool) (e : Tree) (deep : ℕ) (own : Text → Text) → is_empty e ≡ false → AtomRead unicode e deep own → Leaf unicode e deep own
leaf unicode e deep own some a = let r = of_atom unicode e deep own some a in (a, r.0, r.1, r.2)

any_readings : (unicode newline crlf : Bool) (h : (newline && crlf) ≡ false) → Readings unicode (tree.Any newline crlf) h
any_readings unicode true true h = absurd (true≢false h)
any_readings unicode true false h =
    let e = tree.Any true false in
    let r = leaf unicode e 1 (λ rest. 40 ∷ 63 ∷ 115 ∷ 58 ∷ 46 ∷ 41 ∷ rest) refl
    (in_flags unicode (dotted unicode) e (λ t. 63 ∷ 115 ∷ 58 ∷ t) (λ t. 46 ∷ t) refl refl (dotted_item unicode) (λ t. refl) (dot_leaf (dotted unicode) refl)) in
    record { atom = λ z. r.0; piece = λ z. r.1; branch = r.2; whole = r.3 }
any_readings unicode false true h =
    let e = tree.Any false true in
    let r = leaf unicode e 1 (λ rest. 40 ∷ 63 ∷ 82 ∷ 58 ∷ 46 ∷ 41 ∷ rest) refl
    (in_flags unicode (returned unicode) e (λ t. 63 ∷ 82 ∷ 58 ∷ t) (λ t. 46 ∷ t) refl refl (returned_item unicode) (λ t. refl)
    (dot_leaf (returned unicode) refl)) in
    record { atom = λ z. r.0; piece = λ z. r.1; branch = r.2; whole = r.3 }
any_readings unicode false false h =
    let e = tree.Any false false in
    let r = leaf unicode e 0 (λ rest. 46 ∷ rest) refl (plain_leaf unicode e (λ rest. 46 ∷ rest) refl (dot_leaf (base unicode) refl)) in
    record { atom = λ z. r.0; piece = λ z. r.1; branch = r.2; whole = r.3 }

literal_readings : (unicode : Bool) (c : ℕ) (casei : Bool) (h : Unit {0}) → Readings unicode (tree.Literal c casei) h
literal_readings unicode c true h =
    let e = tree.Literal c true in
    let r = leaf unicode e 1 (λ rest. 40 ∷ 63 ∷ 105 ∷ 58 ∷ spell_char c (41 ∷ rest)) refl
    (in_flags unicode (folded unicode) e (λ t. 63 ∷ 105 ∷ 58 ∷ t) (spell_char c) refl refl (folded_item unicode) (λ t. refl)
    (literal_leaf (folded unicode) c refl)) in
    record { atom = λ z. r.0; piece = λ z. r.1; branch = r.2; whole = r.3 }
literal_readings unicode c false h =
    let e = tree.Literal c false in
    let r = leaf unicode e 0 (spell_char c) refl (plain_leaf unicode e (spell_char c) refl (literal_leaf (base unicode) c refl)) in
    record { atom = λ z. r.0; piece = λ z. r.1; branch = r.2; whole = r.3 }

class_readings : (unicode : Bool) (inner : List ℕ) (casei : Bool) (h : IsClass inner) → Readings unicode (tree.Delegate inner casei) h
class_readings unicode inner true h =
    let e = tree.Delegate inner true in
    let r = leaf unicode e 1 (λ rest. 40 ∷ 63 ∷ 105 ∷ 58 ∷ (h.text ++ 41 ∷ rest)) refl
    (in_flags unicode (folded unicode) e (λ t. 63 ∷ 105 ∷ 58 ∷ t) (λ t. h.text ++ t) refl refl (folded_item unicode) (λ t. refl)
    (class_leaf (folded unicode) inner h refl)) in
    record { atom = λ z. r.0; piece = λ z. r.1; branch = r.2; whole = r.3 }
class_readings unicode inner false h =
    let e = tree.Delegate inner false in
    let r = leaf unicode e 0 (λ rest. h.text ++ rest) refl
    (plain_leaf unicode e (λ rest. h.text ++ rest) refl (class_leaf (base unicode) inner h refl)) in
    record { atom = λ z. r.0; piece = λ z. r.1; branch = r.2; whole = r.3 }

-- ---- assertions

abbrev AssertionRead : Bool → tree.Assertion → Type 0
AssertionRead unicode a = AtomRead unicode (tree.Assert tree.NoLook a) (one_if (is_line_edge a)) (spell_assertion a)

same_place : (unicode : Bool) (a : tree.Assertion) → LeafRead (base unicode) (spell_assertion a) (tree.Assert tree.NoLook a) →
    AtomRead unicode (tree.Assert tree.NoLook a) 0 (spell_assertion a)
same_place unicode a l = plain_leaf unicode (tree.Assert tree.NoLook a) (spell_assertion a) refl l

assertion_read : (unicode : Bool) (a : tree.Assertion) → returns_assertion a ≡ true → AssertionRead unicode a
assertion_read unicode tree.StartText h = same_place unicode tree.StartText (start_leaf (base unicode) refl)
assertion_read unicode tree.EndText h = same_place unicode tree.EndText (end_leaf (base unicode) refl)
assertion_read unicode (tree.EndTextIgnoreTrailingNewlines crlf) h = absurd (true≢false (sym h))
assertion_read unicode (tree.StartLine true) h =
    in_flags unicode (lined unicode true) (tree.Assert tree.NoLook (tree.StartLine true)) (λ t. 63 ∷ 82 ∷ 109 ∷ 58 ∷ t) (λ t. 94 ∷ t) refl refl
    (crlf_item unicode) (λ t. refl) (start_leaf (lined unicode true) refl)
assertion_read unicode (tree.StartLine false) h =
    in_flags unicode (lined unicode false) (tree.Assert tree.NoLook (tree.StartLine false)) (λ t. 63 ∷ 109 ∷ 58 ∷ t) (λ t. 94 ∷ t) refl refl
    (lined_item unicode) (λ t. refl) (start_leaf (lined unicode false) refl)
assertion_read unicode (tree.StartLineOniguruma crlf) h = absurd (true≢false (sym h))
assertion_read unicode (tree.EndLine true) h =
    in_flags unicode (lined unicode true) (tree.Assert tree.NoLook (tree.EndLine true)) (λ t. 63 ∷ 82 ∷ 109 ∷ 58 ∷ t) (λ t. 36 ∷ t) refl refl
    (crlf_item unicode) (λ t. refl) (end_leaf (lined unicode true) refl)
assertion_read unicode (tree.EndLine false) h =
    in_flags unicode (lined unicode false) (tree.Assert tree.NoLook (tree.EndLine false)) (λ t. 63 ∷ 109 ∷ 58 ∷ t) (λ t. 36 ∷ t) refl refl
    (lined_item unicode) (λ t. refl) (end_leaf (lined unicode false) refl)
assertion_read unicode tree.LeftWordBoundary h = same_place unicode tree.LeftWordBoundary (left_leaf (base unicode) refl)
assertion_read unicode tree.RightWordBoundary h = same_place unicode tree.RightWordBoundary (right_leaf (base unicode) refl)
assertion_read unicode tree.LeftWordHalfBoundary h = same_place unicode tree.LeftWordHalfBoundary (left_half_leaf (base unicode) refl)
assertion_read unicode tree.RightWordHalfBoundary h = same_place unicode tree.RightWordHalfBoundary (right_half_leaf (base unicode) refl)
assertion_read unicode tree.WordBoundary h = same_place unicode tree.WordBoundary (boundary_leaf (base unicode) refl)
assertion_read unicode tree.NotWordBoundary h = same_place unicode tree.NotWordBoundary (not_boundary_leaf (base unicode) refl)

assertion_readings : (unicode : Bool) (within : tree.Within) (a : tree.Assertion) (h : (within ≡ tree.NoLook) × (returns_assertion a ≡ true)) →
    Readings unicode (tree.Assert within a) h
assertion_readings unicode within a h =
    let deep = one_if (is_line_edge a) in
    let a' = subst (λ w. AtomRead unicode (tree.Assert w a) deep (spell_assertion a)) (sym h.0) (assertion_read unicode a h.1) in
    let r = leaf unicode (tree.Assert within a) deep (spell_assertion a) refl a' in
    record { atom = λ z. r.0; piece = λ z. r.1; branch = r.2; whole = r.3 }

-- ---- nodes with parts

empty_branch : (unicode : Bool) → BranchRead unicode tree.Empty 0 (λ rest. rest)
empty_branch unicode outer n m rest ts nested groups few starts end lexes =
    record {
      tokens = ts;
      lexes = at_same unicode outer n m rest ts (omega (arith, groups)) lexes;
      starts = starts;
      is = λ names. rule.branch (rule.no_piece end);
    }

empty_readings : (unicode : Bool) (h : Unit {0}) → Readings unicode tree.Empty h
empty_readings unicode h =
    let b = empty_branch unicode in
    record {
      atom = λ z. absurd (true≢false z);
      piece = λ z. absurd (true≢false z);
      branch = b;
      whole = whole_read unicode tree.Empty 0 (λ rest. rest) b;
    }

concat_readings : (unicode : Bool) (es : Trees) (h : Returns (tree.Concat es)) → EachReadings unicode es h.2 → Readings unicode (tree.Concat es) h
concat_readings unicode es h all =
    let r = of_branch unicode (tree.Concat es) (deepest es 2) (λ rest. spell_row es h.2 rest) (concat_read unicode es h.2 all h.0 h.1) in
    record { atom = λ z. r.0; piece = λ z. r.1; branch = r.2; whole = r.3 }

alt_readings : (unicode : Bool) (es : Trees) (h : Returns (tree.Alt es)) → EachReadings unicode es h.1 → Readings unicode (tree.Alt es) h
alt_readings unicode es h all =
    let r = of_whole unicode (tree.Alt es) (deepest es 1) (λ rest. spell_bars es h.1 rest) refl (alt_read unicode es h.1 all h.0) in
    record { atom = λ z. r.0; piece = λ z. r.1; branch = r.2; whole = r.3 }

group_readings : (unicode : Bool) (g : ℕ) (e : Tree) (h : Returns (tree.Group g e)) → Readings unicode e h.1 → Readings unicode (tree.Group g e) h
group_readings unicode g e h own =
    let a = subst (λ k. AtomRead unicode (tree.Group k e) (1 + depth_of e 0) (λ rest. 40 ∷ spell e h.1 0 (41 ∷ rest))) (sym h.0)
    (in_group unicode e (depth_of e 0) (spell e h.1 0) own.whole) in
    let r = leaf unicode (tree.Group g e) (1 + depth_of e 0) (λ rest. 40 ∷ spell e h.1 0 (41 ∷ rest)) refl a in
    record { atom = λ z. r.0; piece = λ z. r.1; branch = r.2; whole = r.3 }

loop_readings : (unicode : Bool) (lo : ℕ) (hi : Option ℕ) (greedy : Bool) (e : Tree) (h : Returns (tree.Repeat lo hi greedy e)) →
    Readings unicode e h.2 → Readings unicode (tree.Repeat lo hi greedy e) h
loop_readings unicode lo hi greedy e h own =
    let text : Text → Text = λ rest. spell e h.2 3 (spell_bounds lo hi (spell_suffix greedy rest)) in
    let r = of_piece unicode (tree.Repeat lo hi greedy e) (depth_of e 3) text refl
    (loop_read unicode e (depth_of e 3) (spell e h.2 3) lo hi greedy h.0 h.1 (own.atom (repeatable_some e h.0))) in
    record { atom = λ z. r.0; piece = λ z. r.1; branch = r.2; whole = r.3 }

mutual
  pub readings : (unicode : Bool) (e : Tree) (h : Returns e) → Readings unicode e h
  readings unicode tree.Empty h = empty_readings unicode h
  readings unicode (tree.Any newline crlf) h = any_readings unicode newline crlf h
  readings unicode (tree.Literal c casei) h = literal_readings unicode c casei h
  readings unicode (tree.Delegate inner casei) h = class_readings unicode inner casei h
  readings unicode (tree.Assert within a) h = assertion_readings unicode within a h
  readings unicode (tree.Concat es) h = concat_readings unicode es h (each_readings unicode es h.2)
  readings unicode (tree.Alt es) h = alt_readings unicode es h (each_readings unicode es h.1)
  readings unicode (tree.Group g e) h = group_readings unicode g e h (readings unicode e h.1)
  readings unicode (tree.Repeat lo hi greedy e) h = loop_readings unicode lo hi greedy e h (readings unicode e h.2)
  readings unicode e h = absurd h

  pub each_readings : (unicode : Bool) (es : Trees) (h : EachReturns es) → EachReadings unicode es h
  each_readings unicode none h = tt
  each_readings unicode (more e es) h = (readings unicode e h.0, each_readings unicode es h.1)
