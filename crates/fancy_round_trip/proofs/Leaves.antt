-- Single tokens of a pattern text: literals, `.`, assertions and classes.
use Rattle.std.proofs.Common.{◌≡◌, ℕ, ◌≤◌, ⊎_elim, Bool, true, false, ◌||◌, List, [], ◌∷◌, ◌++◌, length, codes, encode_utf8_all, Some, None, Ok, if◌then◌else◌, ◌==◌, refl, sym, ap, ◌∙◌, subst, arith, append_assoc}
use Rattle.std.proofs.lemmas.Bool.{true≢false, eqb-true}
use Rattle.std.proofs.lemmas.Bool.Decides.{eqb_tells}
use Rattle.regex_syntax.specs.Reading.{◌∈◌, is_among}
use Rattle.fancy_meaning.specs.Tree as tree
use Rattle.fancy_meaning.specs.Tree.{Tree}
use Rattle.fancy_meaning.specs.WellFormed.{most_groups}
use Rattle.fancy_tokens.specs.declared.lexing.ClassPlace.{ClassPlace}
use Rattle.fancy_tokens.specs.declared.flags.Flags.{Flags}
use Rattle.fancy_pattern.specs.Texts.{Text, Read as Answer, ◌>>=◌, gap_at, skip_word}
use Rattle.fancy_tokens.specs.Tokens.{Token, Node, ClassOpen, ClassText, ClassClose, Placed, Item, placed, item}
use Rattle.fancy_pattern.specs.Escapes.{escape_at, other_escape_at, boundary_at, set_at, property_at, is_set, set}
use Rattle.fancy_pattern.specs.Groups.{opening_at}
use Rattle.fancy_pattern.specs.Items.{item_at, brace_at, sign_token, literal, start_of, end_of, any_of}
use Rattle.fancy_pattern.specs.Lexing.{Lexes}
use Rattle.fancy_pattern.specs.Grammar.{Names, SpellsClass, is_repeatable, class_of}
use Rattle.fancy_pattern.specs.Grammar as rule
use Rattle.fancy_pattern.proofs.EscapedTokens.{Each, not_if}
use Rattle.fancy_round_trip.specs.ClassTexts.{at_head, AsWritten, ends, goes, IsClassText, set as set_text, property, brackets, IsClass}
use Rattle.fancy_round_trip.proofs.Spelled.{spell_char}
use Rattle.fancy_round_trip.proofs.Steps.{at, inside, no_gap_at, class_open_step, class_text_step, class_close_step}
use Rattle.fancy_round_trip.proofs.Read.{Starts, Read, AtomRel, node_read}

-- an atom that is read at these flags
abbrev pub LeafRead : Flags → (Text → Text) → Tree → Type 0
LeafRead f own e =
    (outer : List Flags) (n : ℕ) (rest : Text) (ts : List Placed) → n ≤ most_groups → (is_repeatable e ≡ false → Starts rest) →
    Lexes (at f outer n) rest ts → Read (at f outer n) (own rest) (AtomRel e ts)

-- ---- one of a few characters, or none of them

among : (P : ℕ → Type 0) (c : ℕ) (ks : List ℕ) → is_among c ks ≡ true → Each P ks → P c
among P c [] e h = absurd (true≢false (sym e))
among P c (k ∷ []) e h = subst P (sym (eqb-true c k e)) h.0
among P c (k ∷ d ∷ ks) e h =
    ⊎_elim (λ t. subst P (sym t.1) h.0) (λ t. among P c (d ∷ ks) (subst (λ b. (b || is_among c (d ∷ ks)) ≡ true) t.0 e) h.1) (eqb_tells c k)

none_among : (c : ℕ) (ks : List ℕ) → is_among c ks ≡ false → Each (λ k. (c == k) ≡ false) ks
none_among c [] e = tt
none_among c (k ∷ []) e = (e, tt)
none_among c (k ∷ d ∷ ks) e =
    ⊎_elim (λ t. absurd (true≢false (subst (λ b. (b || is_among c (d ∷ ks)) ≡ false) t.0 e)))
    (λ t. (t.0, none_among c (d ∷ ks) (subst (λ b. (b || is_among c (d ∷ ks)) ≡ false) t.0 e))) (eqb_tells c k)

-- ---- literals

abbrev specials : List ℕ
specials = codes "\\.+*?()|[]{}^$#"

abbrev IsEscaped : Flags → ℕ → ℕ → Type 0
IsEscaped f n k = (rest : Text) → item_at f n (92 ∷ k ∷ rest) ≡ Ok (item f (literal f k), rest)

escaped_items : (f : Flags) (n : ℕ) → Each (IsEscaped f n) specials
unfolding item_at escape_at other_escape_at
escaped_items f n =
    (λ rest. refl, (λ rest. refl, (λ rest. refl, (λ rest. refl, (λ rest. refl, (λ rest. refl, (λ rest. refl, (λ rest. refl, (λ rest. refl, (λ rest. refl, (λ rest. refl, (λ rest. refl, (λ rest. refl, (λ rest. refl, (λ rest. refl, tt)))))))))))))))

abbrev IsPlain : ℕ → Type 0
IsPlain c = Each (λ k. (c == k) ≡ false) specials

no_sign : (f : Flags) (c : ℕ) → IsPlain c → sign_token f c ≡ None
no_sign f c h =
    not_if (c == 46) _ _ h.1.0
    ∙ not_if (c == 94) _ _ h.1.1.1.1.1.1.1.1.1.1.1.1.0
    ∙ not_if (c == 36) _ _ h.1.1.1.1.1.1.1.1.1.1.1.1.1.0
    ∙ not_if (c == 124) _ _ h.1.1.1.1.1.1.1.0
    ∙ not_if (c == 41) _ _ h.1.1.1.1.1.1.0
    ∙ not_if (c == 42) _ _ h.1.1.1.0
    ∙ not_if (c == 43) _ _ h.1.1.0
    ∙ not_if (c == 63) _ _ h.1.1.1.1.0
    ∙ not_if (c == 91) _ _ h.1.1.1.1.1.1.1.1.0

item_plain : (f : Flags) (n c : ℕ) (rest : Text) → IsPlain c → item_at f n (c ∷ rest) ≡ Ok (item f (literal f c), rest)
unfolding item_at
item_plain f n c rest h =
    ap
    (λ o. elim o [
      | None ↦ if c == 40 then opening_at f n rest
          else if c == 92 then (escape_at f n rest >>= λ t. Ok (item f t.0, t.1))
          else if c == 123 then (brace_at f (c ∷ rest) rest >>= λ t. Ok (item f t.0, t.1))
          else Ok (item f (literal f c), rest)
      | Some t ↦ Ok (item f t, rest)
    ])
    (no_sign f c h)
    ∙ not_if (c == 40) _ _ h.1.1.1.1.1.0
    ∙ not_if (c == 92) _ _ h.0
    ∙ not_if (c == 123) _ _ h.1.1.1.1.1.1.1.1.1.1.0

-- no gap, where white space is none
clear : (f : Flags) (text : Text) → f.ignore_whitespace ≡ false → gap_at false text ≡ None → gap_at f.ignore_whitespace text ≡ None
clear f text plain h = ap (λ x. gap_at x text) plain ∙ h

pub literal_leaf : (f : Flags) (c : ℕ) → f.ignore_whitespace ≡ false → LeafRead f (spell_char c) (tree.Literal c f.casei)
literal_leaf f c plain outer n rest ts few ok more = by_test (c ∈ "\\.+*?()|[]{}^$#") refl
  where
    by_test : (b : Bool) → (c ∈ "\\.+*?()|[]{}^$#") ≡ b →
        Read (at f outer n) (if b then 92 ∷ c ∷ rest else c ∷ rest) (AtomRel (tree.Literal c f.casei) ts)
    by_test true e =
        node_read f outer n (92 ∷ c ∷ rest) rest (tree.Literal c f.casei) ts (omega arith) (clear f (92 ∷ c ∷ rest) plain refl)
        (among (IsEscaped f n) c specials e (escaped_items f n) rest) few (refl, refl, refl) more
    by_test false e =
        let h : IsPlain c = none_among c specials e in
        node_read f outer n (c ∷ rest) rest (tree.Literal c f.casei) ts (omega arith)
        (clear f (c ∷ rest) plain (no_gap_at c rest h.1.1.1.1.1.0)) (item_plain f n c rest h) few (h.1.1.1.1.0, h.1.1.1.0, h.1.1.1.1.1.1.1.1.1.1.0) more

-- ---- one character that is no literal

dot_item : (f : Flags) (n : ℕ) (rest : Text) → item_at f n (46 ∷ rest) ≡ Ok (item f (Node (any_of f)), rest)
unfolding item_at
dot_item f n rest = refl

pub dot_leaf : (f : Flags) → f.ignore_whitespace ≡ false → LeafRead f (λ r. 46 ∷ r) (any_of f)
dot_leaf f plain outer n rest ts few ok more =
    node_read f outer n (46 ∷ rest) rest (any_of f) ts (omega arith) (clear f (46 ∷ rest) plain refl) (dot_item f n rest) few (refl, refl, refl) more

start_item : (f : Flags) (n : ℕ) (rest : Text) → item_at f n (94 ∷ rest) ≡ Ok (item f (Node (start_of f)), rest)
unfolding item_at
start_item f n rest = refl

pub start_leaf : (f : Flags) → f.ignore_whitespace ≡ false → LeafRead f (λ r. 94 ∷ r) (start_of f)
start_leaf f plain outer n rest ts few ok more =
    node_read f outer n (94 ∷ rest) rest (start_of f) ts (omega arith) (clear f (94 ∷ rest) plain refl) (start_item f n rest) few (refl, refl, refl) more

end_item : (f : Flags) (n : ℕ) (rest : Text) → item_at f n (36 ∷ rest) ≡ Ok (item f (Node (end_of f)), rest)
unfolding item_at
end_item f n rest = refl

pub end_leaf : (f : Flags) → f.ignore_whitespace ≡ false → LeafRead f (λ r. 36 ∷ r) (end_of f)
end_leaf f plain outer n rest ts few ok more =
    node_read f outer n (36 ∷ rest) rest (end_of f) ts (omega arith) (clear f (36 ∷ rest) plain refl) (end_item f n rest) few (refl, refl, refl) more

-- ---- boundaries of words

abbrev IsRead : Flags → (Text → Text) → Tree → Type 0
IsRead f own e = (n : ℕ) (rest : Text) → Starts rest → item_at f n (92 ∷ own rest) ≡ Ok (item f (Node e), rest)

escape_leaf : (f : Flags) (own : Text → Text) (a : tree.Assertion) → f.ignore_whitespace ≡ false → IsRead f own (tree.Assert tree.NoLook a) →
    LeafRead f (λ r. 92 ∷ own r) (tree.Assert tree.NoLook a)
escape_leaf f own a plain is outer n rest ts few ok more =
    node_read f outer n (92 ∷ own rest) rest (tree.Assert tree.NoLook a) ts (omega arith) (clear f (92 ∷ own rest) plain refl) (is n rest (ok refl)) few
    (refl, refl, refl) more

left_item : (f : Flags) → IsRead f (λ r. codes "b{start}" ++ r) (tree.Assert tree.NoLook tree.LeftWordBoundary)
unfolding item_at escape_at boundary_at
left_item f n rest h = refl

right_item : (f : Flags) → IsRead f (λ r. codes "b{end}" ++ r) (tree.Assert tree.NoLook tree.RightWordBoundary)
unfolding item_at escape_at boundary_at
right_item f n rest h = refl

left_half_item : (f : Flags) → IsRead f (λ r. codes "b{start-half}" ++ r) (tree.Assert tree.NoLook tree.LeftWordHalfBoundary)
unfolding item_at escape_at boundary_at
left_half_item f n rest h = refl

right_half_item : (f : Flags) → IsRead f (λ r. codes "b{end-half}" ++ r) (tree.Assert tree.NoLook tree.RightWordHalfBoundary)
unfolding item_at escape_at boundary_at
right_half_item f n rest h = refl

not_boundary_item : (f : Flags) → IsRead f (λ r. codes "B" ++ r) (tree.Assert tree.NoLook tree.NotWordBoundary)
unfolding item_at escape_at other_escape_at
not_boundary_item f n rest h = refl

no_braces : (rest : Text) → Starts rest → boundary_at rest ≡ (tree.WordBoundary, rest)
unfolding boundary_at
no_braces [] h = refl
no_braces (c ∷ cs) h =
    ap {A = Bool} {B = tree.Assertion × Text}
    (λ b. elim (if b then skip_word (codes "start}") cs else None) [
      | Some rest ↦ (tree.LeftWordBoundary, rest)
      | None ↦ elim (if b then skip_word (codes "end}") cs else None) [
        | Some rest ↦ (tree.RightWordBoundary, rest)
        | None ↦ elim (if b then skip_word (codes "start-half}") cs else None) [
          | Some rest ↦ (tree.LeftWordHalfBoundary, rest)
          | None ↦ elim (if b then skip_word (codes "end-half}") cs else None) [
            | Some rest ↦ (tree.RightWordHalfBoundary, rest)
            | None ↦ (tree.WordBoundary, c ∷ cs)
          ]
        ]
      ]
    ]) h.2

boundary_item : (f : Flags) → IsRead f (λ r. codes "b" ++ r) (tree.Assert tree.NoLook tree.WordBoundary)
unfolding item_at escape_at
boundary_item f n rest h = ap {A = tree.Assertion × Text} {B = Answer Item} (λ b. Ok (item f (Node (tree.Assert tree.NoLook b.0)), b.1)) (no_braces rest h)

pub left_leaf : (f : Flags) → f.ignore_whitespace ≡ false → LeafRead f (λ r. codes "\\b{start}" ++ r) (tree.Assert tree.NoLook tree.LeftWordBoundary)
left_leaf f plain = escape_leaf f (λ r. codes "b{start}" ++ r) tree.LeftWordBoundary plain (left_item f)

pub right_leaf : (f : Flags) → f.ignore_whitespace ≡ false → LeafRead f (λ r. codes "\\b{end}" ++ r) (tree.Assert tree.NoLook tree.RightWordBoundary)
right_leaf f plain = escape_leaf f (λ r. codes "b{end}" ++ r) tree.RightWordBoundary plain (right_item f)

pub left_half_leaf : (f : Flags) → f.ignore_whitespace ≡ false →
    LeafRead f (λ r. codes "\\b{start-half}" ++ r) (tree.Assert tree.NoLook tree.LeftWordHalfBoundary)
left_half_leaf f plain = escape_leaf f (λ r. codes "b{start-half}" ++ r) tree.LeftWordHalfBoundary plain (left_half_item f)

pub right_half_leaf : (f : Flags) → f.ignore_whitespace ≡ false →
    LeafRead f (λ r. codes "\\b{end-half}" ++ r) (tree.Assert tree.NoLook tree.RightWordHalfBoundary)
right_half_leaf f plain = escape_leaf f (λ r. codes "b{end-half}" ++ r) tree.RightWordHalfBoundary plain (right_half_item f)

pub boundary_leaf : (f : Flags) → f.ignore_whitespace ≡ false → LeafRead f (λ r. codes "\\b" ++ r) (tree.Assert tree.NoLook tree.WordBoundary)
boundary_leaf f plain = escape_leaf f (λ r. codes "b" ++ r) tree.WordBoundary plain (boundary_item f)

pub not_boundary_leaf : (f : Flags) → f.ignore_whitespace ≡ false → LeafRead f (λ r. codes "\\B" ++ r) (tree.Assert tree.NoLook tree.NotWordBoundary)
not_boundary_leaf f plain = escape_leaf f (λ r. codes "B" ++ r) tree.NotWordBoundary plain (not_boundary_item f)

-- ---- classes

one_of_six : {P : Type 0} (a b c d e f : Bool) → (a || b || c || d || e || f) ≡ true → (a ≡ true → P) → (b ≡ true → P) → (c ≡ true → P) → (d ≡ true → P) →
    (e ≡ true → P) → (f ≡ true → P) → P
one_of_six true b c d e f h p q r s t u = p refl
one_of_six false true c d e f h p q r s t u = q refl
one_of_six false false true d e f h p q r s t u = r refl
one_of_six false false false true e f h p q r s t u = s refl
one_of_six false false false false true f h p q r s t u = t refl
one_of_six false false false false false true h p q r s t u = u refl
one_of_six false false false false false false h p q r s t u = absurd (true≢false (sym h))

abbrev IsSetItem : Flags → ℕ → Text → ℕ → Type 0
IsSetItem f n rest c = item_at f n (92 ∷ c ∷ rest) ≡ Ok (item f (set f c []), rest)

set_item : (f : Flags) (n : ℕ) (rest : Text) (c : ℕ) → is_set c ≡ true → IsSetItem f n rest c
unfolding item_at escape_at other_escape_at
set_item f n rest c h =
    one_of_six (c == 100) (c == 68) (c == 115) (c == 83) (c == 119) (c == 87) h
    (λ e. subst (IsSetItem f n rest) (sym (eqb-true c 100 e)) refl)
    (λ e. subst (IsSetItem f n rest) (sym (eqb-true c 68 e)) refl)
    (λ e. subst (IsSetItem f n rest) (sym (eqb-true c 115 e)) refl)
    (λ e. subst (IsSetItem f n rest) (sym (eqb-true c 83 e)) refl)
    (λ e. subst (IsSetItem f n rest) (sym (eqb-true c 119 e)) refl)
    (λ e. subst (IsSetItem f n rest) (sym (eqb-true c 87 e)) refl)

abbrev IsPropertyItem : Flags → ℕ → Text → Text → ℕ → Type 0
IsPropertyItem f n name rest c = item_at f n (92 ∷ c ∷ (name ++ rest)) ≡ Ok (item f (set f c name), rest)

abbrev as_set : Flags → ℕ → Answer Text → Answer Token
as_set f letter r = r >>= λ w. Ok (set f letter w.0, w.1)

abbrev as_item : Flags → Answer Token → Answer Item
as_item f r = r >>= λ t. Ok (item f t.0, t.1)

property_item : (f : Flags) (n : ℕ) (name rest : Text) (c : ℕ) → (c == 112 || c == 80) ≡ true → property_at (name ++ rest) ≡ Ok (name, rest) →
    IsPropertyItem f n name rest c
unfolding item_at escape_at set_at
property_item f n name rest c h is = by_letter (c == 112) (c == 80) refl refl h
  where
    by_letter : (a b : Bool) → (c == 112) ≡ a → (c == 80) ≡ b → (a || b) ≡ true → IsPropertyItem f n name rest c
    by_letter true b e d t =
        subst (IsPropertyItem f n name rest) (sym (eqb-true c 112 e))
        (ap (λ r. as_item f (as_set f 112 r)) is)
    by_letter false true e d t =
        subst (IsPropertyItem f n name rest) (sym (eqb-true c 80 d))
        (ap (λ r. as_item f (as_set f 80 r)) is)
    by_letter false false e d t = absurd (true≢false (sym t))

-- a class up to its `]`
body_read : (f : Flags) (outer : List Flags) (n : ℕ) (rest : Text) (ts : List Placed) {p : ClassPlace} {body : Text} → AsWritten p body →
    Lexes (at f outer n) rest ts → (y : List Placed) × Lexes (inside f outer n p) (body ++ 93 ∷ rest) y × SpellsClass y ts body
body_read f outer n rest ts (ends {p = p} is) more =
    (placed (length (93 ∷ rest)) ClassClose ∷ ts, class_close_step f outer n p rest ts is more, rule.class_end (record { first = placed (length (93 ∷ rest)) ClassClose; tokens = refl; is = refl }))
body_read f outer n rest ts (goes {p = p} {q = q} {piece = piece} {text = text} is others) more =
    let r = body_read f outer n rest ts others more in
    let left = length (piece ++ (text ++ 93 ∷ rest)) in (
      placed left (ClassText piece) ∷ r.0,
      subst (λ t. Lexes (inside f outer n p) t (placed left (ClassText piece) ∷ r.0)) (sym (append_assoc piece text (93 ∷ rest)))
          (class_text_step f outer n p q piece (text ++ 93 ∷ rest) r.0 is r.1),
      rule.class_piece (record { first = placed left (ClassText piece); tokens = refl; is = refl }) r.2,
    )

abbrev ClassRead : Flags → Text → Type 0
ClassRead f cs = LeafRead f (λ r. cs ++ r) (tree.Delegate (encode_utf8_all cs) f.casei)

bracket_leaf : (f : Flags) (body : Text) → AsWritten at_head body → ClassRead f (91 ∷ (body ++ 93 ∷ []))
bracket_leaf f body is outer n rest ts few ok more =
    let r = body_read f outer n rest ts is more in
    let text = 91 ∷ (body ++ 93 ∷ rest) in
    let x = placed (length text) (ClassOpen f.casei) ∷ r.0 in
    let same : text ≡ (91 ∷ (body ++ 93 ∷ [])) ++ rest = ap (λ l. 91 ∷ l) (sym (append_assoc body (93 ∷ []) rest)) in
    record {
      tokens = x;
      lexes = subst (λ t. Lexes (at f outer n) t x) same (class_open_step f outer n (body ++ 93 ∷ rest) r.0 few r.1);
      starts = (refl, refl, refl);
      is = ((refl, refl), λ names. rule.class (record { first = placed (length text) (ClassOpen f.casei); tokens = refl; is = refl }) r.2);
    }

set_leaf : (f : Flags) (c : ℕ) → f.ignore_whitespace ≡ false → is_set c ≡ true → ClassRead f (92 ∷ c ∷ [])
set_leaf f c plain h outer n rest ts few ok more =
    node_read f outer n (92 ∷ c ∷ rest) rest (tree.Delegate (encode_utf8_all (92 ∷ c ∷ [])) f.casei) ts (omega arith)
    (clear f (92 ∷ c ∷ rest) plain refl) (set_item f n rest c h) few (refl, refl, refl) more

property_leaf : (f : Flags) (c : ℕ) (name : Text) → f.ignore_whitespace ≡ false → (c == 112 || c == 80) ≡ true →
    ((rest : Text) → property_at (name ++ rest) ≡ Ok (name, rest)) → ClassRead f (92 ∷ c ∷ name)
property_leaf f c name plain h is outer n rest ts few ok more =
    node_read f outer n (92 ∷ c ∷ (name ++ rest)) rest (tree.Delegate (encode_utf8_all (92 ∷ c ∷ name)) f.casei) ts (omega arith)
    (clear f (92 ∷ c ∷ (name ++ rest)) plain refl) (property_item f n name rest c h (is rest)) few (refl, refl, refl) more

text_leaf : (f : Flags) (cs : Text) → f.ignore_whitespace ≡ false → IsClassText cs → ClassRead f cs
text_leaf f cs plain (set_text c e h) = subst (ClassRead f) (sym e) (set_leaf f c plain h)
text_leaf f cs plain (property c name e h is) = subst (ClassRead f) (sym e) (property_leaf f c name plain h is)
text_leaf f cs plain (brackets body e is) = subst (ClassRead f) (sym e) (bracket_leaf f body is)

pub class_leaf : (f : Flags) (inner : List ℕ) (h : IsClass inner) → f.ignore_whitespace ≡ false → LeafRead f (λ r. h.text ++ r) (tree.Delegate inner f.casei)
class_leaf f inner h plain =
    subst (λ i. LeafRead f (λ r. h.text ++ r) (tree.Delegate i f.casei)) (sym h.bytes) (text_leaf f h.text plain h.is)
