-- The nodes that are single tokens of a pattern.
use Rattle.std.proofs.Common.{◌≡◌, ℕ, ◌+◌, Bool, true, false, not, cond, ◌&&◌, ◌||◌, List, [], ◌∷◌, ◌++◌, length, codes, encode_utf8_all, ◌==◌, Option, Some, None, Result, Ok, Err, refl, subst, eqb, ltb, leb}
use Rattle.std.specs.Prelude.{ℤ}
use Rattle.std.specs.Char.{is_ascii_digit, is_ascii_alphanumeric}
use Rattle.std.proofs.Math.Utf8.{encode}
use Rattle.std.proofs.lemmas.Bool.{or_left, or_right}
use Rattle.fancy_meaning.specs.Tree as tree
use Rattle.fancy_meaning.specs.Tree.{Tree}
use Rattle.fancy_meaning.specs.WellFormed.{most_groups}
use Rattle.fancy_tokens.specs.declared.error.ErrorKind.{ErrorKind}
use Rattle.fancy_tokens.specs.declared.error.ErrorKind.TheVariants.{InvalidEscape, InvalidBackref, GeneralParseError}
use Rattle.fancy_tokens.specs.declared.error.Fault.{Fault}
use Rattle.fancy_tokens.specs.declared.lexing.ClassPlace.{ClassPlace}
use Rattle.fancy_tokens.specs.declared.lexing.Head.{Head}
use Rattle.fancy_tokens.specs.declared.lexing.Head.TheVariants as head
use Rattle.fancy_tokens.specs.declared.flags.Flags.{Flags}
use Rattle.fancy_tokens.specs.declared.lexing.Lexing.{Lexing}
use Rattle.fancy_tokens.specs.declared.tokens.Naming.{Naming}
use Rattle.fancy_tokens.specs.declared.tokens.Naming.TheVariants as naming
use Rattle.fancy_tokens.specs.declared.tokens.Quantifier.{Quantifier}
use Rattle.fancy_pattern.specs.Texts.{Text, Read, fault_at, ◌>>=◌, skip_word}
use Rattle.fancy_tokens.specs.Tokens.{Number, If, Placed, Token, Node, Open, Quantified, Item, item}
use Rattle.fancy_pattern.specs.Numbers.{number_of}
use Rattle.fancy_pattern.specs.Quantifiers.{counts_at}
use Rattle.fancy_pattern.specs.Names.{number_at, name_at, closed_at, reference_at, delimited_at, named_at}
use Rattle.fancy_pattern.specs.Flags.{letters_at, at_first}
use Rattle.fancy_pattern.specs.Escapes.{hex_at, property_at, is_set, escape_at, literal_at, set_at, refer_at, numbered_at, other_escape_at, leaf_escape, literal_escape, own_escape, set}
use Rattle.fancy_pattern.specs.Groups.{verb_word_at, look_at, condition_number_at, enclosing_of, named_group_at, call_at, numbered_call_at, verb_at, absent_at, angle_at, python_at, flags_item_at, minus_at, condition_by_group_at, pattern_condition_at, group_condition_at, condition_at, other_question_at, question_at, opening_at}
use Rattle.fancy_pattern.specs.Classes.{ClassItem, piece_item, inner, class_item_at, class_escape_at, bracket, closing_bracket}
use Rattle.fancy_pattern.specs.Items.{sign_token, brace_at, item_at, outside_at, within_at, found_at, Found, class_of}
use Rattle.fancy_tokens.specs.Nesting.{opened_by}
use Rattle.fancy_pattern.specs.Lexing.{State, Lexes, ended, gap, token, unread, misplaced}
use Rattle.fancy_expr.specs.Each.{Each}
use Rattle.fancy_round_trip.specs.ClassTexts as class
use Rattle.fancy_round_trip.specs.ClassTexts.{at_head, IsPiece, IsLast, AsWritten, ends, goes, brackets, IsClass}
use Rattle.fancy_round_trip.proofs.ClassPieces.{written_then, hex_pieces, property_again}

-- a node that one token is
abbrev pub OwnLeaf : Tree → Type 0
OwnLeaf (tree.Any newline crlf) = (newline && crlf) ≡ false
OwnLeaf (tree.Assert within a) = within ≡ tree.NoLook
OwnLeaf (tree.Delegate inner casei) = IsClass inner
OwnLeaf (tree.Concat es) = ⊥
OwnLeaf (tree.Alt es) = ⊥
OwnLeaf (tree.Group g e) = ⊥
OwnLeaf (tree.Repeat lo hi greedy e) = ⊥
OwnLeaf e = Unit {0}

abbrev pub OwnToken : Token → Type 0
OwnToken (Node e) = OwnLeaf e
OwnToken t = Unit {0}

abbrev HasToken : Read Token → Type 0
HasToken (Ok p) = OwnToken p.0
HasToken (Err e) = Unit {0}

abbrev HasItem : Read Item → Type 0
HasItem (Ok p) = OwnToken p.0.token
HasItem (Err e) = Unit {0}

abbrev HasOption : Option Token → Type 0
HasOption (Some t) = OwnToken t
HasOption None = Unit {0}

abbrev HasTree : Option Tree → Type 0
HasTree (Some e) = OwnLeaf e
HasTree None = Unit {0}

abbrev HasPair : Item × Text → Type 0
HasPair p = OwnToken p.0.token

-- ---- classes

no_more : {q : ClassPlace} → IsLast q → AsWritten q []
no_more is = ends is

inner_last : IsLast (record { depth = 1; head = head.Inner })
unfolding class_item_at
inner_last = record { inside = refl; read = λ rest. refl }

caret_first : IsPiece at_head (94 ∷ []) (record { depth = 1; head = head.Caret })
unfolding class_item_at
caret_first = record { inside = refl; read = λ rest. refl }

hex_bytes : codes "[0-9A-Fa-f]" ≡ encode_utf8_all (codes "[0-9A-Fa-f]")
unfolding encode
hex_bytes = refl

not_hex_bytes : codes "[^0-9A-Fa-f]" ≡ encode_utf8_all (codes "[^0-9A-Fa-f]")
unfolding encode
not_hex_bytes = refl

hex_class : IsClass (codes "[0-9A-Fa-f]")
hex_class =
    record {
      text = codes "[0-9A-Fa-f]";
      bytes = hex_bytes;
      is = brackets (codes "0-9A-Fa-f") refl (written_then (hex_pieces at_head refl) (no_more inner_last));
    }

not_hex_class : IsClass (codes "[^0-9A-Fa-f]")
not_hex_class =
    record {
      text = codes "[^0-9A-Fa-f]";
      bytes = not_hex_bytes;
      is =
          brackets (codes "^0-9A-Fa-f") refl
          (goes {piece = 94 ∷ []} caret_first (written_then (hex_pieces (record { depth = 1; head = head.Caret }) refl) (no_more inner_last)));
    }

set_class : (c : ℕ) → is_set c ≡ true → IsClass (encode_utf8_all (92 ∷ c ∷ []))
set_class c h = record { text = 92 ∷ c ∷ []; bytes = refl; is = class.set c refl h }

property_class : (c : ℕ) (name : Text) → (c == 112 || c == 80) ≡ true → ((rest : Text) → property_at (name ++ rest) ≡ Ok (name, rest)) →
    IsClass (encode_utf8_all (92 ∷ c ∷ name))
property_class c name h is = record { text = 92 ∷ c ∷ name; bytes = refl; is = class.property c name refl h is }

-- ---- steps

either_by : {X : Type 0} (Q : X → Type 0) (b : Bool) (x y : X) → (b ≡ true → Q x) → (b ≡ false → Q y) → Q (cond b x y)
either_by Q true x y h k = h refl
either_by Q false x y h k = k refl

either : {X : Type 0} (Q : X → Type 0) (b : Bool) (x y : X) → Q x → Q y → Q (cond b x y)
either Q true x y h k = h
either Q false x y h k = k

found : {A B : Type 0} (Q : B → Type 0) (o : Option A) (f : A → B) (b : B) → ((a : A) → Q (f a)) → Q b → Q (elim o [ Some a ↦ f a | None ↦ b ])
found Q (Some a) f b h k = h a
found Q None f b h k = k

then_item : {A : Type 0} (r : Result A Fault) (f : A → Read Item) → ((a : A) → HasItem (f a)) → HasItem (r >>= f)
then_item (Ok a) f h = h a
then_item (Err e) f h = tt

then_token : {A : Type 0} (r : Result A Fault) (f : A → Read Token) → ((a : A) → HasToken (f a)) → HasToken (r >>= f)
then_token (Ok a) f h = h a
then_token (Err e) f h = tt

-- ---- outside of classes

brace_own : (f : Flags) (text after : Text) → HasToken (brace_at f text after)
unfolding brace_at
brace_own f text after = by_counts (counts_at f.ignore_whitespace after)
  where
    by_counts : (o : Option (Result Quantifier ErrorKind × Text)) →
        HasToken (elim o [
          | None ↦ Ok (Node (tree.Literal 123 f.casei), after)
          | Some counts ↦ elim counts.0 [ Ok q ↦ Ok (Quantified q (not f.swap_greed), counts.1) | Err kind ↦ Err (fault_at kind text) ]
        ])
    by_counts None = tt
    by_counts (Some (Ok q, rest)) = tt
    by_counts (Some (Err e, rest)) = tt

own_own : (casei : Bool) (c : ℕ) → HasTree (own_escape casei c)
own_own casei c = either HasTree (is_ascii_alphanumeric c) _ _ tt tt

literal_own : (f : Flags) (c : ℕ) → HasTree (literal_escape f c)
literal_own f c =
    either HasTree (eqb c 97) _ _ tt (either HasTree (eqb c 101) _ _ tt (either HasTree (eqb c 102) _ _ tt (either HasTree (eqb c 110) _ _ tt (either HasTree
    (eqb c 114) _ _ tt (either HasTree (eqb c 116) _ _ tt (either HasTree (eqb c 118) _ _ tt (own_own f.casei c)))))))

leaf_own : (f : Flags) (c : ℕ) → HasTree (leaf_escape f c)
leaf_own f c =
    either HasTree (eqb c 65) _ _ refl (either HasTree (eqb c 122) _ _ refl (either HasTree (eqb c 90) _ _ refl (either HasTree (eqb c 66) _ _ refl
    (either HasTree (eqb c 60) _ _ refl (either HasTree (eqb c 62) _ _ refl (either HasTree (eqb c 71) _ _ tt (either HasTree (eqb c 75) _ _ tt
    (either HasTree (eqb c 82) _ _ tt (either HasTree (eqb c 79) _ _ refl (either HasTree (eqb c 78) _ _ refl (either HasTree (eqb c 104) _ _ hex_class
    (either HasTree (eqb c 72) _ _ not_hex_class (literal_own f c)))))))))))))

numbered_own : (f : Flags) (text : Text) → HasToken (numbered_at f text)
unfolding numbered_at
numbered_own f text = then_token (number_at text) _ (λ n. tt)

other_escape_own : (f : Flags) (c : ℕ) (text after : Text) → HasToken (other_escape_at f c text after)
unfolding other_escape_at
other_escape_own f c text after =
    either_by HasToken (is_set c) _ _ (λ h. set_class c h)
    (λ h. either HasToken (is_ascii_digit c) _ _ (numbered_own f text) (by_leaf (leaf_escape f c) (leaf_own f c)))
  where
    by_leaf : (o : Option Tree) → HasTree o → HasToken (elim o [ Some e ↦ Ok (Node e, after) | None ↦ Err (fault_at InvalidEscape text) ])
    by_leaf (Some e) h = h
    by_leaf None h = tt

code_own : (f : Flags) (n : ℕ) (text : Text) → HasToken (literal_at f n text)
unfolding literal_at
code_own f n text = then_token (hex_at n text) _ (λ c. tt)

set_own : (f : Flags) (letter : ℕ) (text : Text) → (letter == 112 || letter == 80) ≡ true → HasToken (set_at f letter text)
unfolding set_at
set_own f letter text h = by_name (property_at text) refl
  where
    by_name : (r : Read Text) → property_at text ≡ r → HasToken (r >>= λ name. Ok (set f letter name.0, name.1))
    by_name (Ok (name, after)) e = property_class letter name h (property_again text name after e)
    by_name (Err x) e = tt

refer_own : (opened : ℕ) (n : Naming) (text : Text) → HasToken (refer_at opened n text)
unfolding refer_at
refer_own opened n text = then_token (delimited_at opened n text) _ (λ r. tt)

escape_own : (f : Flags) (opened : ℕ) (text : Text) → HasToken (escape_at f opened text)
unfolding escape_at
escape_own f opened [] = tt
escape_own f opened (c ∷ cs) =
    either HasToken (eqb c 120) _ _ (code_own f 2 cs) (either HasToken (eqb c 117) _ _ (code_own f 4 cs) (either HasToken (eqb c 85) _ _ (code_own f 8 cs)
    (either_by HasToken (eqb c 112) _ _ (λ h. set_own f c cs (or_left (c == 112) (c == 80) h)) (λ i. either_by HasToken (eqb c 80) _ _
    (λ h. set_own f c cs (or_right (c == 112) (c == 80) h)) (λ j. either HasToken (eqb c 98) _ _ refl
    (either HasToken (eqb c 107) _ _ (refer_own opened (naming.Backref f.casei) cs) (either HasToken (eqb c 103) _ _
    (refer_own opened naming.Call cs) (other_escape_own f c (c ∷ cs) cs))))))))

named_group_own : (f : Flags) (opened close : ℕ) (text : Text) → HasItem (named_group_at f opened close text)
unfolding named_group_at
named_group_own f opened close text = then_item (name_at text) _ (λ name. then_item (closed_at close name.1) _ (λ rest. tt))

call_own : (f : Flags) (n : Naming) (text : Text) → HasItem (call_at f n text)
unfolding call_at
call_own f n text = then_item (named_at n 41 text) _ (λ r. tt)

numbered_call_own : (f : Flags) (opened : ℕ) (text : Text) → HasItem (numbered_call_at f opened text)
unfolding numbered_call_at
numbered_call_own f opened text = then_item (reference_at opened naming.Call 41 text) _ (λ r. tt)

verb_own : (f : Flags) (text : Text) → HasItem (verb_at f text)
unfolding verb_at
verb_own f text = found HasItem (verb_word_at text) _ _ (λ v. tt) tt

absent_own : (f : Flags) (text : Text) → HasPair (absent_at f text)
unfolding absent_at
absent_own f text =
    found HasPair (skip_word (codes "|)") text) _ _ (λ rest. tt) (found HasPair (skip_word (codes "|") text) _ _ (λ rest. tt) tt)

angle_own : (f : Flags) (opened : ℕ) (text : Text) → HasItem (angle_at f opened text)
unfolding angle_at
angle_own f opened [] = named_group_own f opened 62 []
angle_own f opened (c ∷ cs) = either HasItem (eqb c 61) _ _ tt (either HasItem (eqb c 33) _ _ tt (named_group_own f opened 62 (c ∷ cs)))

python_own : (f : Flags) (opened : ℕ) (text : Text) → HasItem (python_at f opened text)
unfolding python_at
python_own f opened [] = tt
python_own f opened (c ∷ cs) =
    either HasItem (eqb c 60) _ _ (named_group_own f opened 62 cs) (either HasItem (eqb c 61) _ _ (call_own f (naming.Backref f.casei) cs)
    (either HasItem (eqb c 62) _ _ (call_own f naming.Call cs) tt))

flags_own : (f : Flags) (text : Text) → HasItem (flags_item_at f text)
unfolding flags_item_at
flags_own f text = then_item (letters_at (at_first f) text) _ (λ x. either HasItem x.0.is_group _ _ tt tt)

minus_own : (f : Flags) (opened : ℕ) (minus text : Text) → HasItem (minus_at f opened minus text)
unfolding minus_at
minus_own f opened minus [] = flags_own f minus
minus_own f opened minus (c ∷ cs) = either HasItem (is_ascii_digit c) _ _ (numbered_call_own f opened minus) (flags_own f minus)

by_group_own : (f : Flags) (digits : Text) (level : Option ℤ) (text rest : Text) → HasItem (condition_by_group_at f digits level text rest)
unfolding condition_by_group_at
by_group_own f digits level text rest = by_number (number_of 10 digits)
  where
    by_number : (o : Option ℕ) → HasItem (elim o [
      | None ↦ Err (fault_at InvalidBackref text)
      | Some n ↦ Ok (item f (Open (If (record { naming = naming.Exists; target = Number n; level = level; left = length text }))), rest)
    ])
    by_number None = tt
    by_number (Some n) = tt

pattern_condition_own : (f : Flags) (text : Text) → HasPair (pattern_condition_at f text)
unfolding pattern_condition_at
pattern_condition_own f text = found HasPair (look_at text) _ _ (λ l. tt) tt

group_condition_own : (f : Flags) (opened : ℕ) (text : Text) → HasItem (group_condition_at f opened text)
unfolding group_condition_at
group_condition_own f opened [] = pattern_condition_own f []
group_condition_own f opened (c ∷ cs) =
    either HasItem (eqb c 60 || eqb c 39) _ _ (then_item (delimited_at opened naming.Exists (c ∷ cs)) _ (λ r. then_item (closed_at 41 r.1) _ (λ rest. tt)))
    (pattern_condition_own f (c ∷ cs))

condition_own : (f : Flags) (opened : ℕ) (text : Text) → HasItem (condition_at f opened text)
unfolding condition_at
condition_own f opened text = found HasItem (skip_word (codes "DEFINE)") text) _ _ (λ rest. tt) (by_number (condition_number_at text))
  where
    by_number : (o : Option ((Text × Option ℤ) × Text)) → HasItem (elim o [
      | Some n ↦ condition_by_group_at f n.0.0 n.0.1 text n.1
      | None ↦ group_condition_at f opened text
    ])
    by_number (Some n) = by_group_own f n.0.0 n.0.1 text n.1
    by_number None = group_condition_own f opened text

other_question_own : (f : Flags) (opened c : ℕ) (text after : Text) → HasItem (other_question_at f opened c text after)
unfolding other_question_at
other_question_own f opened c text after =
    either HasItem (eqb c 126) _ _ (absent_own f after) (either HasItem (eqb c 60) _ _ (angle_own f opened after) (either HasItem (eqb c 39) _ _
    (named_group_own f opened 39 after) (either HasItem (eqb c 80) _ _ (python_own f opened after) (either HasItem (eqb c 38) _ _
    (call_own f naming.Call after) (either HasItem (eqb c 40) _ _ (condition_own f opened after) (either HasItem (eqb c 35) _ _ tt (either HasItem
    (eqb c 45) _ _ (minus_own f opened text after) (either HasItem (eqb c 43) _ _ (numbered_call_own f opened text) (either HasItem
    (is_ascii_digit c) _ _ (numbered_call_own f opened text) (flags_own f text))))))))))

question_own : (f : Flags) (opened : ℕ) (text : Text) → HasItem (question_at f opened text)
unfolding question_at
question_own f opened [] = tt
question_own f opened (c ∷ cs) = found HasItem (enclosing_of c) _ _ (λ e. tt) (other_question_own f opened c (c ∷ cs) cs)

opening_own : (f : Flags) (opened : ℕ) (text : Text) → HasItem (opening_at f opened text)
unfolding opening_at
opening_own f opened [] = tt
opening_own f opened (c ∷ cs) = either HasItem (eqb c 63) _ _ (question_own f opened cs) (either HasItem (eqb c 42) _ _ (verb_own f cs) tt)

any_own : (b crlf : Bool) → OwnLeaf (cond b (tree.Any true false) (tree.Any false crlf))
any_own true crlf = refl
any_own false crlf = refl

sign_own : (f : Flags) (c : ℕ) → HasOption (sign_token f c)
sign_own f c =
    either HasOption (eqb c 46) _ _ (any_own f.dot_all f.crlf)
    (either HasOption (eqb c 94) _ _ (by_start f.multi_line) (either HasOption (eqb c 36) _ _ (either OwnLeaf f.multi_line (tree.Assert tree.NoLook
    (tree.EndLine f.crlf)) (tree.Assert tree.NoLook tree.EndText) refl refl) (either HasOption (eqb c 124) _ _ tt
    (either HasOption (eqb c 41) _ _ tt (either HasOption (eqb c 42) _ _ tt (either HasOption (eqb c 43) _ _ tt
    (either HasOption (eqb c 63) _ _ tt (either HasOption (eqb c 91) _ _ tt tt))))))))
  where
    by_start : (b : Bool) → OwnLeaf (cond (not b) (tree.Assert tree.NoLook tree.StartText)
        (cond f.oniguruma (tree.Assert tree.NoLook (tree.StartLineOniguruma f.crlf)) (tree.Assert tree.NoLook (tree.StartLine f.crlf))))
    by_start true =
        either OwnLeaf f.oniguruma (tree.Assert tree.NoLook (tree.StartLineOniguruma f.crlf)) (tree.Assert tree.NoLook (tree.StartLine f.crlf)) refl refl
    by_start false = refl

-- a token becomes an item
as_item : (f : Flags) (r : Read Token) → HasToken r → HasItem (r >>= λ t. Ok (item f t.0, t.1))
as_item f (Ok t) h = h
as_item f (Err e) h = tt

item_own : (f : Flags) (opened : ℕ) (text : Text) → HasItem (item_at f opened text)
unfolding item_at
item_own f opened [] = tt
item_own f opened (c ∷ cs) = by_sign (sign_token f c) (sign_own f c)
  where
    others : HasItem (cond (eqb c 40) (opening_at f opened cs) (cond (eqb c 92) (escape_at f opened cs >>= λ t. Ok (item f t.0, t.1))
        (cond (eqb c 123) (brace_at f (c ∷ cs) cs >>= λ t. Ok (item f t.0, t.1)) (Ok (item f (Node (tree.Literal c f.casei)), cs)))))
    others =
        either HasItem (eqb c 40) _ _ (opening_own f opened cs) (either HasItem (eqb c 92) _ _ (as_item f (escape_at f opened cs)
        (escape_own f opened cs)) (either HasItem (eqb c 123) _ _ (as_item f (brace_at f (c ∷ cs) cs) (brace_own f (c ∷ cs) cs)) tt))

    by_sign : (o : Option Token) → HasOption o → HasItem (elim o [
      | Some t ↦ Ok (item f t, cs)
      | None ↦ cond (eqb c 40) (opening_at f opened cs) (cond (eqb c 92) (escape_at f opened cs >>= λ t. Ok (item f t.0, t.1))
          (cond (eqb c 123) (brace_at f (c ∷ cs) cs >>= λ t. Ok (item f t.0, t.1)) (Ok (item f (Node (tree.Literal c f.casei)), cs))))
    ])
    by_sign (Some t) k = k
    by_sign None k = others

-- ---- found tokens

abbrev HasFound : Read Found → Type 0
HasFound (Ok p) = OwnToken p.0.token
HasFound (Err e) = Unit {0}

outside_own : (now : Lexing) (text : Text) → HasFound (outside_at now text)
unfolding outside_at
outside_own now text = by_item (item_at now.flags now.opened text) (item_own now.flags now.opened text)
  where
    by_item : (r : Read Item) → HasItem r → HasFound (r
        >>= λ i. cond (ltb most_groups (now.opened + opened_by i.0.token)) (Err (fault_at GeneralParseError text)) (Ok (
          record {
            token = i.0.token;
            behind = record { flags = i.0.flags; opened = now.opened + opened_by i.0.token; class = class_of i.0.token };
          },
          i.1,
        )))
    by_item (Ok i) h = either HasFound (ltb most_groups (now.opened + opened_by i.0.token)) _ _ tt h
    by_item (Err e) h = tt

abbrev InClass : ClassItem → Type 0
InClass i = OwnToken i.token

abbrev HasClass : Read ClassItem → Type 0
HasClass (Ok p) = InClass p.0
HasClass (Err e) = Unit {0}

bracket_own : (place : ClassPlace) → InClass (bracket place)
bracket_own place = by_head place.head
  where
    by_head : (h : Head) → InClass (elim h [
      | head.Start ↦ piece_item (92 ∷ 93 ∷ []) (inner place)
      | head.Caret ↦ piece_item (92 ∷ 93 ∷ []) (inner place)
      | head.Inner ↦ closing_bracket place
    ])
    by_head head.Start = tt
    by_head head.Caret = tt
    by_head head.Inner = either InClass (leb place.depth 1) _ _ tt tt

escaped_own : (place : ClassPlace) (r : Read Text) → HasClass (r >>= λ e. Ok (piece_item e.0 (inner place), e.1))
escaped_own place (Ok e) = tt
escaped_own place (Err e) = tt

class_item_own : (place : ClassPlace) (text : Text) → HasClass (class_item_at place text)
unfolding class_item_at
class_item_own place [] = tt
class_item_own place (c ∷ cs) =
    either HasClass (eqb c 92) _ _ (escaped_own place (class_escape_at cs)) (either HasClass (eqb c 91) _ _ tt (either HasClass (eqb c 93) _ _
    (bracket_own place) (either HasClass (eqb c 94) _ _ tt tt)))

within_own : (now : Lexing) (text : Text) → HasFound (within_at now text)
unfolding within_at
within_own now text = by_item (class_item_at now.class text) (class_item_own now.class text)
  where
    by_item : (r : Read ClassItem) → HasClass r → HasFound (r
        >>= λ i. Ok (record { token = i.0.token; behind = record { flags = now.flags; opened = now.opened; class = i.0.place } }, i.1))
    by_item (Ok i) h = h
    by_item (Err e) h = tt

found_own : (now : Lexing) (text : Text) → HasFound (found_at now text)
unfolding found_at
found_own now text =
    either HasFound (eqb now.class.depth 0) (outside_at now text) (within_at now text) (outside_own now text) (within_own now text)

pub tokens_own : {s : State} {text : Text} {ts : List Placed} → Lexes s text ts → Each (λ p. OwnToken p.token) ts
tokens_own (ended o) = tt
tokens_own (gap o is more) = tokens_own more
tokens_own {s = s} {text = text} (token {found = a} at is went more) = (subst HasFound is (found_own s.now text), tokens_own more)
tokens_own (unread at is) = (tt, tt)
tokens_own (misplaced left at is went) = (tt, tt)
