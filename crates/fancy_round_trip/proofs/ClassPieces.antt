-- The pieces of a class are handed on in a form that is handed on as it is written.
use Rattle.std.proofs.Common.{◌≡◌, ℕ, ◌+◌, ◌-◌, ◌<◌, ◌⊎◌, inl, inr, Bool, true, false, not, ◌&&◌, ◌||◌, [], ◌∷◌, ◌++◌, length, take, drop, codes, Option, Some, None, Ok, Err, if◌then◌else◌, ◌==◌, nat_lt, nat_le, refl, sym, ap, ◌∙◌, subst, arith, append_assoc, append-nil, length-append}
use Rattle.std.specs.Char.{is_ascii, is_ascii_alphanumeric}
use Rattle.std.specs.List.{take_while}
use Rattle.std.specs.Prelude.{option_and_then}
use lib.Utf8.{scalar}
use Rattle.fancy_pattern.specs.Numbers.{number_of}
use Rattle.std.proofs.lemmas.Bool.{true≢false, eqb-true, eqb-false, ne_eqb, ltb-true, lt-ltb, leb-true, or_left, or_right}
use Rattle.std.proofs.lemmas.Bool.Decides.{nat_tests}
use Rattle.std.proofs.lemmas.List.Sums.{take_while-cons}
use Rattle.std.proofs.Math.Seq.{take-append-add, drop-append-add}
use Rattle.fancy_tokens.specs.declared.error.ErrorKind.TheVariants.{InvalidEscape, UnclosedUnicodeName, InvalidHex, InvalidCodepointValue}
use Rattle.fancy_tokens.specs.declared.lexing.ClassPlace.{ClassPlace}
use Rattle.fancy_tokens.specs.declared.lexing.Head.{Head}
use Rattle.fancy_tokens.specs.declared.lexing.Head.TheVariants as head
use Rattle.fancy_pattern.specs.Texts.{Text, Read, fault_at, ◌>>=◌, uncons, skip_run}
use Rattle.fancy_tokens.specs.Tokens.{Token, ClassText, ClassClose}
use Rattle.fancy_pattern.specs.Escapes.{hex_at, bare_hex_at, braced_hex_at, is_hex, char_of, property_at, property_length}
use Rattle.fancy_tokens.specs.PatternViews.{code_text, hex_digits}
use Rattle.fancy_pattern.specs.Classes.{ClassItem, piece_item, inner, is_kept, fixed_escape, own_piece, coded_at, kept_set_at, other_class_escape_at, class_escape_at, bracket, closing_bracket, caret, class_item_at}
use Rattle.fancy_pattern.proofs.EscapedTokens.{not_if}
use Rattle.fancy_round_trip.specs.ClassTexts.{outside, IsPiece, IsLast, AsWritten, goes}
use Rattle.fancy_round_trip.specs.RoundTrip.{is_rewritten}
use Rattle.fancy_round_trip.proofs.Steps.{is_if}
use Rattle.fancy_round_trip.proofs.HexDigits.{code_again}

-- pieces in a row
pub data Pieces : ClassPlace → Text → ClassPlace → Type 0 where
  no_piece : {p : ClassPlace} → Pieces p [] p
  a_piece : {p q r : ClassPlace} {piece text : Text} → IsPiece p piece q → Pieces q text r → Pieces p (piece ++ text) r

pub written_then : {p q : ClassPlace} {piece text : Text} → Pieces p piece q → AsWritten q text → AsWritten p (piece ++ text)
written_then no_piece w = w
written_then {p = p} {text = text} (a_piece {piece = a} {text = b} is more) w =
    subst (AsWritten p) (sym (append_assoc a b text)) (goes is (written_then more w))

one : {p q : ClassPlace} (piece : Text) → IsPiece p piece q → Pieces p (piece ++ []) q
one piece is = a_piece is no_piece

abbrev Inside : ClassPlace → Type 0
Inside p = (p.depth == 0) ≡ false

-- ---- single characters

plain_read : (p : ClassPlace) (c : ℕ) (rest : Text) → (c == 92) ≡ false → (c == 91) ≡ false → (c == 93) ≡ false → (c == 94) ≡ false →
    class_item_at p (c ∷ rest) ≡ Ok (piece_item (c ∷ []) (inner p), rest)
unfolding class_item_at
plain_read p c rest h i j k =
    not_if (c == 92) _ _ h ∙ not_if (c == 91) _ _ i ∙ not_if (c == 93) _ _ j ∙ not_if (c == 94) _ _ k

plain_piece : (p : ClassPlace) (c : ℕ) → Inside p → (c == 92) ≡ false → (c == 91) ≡ false → (c == 93) ≡ false → (c == 94) ≡ false →
    Pieces p (c ∷ []) (inner p)
plain_piece p c deep h i j k = a_piece (record { inside = deep; read = λ rest. plain_read p c rest h i j k }) no_piece

open_read : (p : ClassPlace) (rest : Text) → class_item_at p (91 ∷ rest) ≡ Ok (piece_item (91 ∷ []) (record { depth = p.depth + 1; head = head.Start }), rest)
unfolding class_item_at
open_read p rest = refl

open_piece : (p : ClassPlace) → Inside p → Pieces p (91 ∷ []) (record { depth = p.depth + 1; head = head.Start })
open_piece p deep = a_piece (record { inside = deep; read = open_read p }) no_piece

caret_read : (p : ClassPlace) (rest : Text) → class_item_at p (94 ∷ rest) ≡ Ok (piece_item (94 ∷ []) (caret p), rest)
unfolding class_item_at
caret_read p rest = refl

caret_piece : (p : ClassPlace) → Inside p → Pieces p (94 ∷ []) (caret p)
caret_piece p deep = a_piece (record { inside = deep; read = caret_read p }) no_piece

pub hex_pieces : (p : ClassPlace) → Inside p → Pieces p (codes "0-9A-Fa-f") (inner p)
hex_pieces p deep =
    let next : (c : ℕ) → (c == 92) ≡ false → (c == 91) ≡ false → (c == 93) ≡ false → (c == 94) ≡ false → IsPiece (inner p) (c ∷ []) (inner p) =
    λ c h i j k. record { inside = deep; read = λ rest. plain_read (inner p) c rest h i j k } in
    a_piece {piece = 48 ∷ []} (record { inside = deep; read = λ rest. plain_read p 48 rest refl refl refl refl })
    (a_piece {piece = 45 ∷ []} (next 45 refl refl refl refl) (a_piece {piece = 57 ∷ []} (next 57 refl refl refl refl) (a_piece {piece = 65 ∷ []}
    (next 65 refl refl refl refl) (a_piece {piece = 45 ∷ []} (next 45 refl refl refl refl) (a_piece {piece = 70 ∷ []} (next 70 refl refl refl refl)
    (a_piece {piece = 97 ∷ []} (next 97 refl refl refl refl) (a_piece {piece = 45 ∷ []} (next 45 refl refl refl refl) (a_piece {piece = 102 ∷ []}
    (next 102 refl refl refl refl) no_piece))))))))

-- ---- brackets

close_read : (p : ClassPlace) (rest : Text) → p.head ≡ head.Inner → nat_le p.depth 1 ≡ false →
    class_item_at p (93 ∷ rest) ≡ Ok (piece_item (93 ∷ []) (record { depth = p.depth - 1; head = head.Inner }), rest)
unfolding class_item_at
close_read p rest at deep =
    ap {A = Head} {B = Read ClassItem} (λ h. Ok (
      elim h [
        | head.Start ↦ piece_item (92 ∷ 93 ∷ []) (inner p)
        | head.Caret ↦ piece_item (92 ∷ 93 ∷ []) (inner p)
        | head.Inner ↦ closing_bracket p
      ],
      rest,
    )) at
    ∙ ap {A = Bool} {B = Read ClassItem} (λ b. Ok (
      if b then (record { token = ClassClose; place = record { depth = p.depth - 1; head = head.Inner } })
          else piece_item (93 ∷ []) (record { depth = p.depth - 1; head = head.Inner }),
      rest,
    )) deep

last_read : (p : ClassPlace) (rest : Text) → p.head ≡ head.Inner → p.depth ≡ 1 →
    class_item_at p (93 ∷ rest) ≡ Ok (record { token = ClassClose; place = outside }, rest)
unfolding class_item_at
last_read p rest at one =
    ap {A = Head} {B = Read ClassItem} (λ h. Ok (
      elim h [
        | head.Start ↦ piece_item (92 ∷ 93 ∷ []) (inner p)
        | head.Caret ↦ piece_item (92 ∷ 93 ∷ []) (inner p)
        | head.Inner ↦ closing_bracket p
      ],
      rest,
    )) at
    ∙ ap {A = ℕ} {B = Read ClassItem} (λ d. Ok (
      if nat_le d 1 then (record { token = ClassClose; place = record { depth = d - 1; head = head.Inner } })
          else piece_item (93 ∷ []) (record { depth = d - 1; head = head.Inner }),
      rest,
    )) one

escaped_bracket_read : (p : ClassPlace) (rest : Text) → class_item_at p (92 ∷ 93 ∷ rest) ≡ Ok (piece_item (92 ∷ 93 ∷ []) (inner p), rest)
unfolding class_item_at class_escape_at other_class_escape_at
escaped_bracket_read p rest = refl

-- `[^0-9A-Fa-f]` in a class
not_hex_pieces : (p : ClassPlace) → Inside p → Pieces p (codes "[^0-9A-Fa-f]") (inner p)
not_hex_pieces p deep =
    let d : ClassPlace = record { depth = p.depth + 1; head = head.Start } in
    let down : Inside d = ne_eqb (p.depth + 1) 0 (λ e. omega (arith, e)) in
    let c : ClassPlace = record { depth = p.depth + 1; head = head.Caret } in
    let i : ClassPlace = record { depth = p.depth + 1; head = head.Inner } in
    let some : p.depth ≡ 0 → ⊥ = λ e. eqb-false p.depth 0 deep e in
    let far : nat_le (p.depth + 1) 1 ≡ false = grind (arith, nat_tests, some) in
    let back : record { depth = p.depth + 1 - 1; head = head.Inner } ≡ inner p =
    ap {A = ℕ} {B = ClassPlace} (λ k. record { depth = k; head = head.Inner }) (omega arith) in
    let next : (k : ℕ) → (k == 92) ≡ false → (k == 91) ≡ false → (k == 93) ≡ false → (k == 94) ≡ false → IsPiece i (k ∷ []) i =
    λ k s t u v. record { inside = down; read = λ rest. plain_read i k rest s t u v } in
    a_piece {q = d} {piece = 91 ∷ []} (record { inside = deep; read = open_read p })
    (a_piece {q = c} {piece = 94 ∷ []} (record { inside = down; read = caret_read d })
    (a_piece {q = i} {piece = 48 ∷ []} (record { inside = down; read = λ rest. plain_read c 48 rest refl refl refl refl })
    (a_piece {piece = 45 ∷ []} (next 45 refl refl refl refl) (a_piece {piece = 57 ∷ []} (next 57 refl refl refl refl) (a_piece {piece = 65 ∷ []}
    (next 65 refl refl refl refl) (a_piece {piece = 45 ∷ []} (next 45 refl refl refl refl) (a_piece {piece = 70 ∷ []} (next 70 refl refl refl refl)
    (a_piece {piece = 97 ∷ []} (next 97 refl refl refl refl) (a_piece {piece = 45 ∷ []} (next 45 refl refl refl refl) (a_piece {piece = 102 ∷ []}
    (next 102 refl refl refl refl)
    (subst (λ q. Pieces i (93 ∷ []) q) back (a_piece {piece = 93 ∷ []} (record { inside = down; read = λ rest. close_read i rest refl far }) no_piece))))))))))))

-- ---- properties

abbrev is_open : ℕ → Bool
is_open c = not (c == 125)

-- the text is what stands before a closing brace, and the brace
record Run (text : Text) : Type 0 where
  own : Text
  rest : Text
  whole : text ≡ own ++ 125 ∷ rest
  again : (more : Text) → take_while is_open (own ++ 125 ∷ more) ≡ own

run_before : (text : Text) → length (take_while is_open text) < length text → Run text
run_before [] h = absurd (omega (arith, h))
run_before (c ∷ cs) h = by_test (c == 125) refl (run_before cs)
  where
    by_test : (b : Bool) → (c == 125) ≡ b → (length (take_while is_open cs) < length cs → Run cs) → Run (c ∷ cs)
    by_test true e others =
        record { own = []; rest = cs; whole = ap (λ d. d ∷ cs) (eqb-true c 125 e); again = λ more. take_while-cons is_open 125 more }
    by_test false e others =
        let goes_on : is_open c ≡ true = ap not e in
        let first : take_while is_open (c ∷ cs) ≡ c ∷ take_while is_open cs = take_while-cons is_open c cs ∙ is_if (is_open c) _ _ goes_on in
        let size : length (take_while is_open (c ∷ cs)) ≡ length (c ∷ take_while is_open cs) = ap length first in
        let r = others (omega (arith, h, size)) in
        record {
          own = c ∷ r.own;
          rest = r.rest;
          whole = ap (λ l. c ∷ l) r.whole;
          again = λ more. take_while-cons is_open c (r.own ++ 125 ∷ more) ∙ is_if (is_open c) _ _ goes_on ∙ ap (λ l. c ∷ l) (r.again more);
        }

abbrev property_of : Text → Option ℕ → Read Text
property_of text o = elim o [ Some n ↦ Ok (take n text, drop n text) | None ↦ Err (record { left = 0; kind = UnclosedUnicodeName }) ]

-- of one character
one_char : (c : ℕ) (cs : Text) → (c == 123) ≡ false → property_at (c ∷ cs) ≡ Ok (c ∷ [], cs)
unfolding property_at property_length
one_char c cs h =
    ap {A = Bool} {B = Read Text}
    (λ b. property_of (c ∷ cs) (if not b then Some 1
    else if nat_lt (length (take_while is_open (c ∷ cs))) (length (c ∷ cs)) then Some (length (take_while is_open (c ∷ cs)) + 1)
    else None)) h

abbrev in_braces_of : Text → Read Text
in_braces_of text =
    property_of text
    (if nat_lt (length (take_while is_open text)) (length text) then Some (length (take_while is_open text) + 1) else None)

in_braces : (c : ℕ) (cs : Text) → (c == 123) ≡ true → property_at (c ∷ cs) ≡ in_braces_of (c ∷ cs)
unfolding property_at property_length
in_braces c cs h =
    ap {A = Bool} {B = Read Text}
    (λ b. property_of (c ∷ cs) (if not b then Some 1
    else if nat_lt (length (take_while is_open (c ∷ cs))) (length (c ∷ cs)) then Some (length (take_while is_open (c ∷ cs)) + 1)
    else None)) h

-- of all up to the brace
braced : (c : ℕ) (ds rest : Text) → (c == 123) ≡ true → take_while is_open (c ∷ (ds ++ 125 ∷ rest)) ≡ c ∷ ds →
    property_at (c ∷ (ds ++ 125 ∷ rest)) ≡ Ok (c ∷ (ds ++ 125 ∷ []), rest)
braced c ds rest h run =
    let text = c ∷ (ds ++ 125 ∷ rest) in
    let own = c ∷ ds in
    let shorter : length own < length text = omega (arith, length-append own (125 ∷ rest)) in
    in_braces c (ds ++ 125 ∷ rest) h
    ∙ ap (λ l. property_of text (if nat_lt (length l) (length text) then Some (length l + 1) else None)) run
    ∙ ap (λ b. property_of text (if b then Some (length own + 1) else None)) (lt-ltb (length own) (length text) shorter)
    ∙ ap (λ l. Ok (l, drop (length own + 1) text)) (take-append-add own (125 ∷ rest) 1)
    ∙ ap (λ l. Ok (c ∷ (ds ++ 125 ∷ []), l)) (drop-append-add own (125 ∷ rest) 1)

read_same : {x y a b : Text} {r : Read Text} → r ≡ Ok (x, a) → r ≡ Ok (y, b) → x ≡ y
read_same {x} {y} {a} {b} p q =
    let e : ◌≡◌ {A = Read Text} (Ok (x, a)) (Ok (y, b)) = sym p ∙ q in
    let f : ◌≡◌ {A = Text × Text} (x, a) (y, b) = cc in
    ap (λ t. t.0) f

nothing_read : {G : Type 0} (name after : Text) → property_at [] ≡ Ok (name, after) → G
unfolding property_at property_length
nothing_read name after e = absurd (cc)

-- a name of a property is read again
pub property_again : (text name after : Text) → property_at text ≡ Ok (name, after) → (rest : Text) → property_at (name ++ rest) ≡ Ok (name, rest)
property_again [] name after e rest = nothing_read name after e
property_again (c ∷ cs) name after e rest = by_brace (c == 123) refl
  where
    short : length (take_while is_open (c ∷ cs)) < length (c ∷ cs) → (c == 123) ≡ true → property_at (name ++ rest) ≡ Ok (name, rest)
    short lt h = by_own (run_before (c ∷ cs) lt)
      where
        by_own : Run (c ∷ cs) → property_at (name ++ rest) ≡ Ok (name, rest)
        by_own r = by_first r.own r.rest r.whole r.again
          where
            by_first : (own left : Text) → c ∷ cs ≡ own ++ 125 ∷ left → ((more : Text) → take_while is_open (own ++ 125 ∷ more) ≡ own) →
                property_at (name ++ rest) ≡ Ok (name, rest)
            by_first [] left whole again =
                let same : c ≡ 125 = cc in
                let other : c ≡ 123 = eqb-true c 123 h in
                absurd (omega (arith, same, other))
            by_first (d ∷ ds) left whole again =
                let same : c ≡ d = cc in
                let brace : (d == 123) ≡ true = subst (λ k. (k == 123) ≡ true) same h in
                let is : name ≡ d ∷ (ds ++ 125 ∷ []) = read_same (sym (ap property_at whole) ∙ e) (braced d ds left brace (again left)) in
                subst (λ n. property_at (n ++ rest) ≡ Ok (n, rest)) (sym is)
                (ap (λ l. property_at (d ∷ l)) (append_assoc ds (125 ∷ []) rest) ∙ braced d ds rest brace (again rest))

    by_length : (b : Bool) → nat_lt (length (take_while is_open (c ∷ cs))) (length (c ∷ cs)) ≡ b → (c == 123) ≡ true →
        property_at (name ++ rest) ≡ Ok (name, rest)
    by_length true lt h = short (ltb-true _ _ lt) h
    by_length false lt h =
        let none : property_at (c ∷ cs) ≡ property_of (c ∷ cs) None =
        in_braces c cs h ∙ ap (λ b. property_of (c ∷ cs) (if b then Some (length (take_while is_open (c ∷ cs)) + 1) else None)) lt in
        let f : ◌≡◌ {A = Read Text} (property_of (c ∷ cs) None) (Ok (name, after)) = sym none ∙ e in
        absurd (cc)

    by_brace : (b : Bool) → (c == 123) ≡ b → property_at (name ++ rest) ≡ Ok (name, rest)
    by_brace true h = by_length (nat_lt (length (take_while is_open (c ∷ cs))) (length (c ∷ cs))) refl h
    by_brace false h =
        let is : name ≡ c ∷ [] = read_same e (one_char c cs h) in
        subst (λ n. property_at (n ++ rest) ≡ Ok (n, rest)) (sym is) (one_char c rest h)

-- ---- escapes

-- the piece is written as it is read again, or by a number
abbrev pub Settles : ClassPlace → Text → ClassPlace → Type 0
Settles p piece q = Pieces p piece q ⊎ (is_rewritten (ClassText piece) ≡ true)

abbrev HasPiece : ClassPlace → Read Text → Type 0
HasPiece p (Ok e) = Settles p e.0 (inner p)
HasPiece p (Err e) = Unit {0}

abbrev NoLetter : ℕ → Type 0
NoLetter c = ((c == 120) ≡ false) × ((c == 117) ≡ false) × ((c == 85) ≡ false) × ((c == 112) ≡ false) × ((c == 80) ≡ false)

escape_again : (c : ℕ) (rest : Text) → NoLetter c → class_escape_at (c ∷ rest) ≡ other_class_escape_at c (c ∷ rest) rest
unfolding class_escape_at
escape_again c rest h =
    not_if (c == 120) _ _ h.0 ∙ not_if (c == 117) _ _ h.1 ∙ not_if (c == 85) _ _ h.2 ∙ not_if (c == 112) _ _ h.3 ∙ not_if (c == 80) _ _ h.4

escape_read : (p : ClassPlace) (text rest piece : Text) → class_escape_at text ≡ Ok (piece, rest) → class_item_at p (92 ∷ text) ≡ Ok (piece_item piece (inner p), rest)
unfolding class_item_at
escape_read p text rest piece e = ap (λ r. r >>= λ x. Ok (piece_item x.0 (inner p), x.1)) e

kept_again : (c : ℕ) (text rest : Text) → is_kept c ≡ true → other_class_escape_at c text rest ≡ Ok (92 ∷ c ∷ [], rest)
unfolding other_class_escape_at
kept_again c text rest h = is_if (is_kept c) _ _ h

own_again : (c : ℕ) (text rest piece : Text) → is_kept c ≡ false → fixed_escape c ≡ None → own_piece c ≡ Some piece →
    other_class_escape_at c text rest ≡ Ok (piece, rest)
unfolding other_class_escape_at
own_again c text rest piece kept fixed own =
    not_if (is_kept c) _ _ kept
    ∙ ap {A = Option Text} {B = Read Text} (λ o. elim o [
      | Some piece ↦ Ok (piece, rest)
      | None ↦ elim (own_piece c) [ Some piece ↦ Ok (piece, rest) | None ↦ Err (fault_at InvalidEscape text) ]
    ]) fixed
    ∙ ap {A = Option Text} {B = Read Text} (λ o. elim o [ Some piece ↦ Ok (piece, rest) | None ↦ Err (fault_at InvalidEscape text) ]) own

escaped_piece : (p : ClassPlace) (c : ℕ) → Inside p → ((rest : Text) → class_escape_at (c ∷ rest) ≡ Ok (92 ∷ c ∷ [], rest)) →
    Pieces p (92 ∷ c ∷ []) (inner p)
escaped_piece p c deep is = a_piece (record { inside = deep; read = λ rest. escape_read p (c ∷ rest) rest (92 ∷ c ∷ []) (is rest) }) no_piece

fixed_piece : (p : ClassPlace) → Inside p → (c : ℕ) (piece : Text) → fixed_escape c ≡ Some piece → Settles p piece (inner p)
fixed_piece p deep c piece e = by_h (c == 104) e
  where
    hex : Settles p (codes "0-9A-Fa-f") (inner p)
    hex = inl (hex_pieces p deep)

    not_hex : Settles p (codes "[^0-9A-Fa-f]") (inner p)
    not_hex = inl (not_hex_pieces p deep)

    same : (t : Text) → Some t ≡ Some piece → Settles p t (inner p) → Settles p piece (inner p)
    same t is s = let same : t ≡ piece = cc in subst (λ l. Settles p l (inner p)) same s

    by_e : (b : Bool) → (if b then Some (codes "\\x1B") else None) ≡ Some piece → Settles p piece (inner p)
    by_e true e = same (codes "\\x1B") e (inr refl)
    by_e false e = absurd (cc)

    by_b : (b : Bool) → (if b then Some (codes "\\x08") else if c == 101 then Some (codes "\\x1B") else None) ≡ Some piece → Settles p piece (inner p)
    by_b true e = same (codes "\\x08") e (inr refl)
    by_b false e = by_e (c == 101) e

    by_not : (b : Bool) → (if b then Some (codes "[^0-9A-Fa-f]")
        else if c == 98 then Some (codes "\\x08")
        else if c == 101 then Some (codes "\\x1B")
        else None) ≡ Some piece → Settles p piece (inner p)
    by_not true e = same (codes "[^0-9A-Fa-f]") e not_hex
    by_not false e = by_b (c == 98) e

    by_h : (b : Bool) → (if b then Some (codes "0-9A-Fa-f")
        else if c == 72 then Some (codes "[^0-9A-Fa-f]")
        else if c == 98 then Some (codes "\\x08")
        else if c == 101 then Some (codes "\\x1B")
        else None) ≡ Some piece → Settles p piece (inner p)
    by_h true e = same (codes "0-9A-Fa-f") e hex
    by_h false e = by_not (c == 72) e

-- it needs no backslash for `regex`
abbrev is_bare : ℕ → Bool
is_bare c = c == 60 || c == 62 || not (is_ascii c)

differs : (k : ℕ) → is_bare k ≡ false → (c : ℕ) → is_bare c ≡ true → (c == k) ≡ false
differs k missing c h = by_test (c == k) refl
  where
    by_test : (b : Bool) → (c == k) ≡ b → b ≡ false
    by_test true e = absurd (true≢false (sym (subst (λ x. is_bare x ≡ true) (eqb-true c k e) h) ∙ missing))
    by_test false e = refl

own_settles : (p : ClassPlace) → Inside p → (c : ℕ) (piece : Text) → NoLetter c → is_kept c ≡ false → fixed_escape c ≡ None → own_piece c ≡ Some piece →
    Settles p piece (inner p)
own_settles p deep c piece letter kept fixed own = by_letter (is_ascii_alphanumeric c) refl
  where
    by_bare : (b : Bool) → is_bare c ≡ b → own_piece c ≡ (if b then Some (c ∷ []) else Some (92 ∷ c ∷ [])) → Settles p piece (inner p)
    by_bare true h is =
        let e : Some (c ∷ []) ≡ Some piece = sym is ∙ own in
        let same : c ∷ [] ≡ piece = cc in
        inl (subst (λ l. Pieces p l (inner p)) same
        (plain_piece p c deep (differs 92 refl c h) (differs 91 refl c h) (differs 93 refl c h) (differs 94 refl c h)))
    by_bare false h is =
        let e : Some (92 ∷ c ∷ []) ≡ Some piece = sym is ∙ own in
        let same : 92 ∷ c ∷ [] ≡ piece = cc in
        inl (subst (λ l. Pieces p l (inner p)) same
        (escaped_piece p c deep (λ rest. escape_again c rest letter ∙ own_again c (c ∷ rest) rest (92 ∷ c ∷ []) kept fixed is)))

    by_letter : (b : Bool) → is_ascii_alphanumeric c ≡ b → Settles p piece (inner p)
    by_letter true h =
        let none : own_piece c ≡ None = is_if (is_ascii_alphanumeric c) _ _ h in
        let e : ◌≡◌ {A = Option Text} None (Some piece) = sym none ∙ own in
        absurd (cc)
    by_letter false h = by_bare (is_bare c) refl (not_if (is_ascii_alphanumeric c) _ _ h)

other_settles : (p : ClassPlace) → Inside p → (c : ℕ) (text after : Text) → NoLetter c → HasPiece p (other_class_escape_at c text after)
unfolding other_class_escape_at
other_settles p deep c text after letter = by_kept (is_kept c) refl
  where
    by_own : is_kept c ≡ false → fixed_escape c ≡ None → (o : Option Text) → own_piece c ≡ o → HasPiece p (elim o [
      | Some piece ↦ Ok (piece, after)
      | None ↦ Err (fault_at InvalidEscape text)
    ])
    by_own kept fixed (Some piece) e = own_settles p deep c piece letter kept fixed e
    by_own kept fixed None e = tt

    by_fixed : is_kept c ≡ false → (o : Option Text) → fixed_escape c ≡ o → HasPiece p (elim o [
      | Some piece ↦ Ok (piece, after)
      | None ↦ elim (own_piece c) [ Some piece ↦ Ok (piece, after) | None ↦ Err (fault_at InvalidEscape text) ]
    ])
    by_fixed kept (Some piece) e = fixed_piece p deep c piece e
    by_fixed kept None e = by_own kept e (own_piece c) refl

    by_kept : (b : Bool) → is_kept c ≡ b → HasPiece p (if b then Ok (92 ∷ c ∷ [], after) else elim (fixed_escape c) [
      | Some piece ↦ Ok (piece, after)
      | None ↦ elim (own_piece c) [ Some piece ↦ Ok (piece, after) | None ↦ Err (fault_at InvalidEscape text) ]
    ])
    by_kept true h = inl (escaped_piece p c deep (λ rest. escape_again c rest letter ∙ kept_again c (c ∷ rest) rest h))
    by_kept false h = by_fixed h (fixed_escape c) refl

-- a character by its number
abbrev IsCharacter : Read ℕ → Type 0
IsCharacter (Ok c) = scalar c.0 ≡ true
IsCharacter (Err e) = Unit {0}

char_scalar : (digits : Text) (c : ℕ) → char_of digits ≡ Some c → scalar c ≡ true
char_scalar digits c e = by_number (number_of 16 digits) e
  where
    by_test : (n : ℕ) (b : Bool) → scalar n ≡ b → (if b then Some n else None) ≡ Some c → scalar c ≡ true
    by_test n true is e = let same : n ≡ c = cc in subst (λ k. scalar k ≡ true) same is
    by_test n false is e = absurd (cc)

    by_number : (o : Option ℕ) → option_and_then (λ n. if scalar n then Some n else None) o ≡ Some c → scalar c ≡ true
    by_number None e = absurd (cc)
    by_number (Some n) e = by_test n (scalar n) refl e

found_character : (digits text rest : Text) → IsCharacter (elim (char_of digits) [
  | Some c ↦ Ok (c, rest)
  | None ↦ Err (fault_at InvalidCodepointValue text)
])
found_character digits text rest = by_char (char_of digits) refl
  where
    by_char : (o : Option ℕ) → char_of digits ≡ o → IsCharacter (elim o [ Some c ↦ Ok (c, rest) | None ↦ Err (fault_at InvalidCodepointValue text) ])
    by_char (Some c) e = char_scalar digits c e
    by_char None e = tt

bare_character : (count : ℕ) (text : Text) → IsCharacter (bare_hex_at count text)
unfolding bare_hex_at
bare_character count text = by_length (nat_lt (length (take_while is_hex text)) count)
  where
    by_length : (b : Bool) → IsCharacter (if b then Err (fault_at InvalidHex (skip_run is_hex text)) else elim (char_of (take count text)) [
      | Some c ↦ Ok (c, drop count text)
      | None ↦ Err (fault_at InvalidCodepointValue text)
    ])
    by_length true = tt
    by_length false = found_character (take count text) text (drop count text)

braced_character : (text : Text) → IsCharacter (braced_hex_at text)
unfolding braced_hex_at
braced_character text = by_length (nat_lt 8 (length (take_while is_hex text)))
  where
    by_brace : (b : Bool) (rest : Text) → IsCharacter (if b then elim (char_of (take_while is_hex text)) [
      | Some c ↦ Ok (c, rest)
      | None ↦ Err (fault_at InvalidCodepointValue text)
    ] else Err (fault_at InvalidHex (skip_run is_hex text)))
    by_brace true rest = found_character (take_while is_hex text) text rest
    by_brace false rest = tt

    by_rest : (o : Option (ℕ × Text)) → IsCharacter (elim o [
      | None ↦ Err (fault_at InvalidHex (skip_run is_hex text))
      | Some p ↦ if p.0 == 125 && not (length (take_while is_hex text) == 0)
          then elim (char_of (take_while is_hex text)) [
            | Some c ↦ Ok (c, p.1)
            | None ↦ Err (fault_at InvalidCodepointValue text)
          ]
          else Err (fault_at InvalidHex (skip_run is_hex text))
    ])
    by_rest None = tt
    by_rest (Some p) = by_brace (p.0 == 125 && not (length (take_while is_hex text) == 0)) p.1

    by_length : (b : Bool) → IsCharacter (if b then Err (fault_at InvalidHex (drop 8 text)) else elim (uncons (skip_run is_hex text)) [
      | None ↦ Err (fault_at InvalidHex (skip_run is_hex text))
      | Some p ↦ if p.0 == 125 && not (length (take_while is_hex text) == 0)
          then elim (char_of (take_while is_hex text)) [
            | Some c ↦ Ok (c, p.1)
            | None ↦ Err (fault_at InvalidCodepointValue text)
          ]
          else Err (fault_at InvalidHex (skip_run is_hex text))
    ])
    by_length true = tt
    by_length false = by_rest (uncons (skip_run is_hex text))

hex_character : (count : ℕ) (text : Text) → IsCharacter (hex_at count text)
unfolding hex_at
hex_character count [] = bare_character count []
hex_character count (c ∷ cs) = by_brace (c == 123)
  where
    by_brace : (b : Bool) → IsCharacter (if b then braced_hex_at cs else bare_hex_at count (c ∷ cs))
    by_brace true = braced_character cs
    by_brace false = bare_character count (c ∷ cs)

abbrev as_code : Read ℕ → Read Text
as_code r = r >>= λ c. Ok (code_text c.0, c.1)

code_read : (c : ℕ) (rest : Text) → scalar c ≡ true →
    class_escape_at (120 ∷ 123 ∷ ((hex_digits c ++ 125 ∷ []) ++ rest)) ≡ Ok (code_text c, rest)
unfolding class_escape_at coded_at hex_at
code_read c rest is = ap as_code (ap braced_hex_at (append_assoc (hex_digits c) (125 ∷ []) rest) ∙ code_again c rest is)

code_piece : (p : ClassPlace) → Inside p → (c : ℕ) → scalar c ≡ true → Pieces p (code_text c) (inner p)
code_piece p deep c is =
    subst (λ l. Pieces p l (inner p)) (append-nil (code_text c)) (a_piece (record {
      inside = deep;
      read = λ rest. escape_read p (120 ∷ 123 ∷ ((hex_digits c ++ 125 ∷ []) ++ rest)) rest (code_text c) (code_read c rest is);
    }) no_piece)

coded_settles : (p : ClassPlace) → Inside p → (r : Read ℕ) → IsCharacter r → HasPiece p (r >>= λ c. Ok (code_text c.0, c.1))
coded_settles p deep (Ok c) h = inl (code_piece p deep c.0 h)
coded_settles p deep (Err e) h = tt

property_escape : (c : ℕ) (rest name : Text) → (c == 112 || c == 80) ≡ true → property_at (name ++ rest) ≡ Ok (name, rest) →
    class_escape_at (c ∷ (name ++ rest)) ≡ Ok (92 ∷ c ∷ name, rest)
unfolding class_escape_at kept_set_at
property_escape c rest name h is = by_letter (c == 112) (c == 80) refl refl h
  where
    by_letter : (a b : Bool) → (c == 112) ≡ a → (c == 80) ≡ b → (a || b) ≡ true → class_escape_at (c ∷ (name ++ rest)) ≡ Ok (92 ∷ c ∷ name, rest)
    by_letter true b e d t =
        subst (λ k. class_escape_at (k ∷ (name ++ rest)) ≡ Ok (92 ∷ k ∷ name, rest)) (sym (eqb-true c 112 e))
        (ap (λ r. r >>= λ x. Ok (92 ∷ 112 ∷ x.0, x.1)) is)
    by_letter false true e d t =
        subst (λ k. class_escape_at (k ∷ (name ++ rest)) ≡ Ok (92 ∷ k ∷ name, rest)) (sym (eqb-true c 80 d))
        (ap (λ r. r >>= λ x. Ok (92 ∷ 80 ∷ x.0, x.1)) is)
    by_letter false false e d t = absurd (true≢false (sym t))

property_settles : (p : ClassPlace) → Inside p → (c : ℕ) (text : Text) → (c == 112 || c == 80) ≡ true → HasPiece p (kept_set_at c text)
unfolding kept_set_at
property_settles p deep c text h = by_name (property_at text) refl
  where
    by_name : (r : Read Text) → property_at text ≡ r → HasPiece p (r >>= λ name. Ok (92 ∷ c ∷ name.0, name.1))
    by_name (Ok (name, after)) e =
        inl (subst (λ l. Pieces p l (inner p)) (append-nil (92 ∷ c ∷ name)) (a_piece (record {
          inside = deep;
          read = λ rest. escape_read p (c ∷ (name ++ rest)) rest (92 ∷ c ∷ name) (property_escape c rest name h (property_again text name after e rest));
        }) no_piece))
    by_name (Err x) e = tt

pub escape_settles : (p : ClassPlace) → Inside p → (text : Text) → HasPiece p (class_escape_at text)
unfolding class_escape_at coded_at
escape_settles p deep [] = tt
escape_settles p deep (c ∷ cs) = by_x (c == 120) refl
  where
    by_big : (b : Bool) → (c == 80) ≡ b → (c == 120) ≡ false → (c == 117) ≡ false → (c == 85) ≡ false → (c == 112) ≡ false →
        HasPiece p (if b then kept_set_at c cs else other_class_escape_at c (c ∷ cs) cs)
    by_big true e h i j k = property_settles p deep c cs (or_right (c == 112) (c == 80) e)
    by_big false e h i j k = other_settles p deep c (c ∷ cs) cs (h, i, j, k, e)

    by_small : (b : Bool) → (c == 112) ≡ b → (c == 120) ≡ false → (c == 117) ≡ false → (c == 85) ≡ false →
        HasPiece p (if b then kept_set_at c cs else if c == 80 then kept_set_at c cs else other_class_escape_at c (c ∷ cs) cs)
    by_small true e h i j = property_settles p deep c cs (or_left (c == 112) (c == 80) e)
    by_small false e h i j = by_big (c == 80) refl h i j e

    by_long : (b : Bool) → (c == 85) ≡ b → (c == 120) ≡ false → (c == 117) ≡ false →
        HasPiece p (if b then (hex_at 8 cs >>= λ x. Ok (code_text x.0, x.1))
        else if c == 112 then kept_set_at c cs
        else if c == 80 then kept_set_at c cs
        else other_class_escape_at c (c ∷ cs) cs)
    by_long true e h i = coded_settles p deep (hex_at 8 cs) (hex_character 8 cs)
    by_long false e h i = by_small (c == 112) refl h i e

    by_u : (b : Bool) → (c == 117) ≡ b → (c == 120) ≡ false →
        HasPiece p (if b then (hex_at 4 cs >>= λ x. Ok (code_text x.0, x.1))
        else if c == 85 then (hex_at 8 cs >>= λ x. Ok (code_text x.0, x.1))
        else if c == 112 then kept_set_at c cs
        else if c == 80 then kept_set_at c cs
        else other_class_escape_at c (c ∷ cs) cs)
    by_u true e h = coded_settles p deep (hex_at 4 cs) (hex_character 4 cs)
    by_u false e h = by_long (c == 85) refl h e

    by_x : (b : Bool) → (c == 120) ≡ b →
        HasPiece p (if b then (hex_at 2 cs >>= λ x. Ok (code_text x.0, x.1))
        else if c == 117 then (hex_at 4 cs >>= λ x. Ok (code_text x.0, x.1))
        else if c == 85 then (hex_at 8 cs >>= λ x. Ok (code_text x.0, x.1))
        else if c == 112 then kept_set_at c cs
        else if c == 80 then kept_set_at c cs
        else other_class_escape_at c (c ∷ cs) cs)
    by_x true e = coded_settles p deep (hex_at 2 cs) (hex_character 2 cs)
    by_x false e = by_u (c == 117) refl e

-- ---- tokens of a class

-- what a token of a class leads to
abbrev pub Leads : ClassPlace → Token → ClassPlace → Type 0
Leads p (ClassText text) q = ((q.depth == 0) ≡ false) × Settles p text q
Leads p ClassClose q = IsLast p
Leads p t q = ⊥

abbrev HasLeads : ClassPlace → Read ClassItem → Type 0
HasLeads p (Ok i) = Leads p i.0.token i.0.place
HasLeads p (Err e) = Unit {0}

escape_leads : (p : ClassPlace) → Inside p → (r : Read Text) → HasPiece p r → HasLeads p (r >>= λ e. Ok (piece_item e.0 (inner p), e.1))
escape_leads p deep (Ok e) h = (deep, h)
escape_leads p deep (Err e) h = tt

only_one : (n : ℕ) → (n == 0) ≡ false → nat_le n 1 ≡ true → n ≡ 1
only_one n some le = let a : n ≡ 0 → ⊥ = λ e. eqb-false n 0 some e in let b = leb-true n 1 le in omega (arith, a, b)

deeper : (n : ℕ) → nat_le n 1 ≡ false → ((n - 1) == 0) ≡ false
deeper n h = let more : 1 < n = grind (arith, nat_tests) in ne_eqb (n - 1) 0 (λ e. omega (arith, e, more))

bracket_leads : (p : ClassPlace) → Inside p → Leads p (bracket p).token (bracket p).place
bracket_leads p deep = by_head p.head refl
  where
    again : Pieces p (92 ∷ 93 ∷ []) (inner p)
    again = a_piece (record { inside = deep; read = escaped_bracket_read p }) no_piece

    by_depth : p.head ≡ head.Inner → (b : Bool) → nat_le p.depth 1 ≡ b →
        let i : ClassItem = if b then (record { token = ClassClose; place = record { depth = p.depth - 1; head = head.Inner } })
        else piece_item (93 ∷ []) (record { depth = p.depth - 1; head = head.Inner }) in
        Leads p i.token i.place
    by_depth at true e = record { inside = deep; read = λ rest. last_read p rest at (only_one p.depth deep e) }
    by_depth at false e =
        (deeper p.depth e, inl (a_piece (record { inside = deep; read = λ rest. close_read p rest at e }) no_piece))

    by_head : (h : Head) → p.head ≡ h →
        let i : ClassItem = elim h [
          | head.Start ↦ piece_item (92 ∷ 93 ∷ []) (inner p)
          | head.Caret ↦ piece_item (92 ∷ 93 ∷ []) (inner p)
          | head.Inner ↦ closing_bracket p
        ] in
        Leads p i.token i.place
    by_head head.Start at = (deep, inl again)
    by_head head.Caret at = (deep, inl again)
    by_head head.Inner at = by_depth at (nat_le p.depth 1) refl

caret_depth : (p : ClassPlace) → (caret p).depth ≡ p.depth
caret_depth p = by_head p.head
  where
    by_head : (h : Head) →
        let q : ClassPlace = elim h [
          | head.Start ↦ record p { head = head.Caret }
          | head.Caret ↦ inner p
          | head.Inner ↦ inner p
        ] in
        q.depth ≡ p.depth
    by_head head.Start = refl
    by_head head.Caret = refl
    by_head head.Inner = refl

pub item_leads : (p : ClassPlace) → Inside p → (text : Text) → HasLeads p (class_item_at p text)
unfolding class_item_at
item_leads p deep [] = tt
item_leads p deep (c ∷ cs) = by_escape (c == 92) refl
  where
    by_caret : (b : Bool) → (c == 94) ≡ b → (c == 92) ≡ false → (c == 91) ≡ false → (c == 93) ≡ false →
        HasLeads p (if b then Ok (piece_item (c ∷ []) (caret p), cs) else Ok (piece_item (c ∷ []) (inner p), cs))
    by_caret true e h i j = (
      ap (λ d. d == 0) (caret_depth p) ∙ deep,
      inl (subst (λ k. Pieces p (k ∷ []) (caret p)) (sym (eqb-true c 94 e)) (caret_piece p deep)),
    )
    by_caret false e h i j = (deep, inl (plain_piece p c deep h i j e))

    by_close : (b : Bool) → (c == 93) ≡ b → (c == 92) ≡ false → (c == 91) ≡ false →
        HasLeads p (if b then Ok (bracket p, cs)
        else if c == 94 then Ok (piece_item (c ∷ []) (caret p), cs)
        else Ok (piece_item (c ∷ []) (inner p), cs))
    by_close true e h i = bracket_leads p deep
    by_close false e h i = by_caret (c == 94) refl h i e

    by_open : (b : Bool) → (c == 91) ≡ b → (c == 92) ≡ false →
        HasLeads p (if b then Ok (piece_item (c ∷ []) (record { depth = p.depth + 1; head = head.Start }), cs)
        else if c == 93 then Ok (bracket p, cs)
        else if c == 94 then Ok (piece_item (c ∷ []) (caret p), cs)
        else Ok (piece_item (c ∷ []) (inner p), cs))
    by_open true e h = (
      ne_eqb (p.depth + 1) 0 (λ z. omega (arith, z)),
      inl (subst (λ k. Pieces p (k ∷ []) (record { depth = p.depth + 1; head = head.Start })) (sym (eqb-true c 91 e)) (open_piece p deep)),
    )
    by_open false e h = by_close (c == 93) refl h e

    by_escape : (b : Bool) → (c == 92) ≡ b →
        HasLeads p (if b then (class_escape_at cs >>= λ e. Ok (piece_item e.0 (inner p), e.1))
        else if c == 91 then Ok (piece_item (c ∷ []) (record { depth = p.depth + 1; head = head.Start }), cs)
        else if c == 93 then Ok (bracket p, cs)
        else if c == 94 then Ok (piece_item (c ∷ []) (caret p), cs)
        else Ok (piece_item (c ∷ []) (inner p), cs))
    by_escape true e = escape_leads p deep (class_escape_at cs) (escape_settles p deep cs)
    by_escape false e = by_open (c == 91) refl e
