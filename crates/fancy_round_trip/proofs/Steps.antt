-- The steps of the lexer: one token of a text, and what is lexed behind it.
use Rattle.std.proofs.Common.{◌≡◌, ℕ, ◌+◌, ◌<◌, ◌≤◌, Bool, true, false, List, [], ◌∷◌, ◌++◌, length, Option, Some, None, Result, Ok, Err, if◌then◌else◌, ◌==◌, nat_lt, refl, sym, ap, ◌∙◌, arith}
use Rattle.std.proofs.lemmas.Bool.{le-ltb, eqb-false}
use Rattle.fancy_meaning.specs.Tree.{Tree}
use Rattle.fancy_meaning.specs.WellFormed.{most_groups}
use Rattle.fancy_tokens.specs.declared.error.Fault.{Fault}
use Rattle.fancy_tokens.specs.declared.error.ErrorKind.TheVariants.{GeneralParseError}
use Rattle.fancy_tokens.specs.declared.lexing.ClassPlace.{ClassPlace}
use Rattle.fancy_tokens.specs.declared.flags.Flags.{Flags}
use Rattle.fancy_tokens.specs.declared.lexing.Lexing.{Lexing}
use Rattle.fancy_tokens.specs.declared.tokens.Quantifier.{Quantifier}
use Rattle.fancy_pattern.specs.Texts.{Text, fault_at, ◌>>=◌, gap_at, blank_at, comment_end}
use Rattle.fancy_tokens.specs.Tokens.{Opening, Token, Node, Open, Bar, Close, Quantified, ClassOpen, ClassText, ClassClose, Placed, placed, item}
use Rattle.fancy_pattern.specs.Classes.{class_item_at}
use Rattle.fancy_pattern.specs.Items.{Found, found_at, outside_at, within_at, item_at, class_of}
use Rattle.fancy_tokens.specs.Nesting.{opened_by, group_opened_by}
use Rattle.fancy_pattern.specs.Lexing.{State, Lexes, token}
use Rattle.fancy_tokens.specs.Nesting.{GoesBy, levels, around_it, most_nested}
use Rattle.fancy_pattern.proofs.EscapedTokens.{not_if}
use Rattle.fancy_round_trip.specs.ClassTexts.{at_head, outside, IsPiece, IsLast}

pub is_if : {A : Type 0} (b : Bool) (x y : A) → b ≡ true → (if b then x else y) ≡ x
is_if b x y e = ap (λ t. if t then x else y) e

-- ---- states

abbrev pub inside : Flags → List Flags → ℕ → ClassPlace → State
inside f outer n p = record { now = record { flags = f; opened = n; class = p }; outer = outer }

-- outside of classes
abbrev pub at : Flags → List Flags → ℕ → State
at f outer n = inside f outer n outside

abbrev pub behind : Flags → ℕ → Token → Lexing
behind f n t = record { flags = f; opened = n; class = class_of t }

-- the flags with which a pattern text begins
abbrev pub base : Bool → Flags
base unicode =
    record {
      casei = false;
      multi_line = false;
      dot_all = false;
      ignore_whitespace = false;
      crlf = false;
      swap_greed = false;
      unicode = unicode;
      oniguruma = false;
      named_only = false;
    }

-- ---- tokens outside of classes

pub found_item : (f g : Flags) (n m : ℕ) (text after : Text) (t : Token) → item_at f n text ≡ Ok (item g t, after) → n + opened_by t ≡ m →
    m ≤ most_groups → found_at (at f [] n).now text ≡ Ok (record { token = t; behind = behind g m t }, after)
unfolding found_at outside_at
found_item f g n m text after t e opens few =
    ap
    (λ r. r
    >>= λ i. if nat_lt most_groups (n + opened_by i.0.token) then Err (fault_at GeneralParseError text)
    else Ok (
      record {
        token = i.0.token;
        behind = record { flags = i.0.flags; opened = n + opened_by i.0.token; class = class_of i.0.token };
      },
      i.1,
    ))
    e
    ∙ ap {B = Result (Found × Text) Fault}
    (λ k. if nat_lt most_groups k then Err (fault_at GeneralParseError text)
    else Ok (record { token = t; behind = record { flags = g; opened = k; class = class_of t } }, after)) opens
    ∙ not_if (nat_lt most_groups m) _ _ (le-ltb most_groups m few)

pub step : (f g : Flags) (outer : List Flags) (n m : ℕ) (text after : Text) (t : Token) (ts : List Placed) (next : State) → 0 < length text →
    gap_at f.ignore_whitespace text ≡ None → item_at f n text ≡ Ok (item g t, after) → n + opened_by t ≡ m → m ≤ most_groups →
    GoesBy t outer f (behind g m t) (length text) (Ok next.now) next.outer → Lexes next after ts → Lexes (at f outer n) text (placed (length text) t ∷ ts)
step f g outer n m text after t ts next some no_gap is opens few goes more =
    token {found = record { token = t; behind = behind g m t }} {next = next} (record { some = λ _. some; no_gap = λ _. no_gap })
    (found_item f g n m text after t is opens few) goes more

-- an atom that is a node
pub node_step : (f : Flags) (outer : List Flags) (n : ℕ) (text after : Text) (e : Tree) (ts : List Placed) → 0 < length text →
    gap_at f.ignore_whitespace text ≡ None → item_at f n text ≡ Ok (item f (Node e), after) → n ≤ most_groups → Lexes (at f outer n) after ts →
    Lexes (at f outer n) text (placed (length text) (Node e) ∷ ts)
node_step f outer n text after e ts some no_gap is few more =
    step f f outer n n text after (Node e) ts (at f outer n) some no_gap is (omega arith) few (refl, refl) more

pub quantifier_step : (f : Flags) (outer : List Flags) (n : ℕ) (text after : Text) (q : Quantifier) (greedy : Bool) (ts : List Placed) → 0 < length text →
    gap_at f.ignore_whitespace text ≡ None → item_at f n text ≡ Ok (item f (Quantified q greedy), after) → n ≤ most_groups → Lexes (at f outer n) after ts →
    Lexes (at f outer n) text (placed (length text) (Quantified q greedy) ∷ ts)
quantifier_step f outer n text after q greedy ts some no_gap is few more =
    step f f outer n n text after (Quantified q greedy) ts (at f outer n) some no_gap is (omega arith) few (refl, refl) more

pub open_step : (f g : Flags) (outer : List Flags) (n m : ℕ) (text after : Text) (o : Opening) (ts : List Placed) → 0 < length text →
    gap_at f.ignore_whitespace text ≡ None → item_at f n text ≡ Ok (item g (Open o), after) → n + group_opened_by o ≡ m → m ≤ most_groups →
    length outer + levels o ≤ most_nested → around_it o f ≡ f ∷ [] → Lexes (at g (outer ++ f ∷ []) m) after ts →
    Lexes (at f outer n) text (placed (length text) (Open o) ∷ ts)
open_step f g outer n m text after o ts some no_gap is opens few deep one more =
    step f g outer n m text after (Open o) ts (at g (outer ++ f ∷ []) m) some no_gap is opens few ((deep, ap (λ l. outer ++ l) (sym one)), refl) more

no_gap_close : (x : Bool) (rest : Text) → gap_at x (41 ∷ rest) ≡ None
no_gap_close true rest = refl
no_gap_close false rest = refl

close_item : (g : Flags) (n : ℕ) (rest : Text) → item_at g n (41 ∷ rest) ≡ Ok (item g Close, rest)
unfolding item_at
close_item g n rest = refl

-- a group ends, and the flags around it hold again
pub close_step : (f g : Flags) (outer : List Flags) (n : ℕ) (rest : Text) (ts : List Placed) → n ≤ most_groups → Lexes (at f outer n) rest ts →
    Lexes (at g (outer ++ f ∷ []) n) (41 ∷ rest) (placed (length (41 ∷ rest)) Close ∷ ts)
close_step f g outer n rest ts few more =
    step g g (outer ++ f ∷ []) n n (41 ∷ rest) rest Close ts (at f outer n) (omega arith) (no_gap_close g.ignore_whitespace rest) (close_item g n rest)
    (omega arith) few (refl, refl) more

bar_item : (unicode : Bool) (n : ℕ) (rest : Text) → item_at (base unicode) n (124 ∷ rest) ≡ Ok (item (base unicode) Bar, rest)
unfolding item_at
bar_item unicode n rest = refl

pub bar_step : (unicode : Bool) (outer : List Flags) (n : ℕ) (rest : Text) (ts : List Placed) → n ≤ most_groups → Lexes (at (base unicode) outer n) rest ts →
    Lexes (at (base unicode) outer n) (124 ∷ rest) (placed (length (124 ∷ rest)) Bar ∷ ts)
bar_step unicode outer n rest ts few more =
    let f = base unicode in
    step f f outer n n (124 ∷ rest) rest Bar ts (at f outer n) (omega arith) refl (bar_item unicode n rest) (omega arith) few (refl, refl) more

-- ---- gaps

-- no gap begins with another character than a parenthesis
pub no_gap_at : (c : ℕ) (rest : Text) → (c == 40) ≡ false → gap_at false (c ∷ rest) ≡ None
no_gap_at c rest h =
    ap {A = Option Text} (λ o. elim o [ Some after ↦ comment_end false after | None ↦ blank_at false (c ∷ rest) ]) (not_if (c == 40) _ _ h)

-- ---- tokens of classes

no_class_group : (f : Flags) (n : ℕ) (rest : Text) → item_at f n (91 ∷ rest) ≡ Ok (item f (ClassOpen f.casei), rest)
unfolding item_at
no_class_group f n rest = refl

no_gap_bracket : (x : Bool) (rest : Text) → gap_at x (91 ∷ rest) ≡ None
no_gap_bracket true rest = refl
no_gap_bracket false rest = refl

pub class_open_step : (f : Flags) (outer : List Flags) (n : ℕ) (rest : Text) (ts : List Placed) → n ≤ most_groups → Lexes (inside f outer n at_head) rest ts →
    Lexes (at f outer n) (91 ∷ rest) (placed (length (91 ∷ rest)) (ClassOpen f.casei) ∷ ts)
class_open_step f outer n rest ts few more =
    step f f outer n n (91 ∷ rest) rest (ClassOpen f.casei) ts (inside f outer n at_head) (omega arith) (no_gap_bracket f.ignore_whitespace rest)
    (no_class_group f n rest) (omega arith) few (refl, refl) more

found_within : (f : Flags) (n : ℕ) (p q : ClassPlace) (text after : Text) (t : Token) → (p.depth == 0) ≡ false →
    class_item_at p text ≡ Ok (record { token = t; place = q }, after) →
    found_at (inside f [] n p).now text ≡ Ok (record { token = t; behind = record { flags = f; opened = n; class = q } }, after)
unfolding found_at within_at
found_within f n p q text after t deep e =
    not_if (p.depth == 0) _ _ deep
    ∙ ap (λ r. r >>= λ i. Ok (record { token = i.0.token; behind = record { flags = f; opened = n; class = i.0.place } }, i.1)) e

pub class_text_step : (f : Flags) (outer : List Flags) (n : ℕ) (p q : ClassPlace) (piece after : Text) (ts : List Placed) → IsPiece p piece q →
    Lexes (inside f outer n q) after ts →
    Lexes (inside f outer n p) (piece ++ after) (placed (length (piece ++ after)) (ClassText piece) ∷ ts)
class_text_step f outer n p q piece after ts is more =
    token {found = record { token = ClassText piece; behind = record { flags = f; opened = n; class = q } }} {next = inside f outer n q}
    (record { some = λ z. absurd (eqb-false p.depth 0 is.inside z); no_gap = λ z. absurd (eqb-false p.depth 0 is.inside z) })
    (found_within f n p q (piece ++ after) after (ClassText piece) is.inside (is.read after)) (refl, refl) more

pub class_close_step : (f : Flags) (outer : List Flags) (n : ℕ) (p : ClassPlace) (after : Text) (ts : List Placed) → IsLast p →
    Lexes (at f outer n) after ts → Lexes (inside f outer n p) (93 ∷ after) (placed (length (93 ∷ after)) ClassClose ∷ ts)
class_close_step f outer n p after ts is more =
    token {found = record { token = ClassClose; behind = record { flags = f; opened = n; class = outside } }} {next = at f outer n}
    (record { some = λ z. absurd (eqb-false p.depth 0 is.inside z); no_gap = λ z. absurd (eqb-false p.depth 0 is.inside z) })
    (found_within f n p outside (93 ∷ after) after ClassClose is.inside (is.read after)) (refl, refl) more
