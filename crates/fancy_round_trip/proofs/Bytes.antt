-- The bytes of the characters are the pattern text.
use Rattle.std.proofs.Common.{◌≡◌, ℕ, Bool, true, false, List, [], ◌∷◌, ◌++◌, codes, encode_utf8, encode_utf8_all, Option, Some, None, if◌then◌else◌, ◌==◌, ◌&&◌, nat_lt, refl, sym, ap, ◌∙◌, arith, append_assoc}
use Rattle.std.specs.Fmt.{decimal}
use Rattle.std.proofs.Math.Utf8.{encode}
use Rattle.std.proofs.lemmas.Str.{encodes-append, encodes-IsAscii}
use Rattle.std.proofs.lemmas.Fmt.{IsAscii-decimal}
use Prim.Native.String.{String}
use Rattle.regex_syntax.specs.Reading.{◌∈◌}
use Rattle.fancy_meaning.specs.Tree as tree
use Rattle.fancy_meaning.specs.Tree.{Tree, Trees, none, more}
use Rattle.fancy_meaning.specs.WellFormed.{IsCount}
use Rattle.fancy_meaning.specs.PatternText.{Text, wrapped_if, escaped, assertion_text, any_text, bounds_text, joined, text_of, each_text}
use Rattle.fancy_round_trip.specs.ClassTexts.{IsClass}
use Rattle.fancy_round_trip.specs.Returning.{Returns, EachReturns, AreBounds}
use Rattle.fancy_round_trip.proofs.Spelled.{in_brackets_if, spell_char, spell_assertion, spell_any, spell_bounds, spell_suffix, barred, spell, spell_row, spell_bars}

if_bytes : (b : Bool) (x y : List ℕ) (t u r : Text) → encode_utf8_all x ≡ t ++ r → encode_utf8_all y ≡ u ++ r →
    encode_utf8_all (if b then x else y) ≡ (if b then t else u) ++ r
if_bytes true x y t u r h k = h
if_bytes false x y t u r h k = k

-- a closing parenthesis
close_bytes : (rest : List ℕ) → encode_utf8_all (41 ∷ rest) ≡ 41 ∷ encode_utf8_all rest
unfolding encode
close_bytes rest = refl

turned : (a t r : Text) → a ++ (t ++ 41 ∷ r) ≡ (a ++ (t ++ codes ")")) ++ r
turned a t r = ap (λ l. a ++ l) (sym (append_assoc t (41 ∷ []) r)) ∙ sym (append_assoc a (t ++ 41 ∷ []) r)

bracket_bytes : (b : Bool) (before : String) (own : List ℕ → List ℕ) (t : Text) → encode_utf8_all (codes before) ≡ codes before →
    ((rest : List ℕ) → encode_utf8_all (own rest) ≡ t ++ encode_utf8_all rest) → (rest : List ℕ) →
    encode_utf8_all (in_brackets_if b (codes before) own rest) ≡ wrapped_if b before t ++ encode_utf8_all rest
bracket_bytes true before own t ascii is rest =
    encodes-append (codes before) (own (41 ∷ rest))
    ∙ ap (λ l. l ++ encode_utf8_all (own (41 ∷ rest))) ascii
    ∙ ap (λ l. codes before ++ l) (is (41 ∷ rest) ∙ ap (λ l. t ++ l) (close_bytes rest))
    ∙ turned (codes before) t (encode_utf8_all rest)
bracket_bytes false before own t ascii is rest = is rest

fold_ascii : encode_utf8_all (codes "(?i:") ≡ codes "(?i:"
unfolding encode
fold_ascii = refl

plain_ascii : encode_utf8_all (codes "(?:") ≡ codes "(?:"
unfolding encode
plain_ascii = refl

-- ---- leaves

escaped_char : (c : ℕ) (rest : List ℕ) → encode_utf8_all (92 ∷ c ∷ rest) ≡ (92 ∷ encode_utf8 c) ++ encode_utf8_all rest
unfolding encode
escaped_char c rest = refl

char_bytes : (c : ℕ) (rest : List ℕ) → encode_utf8_all (spell_char c rest) ≡ escaped c ++ encode_utf8_all rest
char_bytes c rest =
    if_bytes (c ∈ "\\.+*?()|[]{}^$#") (92 ∷ c ∷ rest) (c ∷ rest) (92 ∷ encode_utf8 c) (encode_utf8 c) (encode_utf8_all rest) (escaped_char c rest) refl

any_bytes : (newline crlf : Bool) (rest : List ℕ) → encode_utf8_all (spell_any newline crlf rest) ≡ any_text newline crlf ++ encode_utf8_all rest
unfolding encode
any_bytes true crlf rest = refl
any_bytes false true rest = refl
any_bytes false false rest = refl

assertion_bytes : (a : tree.Assertion) (rest : List ℕ) → encode_utf8_all (spell_assertion a rest) ≡ assertion_text a ++ encode_utf8_all rest
unfolding encode
assertion_bytes tree.StartText rest = refl
assertion_bytes tree.EndText rest = refl
assertion_bytes (tree.EndTextIgnoreTrailingNewlines crlf) rest = refl
assertion_bytes (tree.StartLine true) rest = refl
assertion_bytes (tree.StartLine false) rest = refl
assertion_bytes (tree.StartLineOniguruma true) rest = refl
assertion_bytes (tree.StartLineOniguruma false) rest = refl
assertion_bytes (tree.EndLine true) rest = refl
assertion_bytes (tree.EndLine false) rest = refl
assertion_bytes tree.LeftWordBoundary rest = refl
assertion_bytes tree.RightWordBoundary rest = refl
assertion_bytes tree.LeftWordHalfBoundary rest = refl
assertion_bytes tree.RightWordHalfBoundary rest = refl
assertion_bytes tree.WordBoundary rest = refl
assertion_bytes tree.NotWordBoundary rest = refl

class_bytes : (inner : List ℕ) (h : IsClass inner) (rest : List ℕ) → encode_utf8_all (h.text ++ rest) ≡ inner ++ encode_utf8_all rest
class_bytes inner h rest = encodes-append h.text rest ∙ ap (λ l. l ++ encode_utf8_all rest) (sym h.bytes)

-- ---- loops

number_bytes : (n : ℕ) → IsCount n → (rest : List ℕ) → encode_utf8_all (decimal n ++ rest) ≡ decimal n ++ encode_utf8_all rest
number_bytes n h rest =
    encodes-append (decimal n) rest ∙ ap (λ l. l ++ encode_utf8_all rest) (encodes-IsAscii (decimal n) (IsAscii-decimal n (omega (arith, h))))

brace_bytes : (rest : List ℕ) → encode_utf8_all (123 ∷ rest) ≡ 123 ∷ encode_utf8_all rest
unfolding encode
brace_bytes rest = refl

comma_bytes : (rest : List ℕ) → encode_utf8_all (44 ∷ rest) ≡ 44 ∷ encode_utf8_all rest
unfolding encode
comma_bytes rest = refl

end_bytes : (rest : List ℕ) → encode_utf8_all (125 ∷ rest) ≡ 125 ∷ encode_utf8_all rest
unfolding encode
end_bytes rest = refl

star_bytes : (rest : List ℕ) → encode_utf8_all (42 ∷ rest) ≡ 42 ∷ encode_utf8_all rest
unfolding encode
star_bytes rest = refl

plus_bytes : (rest : List ℕ) → encode_utf8_all (43 ∷ rest) ≡ 43 ∷ encode_utf8_all rest
unfolding encode
plus_bytes rest = refl

question_bytes : (rest : List ℕ) → encode_utf8_all (63 ∷ rest) ≡ 63 ∷ encode_utf8_all rest
unfolding encode
question_bytes rest = refl

bounds_bytes : (lo : ℕ) (hi : Option ℕ) (rest : List ℕ) → AreBounds lo hi →
    encode_utf8_all (spell_bounds lo hi rest) ≡ bounds_text lo hi ++ encode_utf8_all rest
bounds_bytes lo None rest h =
    let r = encode_utf8_all rest in
    let ds = decimal lo in
    if_bytes (lo == 0) (42 ∷ rest) (if lo == 1 then 43 ∷ rest else 123 ∷ (ds ++ 44 ∷ 125 ∷ rest)) (codes "*")
    (if lo == 1 then codes "+" else codes "{" ++ (ds ++ codes ",}")) r (star_bytes rest)
    (if_bytes (lo == 1) (43 ∷ rest) (123 ∷ (ds ++ 44 ∷ 125 ∷ rest)) (codes "+") (codes "{" ++ (ds ++ codes ",}")) r (plus_bytes rest)
    (brace_bytes (ds ++ 44 ∷ 125 ∷ rest)
    ∙ ap (λ l. 123 ∷ l) (number_bytes lo h.0 (44 ∷ 125 ∷ rest)
    ∙ ap (λ l. ds ++ l) (comma_bytes (125 ∷ rest) ∙ ap (λ l. 44 ∷ l) (end_bytes rest))
    ∙ sym (append_assoc ds (codes ",}") r))))
bounds_bytes lo (Some hi) rest h =
    let r = encode_utf8_all rest in
    let ds = decimal lo in
    let es = decimal hi in
    if_bytes (lo == hi) (123 ∷ (ds ++ 125 ∷ rest)) (if lo == 0 && hi == 1 then 63 ∷ rest else 123 ∷ (ds ++ 44 ∷ (es ++ 125 ∷ rest)))
    (codes "{" ++ (ds ++ codes "}")) (if lo == 0 && hi == 1 then codes "?" else codes "{" ++ ((ds ++ codes "," ++ es) ++ codes "}")) r
    (brace_bytes (ds ++ 125 ∷ rest)
    ∙ ap (λ l. 123 ∷ l) (number_bytes lo h.0 (125 ∷ rest) ∙ ap (λ l. ds ++ l) (end_bytes rest) ∙ sym (append_assoc ds (codes "}") r)))
    (if_bytes (lo == 0 && hi == 1) (63 ∷ rest) (123 ∷ (ds ++ 44 ∷ (es ++ 125 ∷ rest))) (codes "?") (codes "{" ++ ((ds ++ codes "," ++ es) ++ codes "}")) r
    (question_bytes rest)
    (brace_bytes (ds ++ 44 ∷ (es ++ 125 ∷ rest))
    ∙ ap (λ l. 123 ∷ l) (number_bytes lo h.0 (44 ∷ (es ++ 125 ∷ rest))
    ∙ ap (λ l. ds ++ l) (comma_bytes (es ++ 125 ∷ rest) ∙ ap (λ l. 44 ∷ l) (number_bytes hi h.1.1 (125 ∷ rest) ∙ ap (λ l. es ++ l) (end_bytes rest)))
    ∙ both ds es r)))
  where
    both : (ds es r : Text) → ds ++ (44 ∷ (es ++ 125 ∷ r)) ≡ ((ds ++ codes "," ++ es) ++ codes "}") ++ r
    both ds es r =
        sym (append_assoc ds (codes ",") (es ++ 125 ∷ r))
        ∙ sym (append_assoc (ds ++ codes ",") es (125 ∷ r))
        ∙ sym (append_assoc (ds ++ codes "," ++ es) (codes "}") r)

suffix_bytes : (greedy : Bool) (rest : List ℕ) → encode_utf8_all (spell_suffix greedy rest) ≡ (if greedy then [] else codes "?") ++ encode_utf8_all rest
suffix_bytes true rest = refl
suffix_bytes false rest = question_bytes rest

loop_bytes : (lo : ℕ) (hi : Option ℕ) (greedy : Bool) (own : List ℕ → List ℕ) (t : Text) → AreBounds lo hi →
    ((rest : List ℕ) → encode_utf8_all (own rest) ≡ t ++ encode_utf8_all rest) → (rest : List ℕ) →
    encode_utf8_all (own (spell_bounds lo hi (spell_suffix greedy rest)))
    ≡ (t ++ (bounds_text lo hi ++ (if greedy then [] else codes "?"))) ++ encode_utf8_all rest
loop_bytes lo hi greedy own t h is rest =
    let s : Text = if greedy then [] else codes "?" in
    let b = bounds_text lo hi in
    let r = encode_utf8_all rest in
    is (spell_bounds lo hi (spell_suffix greedy rest))
    ∙ ap (λ l. t ++ l) (bounds_bytes lo hi (spell_suffix greedy rest) h ∙ ap (λ l. b ++ l) (suffix_bytes greedy rest) ∙ sym (append_assoc b s r))
    ∙ sym (append_assoc t (b ++ s) r)

-- ---- groups, sequences and alternatives

open_bytes : (rest : List ℕ) → encode_utf8_all (40 ∷ rest) ≡ 40 ∷ encode_utf8_all rest
unfolding encode
open_bytes rest = refl

group_bytes : (own : List ℕ → List ℕ) (t : Text) → ((rest : List ℕ) → encode_utf8_all (own rest) ≡ t ++ encode_utf8_all rest) → (rest : List ℕ) →
    encode_utf8_all (40 ∷ own (41 ∷ rest)) ≡ (codes "(" ++ (t ++ codes ")")) ++ encode_utf8_all rest
group_bytes own t is rest =
    open_bytes (own (41 ∷ rest))
    ∙ ap (λ l. 40 ∷ l) (is (41 ∷ rest) ∙ ap (λ l. t ++ l) (close_bytes rest))
    ∙ turned (codes "(") t (encode_utf8_all rest)

in_row : (t : Text) (es : Trees) (r : Text) → t ++ (joined [] (each_text es 2) ++ r) ≡ joined [] (t ∷ each_text es 2) ++ r
in_row t none r = refl
in_row t (more e es) r = sym (append_assoc t (joined [] (each_text (more e es) 2)) r)

bar_bytes : (rest : List ℕ) → encode_utf8_all (124 ∷ rest) ≡ 124 ∷ encode_utf8_all rest
unfolding encode
bar_bytes rest = refl

in_bars : (t : Text) (es : Trees) (others rest : List ℕ) → encode_utf8_all others ≡ joined (codes "|") (each_text es 1) ++ encode_utf8_all rest →
    t ++ encode_utf8_all (barred es others rest) ≡ joined (codes "|") (t ∷ each_text es 1) ++ encode_utf8_all rest
in_bars t none others rest h = refl
in_bars t (more e es) others rest h =
    let j = joined (codes "|") (each_text (more e es) 1) in
    ap (λ l. t ++ l) (bar_bytes others ∙ ap (λ l. 124 ∷ l) h) ∙ sym (append_assoc t (codes "|" ++ j) (encode_utf8_all rest))

mutual
  pub bytes : (e : Tree) (h : Returns e) (precedence : ℕ) (rest : List ℕ) →
      encode_utf8_all (spell e h precedence rest) ≡ text_of e precedence ++ encode_utf8_all rest
  bytes tree.Empty h precedence rest = refl
  bytes (tree.Any newline crlf) h precedence rest = any_bytes newline crlf rest
  bytes (tree.Literal c casei) h precedence rest = bracket_bytes casei "(?i:" (spell_char c) (escaped c) fold_ascii (char_bytes c) rest
  bytes (tree.Delegate inner casei) h precedence rest =
      bracket_bytes casei "(?i:" (λ r. h.text ++ r) inner fold_ascii (class_bytes inner h) rest
  bytes (tree.Assert within a) h precedence rest = assertion_bytes a rest
  bytes (tree.Concat es) h precedence rest =
      bracket_bytes (nat_lt 1 precedence) "(?:" (λ r. spell_row es h.2 r) (joined [] (each_text es 2)) plain_ascii (λ r. row_bytes es h.2 r) rest
  bytes (tree.Alt es) h precedence rest =
      bracket_bytes (nat_lt 0 precedence) "(?:" (λ r. spell_bars es h.1 r) (joined (codes "|") (each_text es 1)) plain_ascii (λ r. bars_bytes es h.1 r) rest
  bytes (tree.Group g e) h precedence rest = group_bytes (λ r. spell e h.1 0 r) (text_of e 0) (λ r. bytes e h.1 0 r) rest
  bytes (tree.Repeat lo hi greedy e) h precedence rest =
      bracket_bytes (nat_lt 2 precedence) "(?:" (λ r. spell e h.2 3 (spell_bounds lo hi (spell_suffix greedy r)))
      (text_of e 3 ++ (bounds_text lo hi ++ (if greedy then [] else codes "?"))) plain_ascii
      (loop_bytes lo hi greedy (λ r. spell e h.2 3 r) (text_of e 3) h.1 (λ r. bytes e h.2 3 r)) rest
  bytes e h precedence rest = absurd h

  pub row_bytes : (es : Trees) (h : EachReturns es) (rest : List ℕ) →
      encode_utf8_all (spell_row es h rest) ≡ joined [] (each_text es 2) ++ encode_utf8_all rest
  row_bytes none h rest = refl
  row_bytes (more e es) h rest =
      bytes e h.0 2 (spell_row es h.1 rest) ∙ ap (λ l. text_of e 2 ++ l) (row_bytes es h.1 rest) ∙ in_row (text_of e 2) es (encode_utf8_all rest)

  pub bars_bytes : (es : Trees) (h : EachReturns es) (rest : List ℕ) →
      encode_utf8_all (spell_bars es h rest) ≡ joined (codes "|") (each_text es 1) ++ encode_utf8_all rest
  bars_bytes none h rest = refl
  bars_bytes (more e es) h rest =
      bytes e h.0 1 (barred es (spell_bars es h.1 rest) rest)
      ∙ in_bars (text_of e 1) es (spell_bars es h.1 rest) rest (bars_bytes es h.1 rest)
