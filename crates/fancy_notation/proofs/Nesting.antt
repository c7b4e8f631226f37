-- How deep a text nests, from character to character.
use Rattle.std.proofs.Common.{◌≡◌, ℕ, ◌+◌, ◌-◌, ◌≤◌, ◌<◌, Bool, true, false, List, [], ◌∷◌, ◌++◌, length, get_or, drop, max, if◌then◌else◌, ◌==◌, ◌&&◌, nat_lt, chars, codes, encode_utf8, encode_utf8_all, refl, sym, ap, ◌∙◌, arith, append_assoc, append-nil, length-append}
use lib.Utf8.{scalar}
use Rattle.std.specs.Char.{len_utf8, digit_value}
use Rattle.std.specs.Str.{IsUtf8, bytes_eq}
use Rattle.std.proofs.lemmas.Bool.{eqb-true}
use Rattle.std.proofs.lemmas.List.{at_drop_more, at_drop_all}
use Rattle.std.proofs.lemmas.Str.{encodes-chars, length-encode, len_utf8_bounds}
use Rattle.fancy_notation.specs.declared.lexer.Mode.{Mode}
use Rattle.fancy_notation.specs.declared.lexer.Mode.TheVariants.{Outside, Inside, Escaped, Coded, Digits, Spoiled}
use Rattle.fancy_notation.specs.Tokens.{Placed, Opened, Closed, Quoted, Word, Broken}
use Rattle.fancy_notation.specs.Lexing.{Lexing, Step, step, step_in, step_outside, step_inside, step_escaped, step_digits, with_token, with_letter, spoiled, ended_in, lexed, word_ended, quote, placed, tokens_of, at_start}
use Rattle.fancy_notation.specs.Depth.{nesting_behind, deepest, depth, mode_past, nesting_past}

-- the most that are open at one place of these characters
abbrev pub nested : Mode → ℕ → List ℕ → ℕ
nested m n [] = n
nested m n (c ∷ cs) = max n (nested (mode_past m c) (nesting_past m n c) cs)

pub at_least : (n : ℕ) (ts : List Placed) → n ≤ deepest n ts
at_least n [] = omega arith
at_least n (p ∷ ps) = omega arith

-- what opens nothing and closes nothing
pub over : (n : ℕ) (p : Placed) (ts : List Placed) → nesting_behind n p.token ≡ n → deepest n (p ∷ ts) ≡ deepest n ts
over n p ts e = let h = at_least n ts in ap (λ m. max n (deepest m ts)) e ∙ omega (arith, h)

same : (n : ℕ) (ts : List Placed) → deepest n ts ≡ max n (deepest n ts)
same n ts = let h = at_least n ts in omega (arith, h)

-- a step whose tokens open and close nothing
abbrev IsLevel : Step → Type 0
IsLevel s = (n : ℕ) (ts : List Placed) → deepest n (s.tokens ++ ts) ≡ deepest n ts

either_level : (b : Bool) (x y : Step) → IsLevel x → IsLevel y → IsLevel (if b then x else y)
either_level true x y h k = h
either_level false x y h k = k

either_mode : (b : Bool) (x y x' y' : Step) → x.next.mode ≡ x'.next.mode → y.next.mode ≡ y'.next.mode →
    (if b then x else y).next.mode ≡ (if b then x' else y').next.mode
either_mode true x y x' y' h k = h
either_mode false x y x' y' h k = k

either_in : (b : Bool) (x y : Step) (m : Mode) → x.next.mode ≡ m → y.next.mode ≡ m → (if b then x else y).next.mode ≡ m
either_in true x y m h k = h
either_in false x y m h k = k

module _ (s : Lexing) (at : ℕ) where
  word_level : IsLevel (word_ended s)
  word_level = either_level (bytes_eq s.text []) _ _ (λ n ts. refl) (λ n ts. over n (placed s.start (Word s.text)) ts refl)

  word_mode : (word_ended s).next.mode ≡ s.mode
  word_mode = either_in (bytes_eq s.text []) _ _ s.mode refl refl

  quote_level : IsLevel (quote s at)
  quote_level = either_level (bytes_eq s.text (codes "i")) _ _ (λ n ts. refl) word_level

  quote_mode : (quote s at).next.mode ≡ Inside
  quote_mode = either_in (bytes_eq s.text (codes "i")) _ _ Inside refl refl

  after_word : (p : Placed) (n : ℕ) (ts : List Placed) →
      deepest n (((word_ended s).tokens ++ p ∷ []) ++ ts) ≡ max n (deepest (nesting_behind n p.token) ts)
  after_word p n ts = ap (deepest n) (append_assoc (word_ended s).tokens (p ∷ []) ts) ∙ word_level n (p ∷ ts)

  -- outside: a blank, the two parentheses, a quote, and the rest
  outside_deep : (c n : ℕ) (ts : List Placed) → deepest n ((step_outside s at c).tokens ++ ts) ≡ max n (deepest (nesting_past Outside n c) ts)
  outside_deep c n ts = by_tests (c == 32) (c == 40) (c == 41) (c == 34) (λ e. (ap (λ d. d == 40) (eqb-true c 32 e), ap (λ d. d == 41) (eqb-true c 32 e)))
    where
      by_tests : (space opens shuts quotes : Bool) → (space ≡ true → (opens ≡ false) × (shuts ≡ false)) →
          deepest n ((if space then word_ended s
          else if opens then with_token (word_ended s) (placed at Opened)
          else if shuts then with_token (word_ended s) (placed at Closed)
          else if quotes then quote s at
          else with_letter s at c).tokens ++ ts) ≡ max n (deepest (if opens then n + 1 else if shuts then n - 1 else n) ts)
      by_tests true true shuts quotes h = absurd (let e = (h refl).0 in cc)
      by_tests true false true quotes h = absurd (let e = (h refl).1 in cc)
      by_tests true false false quotes h = word_level n ts ∙ same n ts
      by_tests false true shuts quotes h = after_word (placed at Opened) n ts
      by_tests false false true quotes h = after_word (placed at Closed) n ts
      by_tests false false false true h = quote_level n ts ∙ same n ts
      by_tests false false false false h = same n ts

  spoiled_level : IsLevel (spoiled s)
  spoiled_level n ts = over n (placed s.start Broken) ts refl

  inside_level : (c : ℕ) → IsLevel (step_inside s c)
  inside_level c =
      either_level (c == 34) _ _ (λ n ts. over n (placed s.start (Quoted s.folded s.text)) ts refl)
      (either_level (c == 92) _ _ (λ n ts. refl) (λ n ts. refl))

  escaped_level : (c : ℕ) → IsLevel (step_escaped s c)
  escaped_level c =
      either_level (c == 34) _ _ (λ n ts. refl)
      (either_level (c == 92) _ _ (λ n ts. refl)
      (either_level (c == 110) _ _ (λ n ts. refl)
      (either_level (c == 114) _ _ (λ n ts. refl) (either_level (c == 117) _ _ (λ n ts. refl) spoiled_level))))

  digits_level : (c count code : ℕ) → IsLevel (step_digits s c count code)
  digits_level c count code =
      either_level (c == 125) _ _ (either_level (nat_lt 0 count && scalar code) _ _ (λ n ts. refl) spoiled_level)
      (either_level (nat_lt count 6 && nat_lt code 0x1_1000 && nat_lt (digit_value c) 16) _ _ (λ n ts. refl) spoiled_level)

  step_deep : (m : Mode) (c n : ℕ) (ts : List Placed) → deepest n ((step_in m s at c).tokens ++ ts) ≡ max n (deepest (nesting_past m n c) ts)
  step_deep Outside c n ts = outside_deep c n ts
  step_deep Inside c n ts = inside_level c n ts ∙ same n ts
  step_deep Escaped c n ts = escaped_level c n ts ∙ same n ts
  step_deep Coded c n ts = either_level (c == 123) _ _ (λ n ts. refl) spoiled_level n ts ∙ same n ts
  step_deep (Digits count code) c n ts = digits_level c count code n ts ∙ same n ts
  step_deep Spoiled c n ts = same n ts

  step_mode : (m : Mode) (c : ℕ) → s.mode ≡ m → (step_in m s at c).next.mode ≡ mode_past m c
  step_mode Outside c e =
      either_mode (c == 32) _ _ _ _ (word_mode ∙ e)
      (either_mode (c == 40) _ _ _ _ (word_mode ∙ e)
      (either_mode (c == 41) _ _ _ _ (word_mode ∙ e) (either_mode (c == 34) _ _ _ _ quote_mode e)))
  step_mode Inside c e = either_mode (c == 34) _ _ _ _ refl (either_mode (c == 92) _ _ _ _ refl refl)
  step_mode Escaped c e =
      either_mode (c == 34) _ _ _ _ refl
      (either_mode (c == 92) _ _ _ _ refl
      (either_mode (c == 110) _ _ _ _ refl
      (either_mode (c == 114) _ _ _ _ refl (either_mode (c == 117) _ _ _ _ refl refl))))
  step_mode Coded c e = either_mode (c == 123) _ _ _ _ refl refl
  step_mode (Digits count code) c e =
      either_mode (c == 125) _ _ _ _ (either_mode (nat_lt 0 count && scalar code) _ _ _ _ refl refl)
      (either_mode (nat_lt count 6 && nat_lt code 0x1_1000 && nat_lt (digit_value c) 16) _ _ _ _ refl refl)
  step_mode Spoiled c e = e

  end_deep : (m : Mode) (n : ℕ) → deepest n (ended_in m s).tokens ≡ n
  end_deep Outside n = ap (deepest n) (sym (append-nil (word_ended s).tokens)) ∙ word_level n []
  end_deep Inside n = omega arith
  end_deep Escaped n = omega arith
  end_deep Coded n = omega arith
  end_deep (Digits count code) n = omega arith
  end_deep Spoiled n = refl

pub lexed_nested : (cs : List ℕ) (s : Lexing) (at n : ℕ) → deepest n (lexed s at cs) ≡ nested s.mode n cs
lexed_nested [] s at n = end_deep s at s.mode n
lexed_nested (c ∷ cs) s at n =
    step_deep s at s.mode c n (lexed (step s at c).next (at + len_utf8 c) cs)
    ∙ ap (max n) (lexed_nested cs (step s at c).next (at + len_utf8 c) (nesting_past s.mode n c)
    ∙ ap (λ m. nested m (nesting_past s.mode n c) cs) (step_mode s at s.mode c refl))

nested_least : (m : Mode) (n : ℕ) (cs : List ℕ) → n ≤ nested m n cs
nested_least m n [] = omega arith
nested_least m n (c ∷ cs) = omega arith

-- so much of the text is read: how deep it nests with the rest, and each open parenthesis was a character
pub record Nests (text : List ℕ) (m : Mode) (n most count : ℕ) : Type 0 where
  pub deep : max most (nested m n (drop count (chars text))) ≡ depth text
  pub fits : n + length (encode_utf8_all (drop count (chars text))) ≤ length text
  pub least : n ≤ most

pub nests_begin : (text : List ℕ) → IsUtf8 text → Nests text Outside 0 0 0
unfolding tokens_of
nests_begin text u = record {
  deep = let e = lexed_nested (chars text) at_start 0 0 in omega (arith, e);
  fits = omega (arith, ap length (encodes-chars text u));
  least = omega arith;
}

nesting_up : (m : Mode) (n c : ℕ) → nesting_past m n c ≤ n + 1
nesting_up Outside n c = by_tests (c == 40) (c == 41)
  where
    by_tests : (opens shuts : Bool) → (if opens then n + 1 else if shuts then n - 1 else n) ≤ n + 1
    by_tests true shuts = omega arith
    by_tests false true = omega arith
    by_tests false false = omega arith
nesting_up Inside n c = omega arith
nesting_up Escaped n c = omega arith
nesting_up Coded n c = omega arith
nesting_up (Digits count code) n c = omega arith
nesting_up Spoiled n c = omega arith

module _ (text : List ℕ) (m : Mode) (n most count c : ℕ) (r : Nests text m n most count)
    (is : (count < length (chars text)) × (c ≡ get_or (chars text) count c)) where
  longer : length (encode_utf8_all (drop count (chars text))) ≡ len_utf8 c + length (encode_utf8_all (drop (count + 1) (chars text)))
  longer =
      let cs = chars text in
      let l : length (encode_utf8_all (drop count cs)) ≡ length (encode_utf8_all (get_or cs count c ∷ drop (count + 1) cs)) =
      at_drop_more (λ x. length (encode_utf8_all x)) cs count c is.0 in
      let f : length (encode_utf8 (get_or cs count c)) ≡ length (encode_utf8 c) = ap (λ d. length (encode_utf8 d)) (sym is.1) in
      omega (arith, l, f, length-encode c, length-append (encode_utf8 (get_or cs count c)) (encode_utf8_all (drop (count + 1) cs)))

  pub nests_fits : n < length text
  nests_fits = omega (arith, r.fits, longer, (len_utf8_bounds c).0)

  pub nests_next : (m' : Mode) (n' most' : ℕ) → m' ≡ mode_past m c → n' ≡ nesting_past m n c → most' ≡ max most n' →
      Nests text m' n' most' (count + 1)
  nests_next m' n' most' modes nestings mosts =
      let cs = chars text in
      let rest = nested (mode_past m c) (nesting_past m n c) (drop (count + 1) cs) in
      let l : nested m n (drop count cs) ≡ nested m n (get_or cs count c ∷ drop (count + 1) cs) = at_drop_more (nested m n) cs count c is.0 in
      let f : nested m n (get_or cs count c ∷ drop (count + 1) cs) ≡ nested m n (c ∷ drop (count + 1) cs) =
      ap (λ d. nested m n (d ∷ drop (count + 1) cs)) (sym is.1) in
      let g : nested m' n' (drop (count + 1) cs) ≡ rest =
      ap (λ x. nested x n' (drop (count + 1) cs)) modes ∙ ap (λ x. nested (mode_past m c) x (drop (count + 1) cs)) nestings in
      let h = nested_least m' n' (drop (count + 1) cs) in
      record {
        deep = omega (arith, r.deep, r.least, l, f, g, h, mosts);
        fits = omega (arith, r.fits, longer, (len_utf8_bounds c).0, nesting_up m n c, nestings);
        least = omega (arith, mosts);
      }

pub nests_done : (text : List ℕ) (m : Mode) (n most count : ℕ) → Nests text m n most count → count ≡ length (chars text) → most ≡ depth text
nests_done text m n most count r all =
    let e : nested m n (drop count (chars text)) ≡ n = at_drop_all (nested m n) (chars text) count (omega (arith, all)) in
    omega (arith, r.deep, r.least, e)
