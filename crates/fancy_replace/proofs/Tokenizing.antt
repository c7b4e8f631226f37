-- A text is read token by token.
use Rattle.std.proofs.Common.{◌≡◌, ◌≢◌, ◌<◌, ◌+◌, ◌&&◌, ℕ, zero, suc, Bool, true, false, not, List, [], ◌∷◌, length, map, append-nil, true≢false, take, drop, get_or, length-drop, Some, None, Option, MatchOption, unwrap_or, codes, IsCharBoundary, IsUtf8, refl, sym, ap, ap₂, ◌∙◌, subst, arith, ne_eqb, eq-eqb, eqb-true, ⊎_elim}
use Rattle.std.proofs.lemmas.Bool.{and_left, and_right, cases_Bool, cond-false, cond-true, false_from_ne_true, or_parts, true_from_ne_false}
use Rattle.std.proofs.lemmas.Bool.Decides.{nat_tests}
use Rattle.std.proofs.lemmas.List.{drop_all, take_all}
use Rattle.std.proofs.lemmas.List.Folds.{length-prefix_len, list_any_at, list_any_none}
use Rattle.std.proofs.lemmas.List.Sums.{fails_before_first, prefix_len-le-length, prefix_len_passes, position_or_len_is, passes_at_first, take_while-cons}
use Rattle.std.proofs.lemmas.Str.{IsCharBoundary-after_ascii, IsCharBoundary-start}
use Rattle.std.specs.List.{before_first, list_any, position_or_len, prefix_len, take_while}
use Rattle.fancy_replace.specs.Templates.{segments_text}
use Rattle.fancy_replace.specs.Tokens.{HasNoBraces, PassesToken, TakesBraces}
use Rattle.fancy_replace.specs.Reading.{HasNoDollar, Literal, Names, Reference, dollar_token, expansion, is_closing, is_dollar, is_opening, is_word_byte, segment_for, tokens, tokens_after}

-- ---- what is passed over

pub tokens-drop : (n : ℕ) (text : List ℕ) → tokens_after n text ≡ tokens (drop n text)
unfolding tokens_after
tokens-drop zero text = refl
tokens-drop (suc n) [] = refl
tokens-drop (suc n) (b ∷ rest) = tokens-drop n rest

pub no_tokens : (text : List ℕ) → length text ≡ 0 → tokens text ≡ []
unfolding tokens_after
no_tokens [] e = refl
no_tokens (b ∷ rest) e = absurd (omega (arith, e))

pub none_dropped : (p : ℕ → Bool) (n : ℕ) (xs : List ℕ) → list_any p xs ≡ false → list_any p (drop n xs) ≡ false
none_dropped p zero xs e = e
none_dropped p (suc n) [] e = e
none_dropped p (suc n) (x ∷ xs) e = none_dropped p n xs (or_parts (p x) (list_any p xs) e).1

-- ---- whether some byte passes

pub none_passes : (p : ℕ → Bool) (xs : List ℕ) → position_or_len p xs ≡ length xs → list_any p xs ≡ false
none_passes p xs e = list_any_none p xs (λ k d lt. fails_before_first p xs k d (omega (arith, e)))

pub some_passes : (p : ℕ → Bool) (xs : List ℕ) → position_or_len p xs < length xs → list_any p xs ≡ true
some_passes p xs lt = list_any_at p xs (position_or_len p xs) 0 lt (passes_at_first p xs 0 lt)

-- ---- a token

no_dollar : (b : ℕ) (rest : List ℕ) → ((after : List ℕ) → b ∷ rest ≢ 36 ∷ after) → is_dollar b ≡ false
no_dollar b rest other = ne_eqb b 36 (λ e. other rest (ap (λ x. x ∷ rest) e))

pub dollar_first : (text rest : List ℕ) → text ≡ 36 ∷ rest → tokens text ≡ (dollar_token rest).0 ∷ tokens (drop (dollar_token rest).1 rest)
unfolding tokens_after
dollar_first text rest e = ap tokens e ∙ ap (λ ts. (dollar_token rest).0 ∷ ts) (tokens-drop (dollar_token rest).1 rest)

pub literal_first : (text : List ℕ) → length text ≢ 0 → ((rest : List ℕ) → text ≢ 36 ∷ rest) →
    tokens text ≡ Literal (before_first is_dollar text) ∷ tokens (drop (length (before_first is_dollar text)) text)
unfolding tokens_after
literal_first [] some other = absurd (some refl)
literal_first (b ∷ rest) some other =
    let more : 1 + position_or_len is_dollar rest ≡ suc (position_or_len is_dollar rest) = omega arith in
    rw (no_dollar b rest other, more)
    (ap (λ ts. Literal (b ∷ before_first is_dollar rest) ∷ ts)
    (tokens-drop (length (before_first is_dollar rest)) rest))

literal_nonempty : (text : List ℕ) → length text ≢ 0 → ((rest : List ℕ) → text ≢ 36 ∷ rest) → 0 < length (before_first is_dollar text)
literal_nonempty [] some other = absurd (some refl)
literal_nonempty (b ∷ rest) some other =
    let more : 1 + position_or_len is_dollar rest ≡ suc (position_or_len is_dollar rest) = omega arith in
    rw (no_dollar b rest other, more) (omega arith)

pub literal_shortens : (text : List ℕ) → length text ≢ 0 → ((rest : List ℕ) → text ≢ 36 ∷ rest) →
    length (drop (length (before_first is_dollar text)) text) < length text
literal_shortens text some other =
    omega (arith, literal_nonempty text some other, length-drop (length (before_first is_dollar text)) text)

pub first_dollar : (text : List ℕ) (found : Option ℕ) →
    MatchOption found ((i : ℕ) → i < length text → get_or text i 0 ≢ 36)
    (λ k. (k < length text) × (get_or text k 0 ≡ 36) × ((i : ℕ) → i < k → get_or text i 0 ≢ 36)) →
    position_or_len is_dollar text ≡ unwrap_or found (length text)
first_dollar text None none =
    position_or_len_is is_dollar text (length text) 0 (omega arith) (λ k lt. ne_eqb _ 36 (none k lt)) (λ lt. absurd (omega (arith, lt)))
first_dollar text (Some k) (lt, is, before) =
    position_or_len_is is_dollar text k 0 (omega (arith, lt)) (λ j less. ne_eqb _ 36 (before j less)) (λ _. eq-eqb _ 36 is)

-- ---- after a dollar

pub dollar_again : (text rest : List ℕ) → text ≡ 36 ∷ rest → PassesToken (dollar_token text) text (Literal (codes "$")) rest
dollar_again text rest e = (sym (ap (λ t. (dollar_token t).0) e), sym (ap (λ t. drop (dollar_token t).1 t) e))

pub in_braces : (text name rest : List ℕ) → TakesBraces text (Some name) rest → PassesToken (dollar_token text) text (Reference name) rest
in_braces text name rest (inside, begins, closed, is, left) =
    let read : dollar_token text ≡ (Reference (before_first is_closing inside), length (before_first is_closing inside) + 2) =
    ap dollar_token begins ∙ cond-true (list_any is_closing inside) _ _ closed in
    let past : length (before_first is_closing inside) + 2 ≡ suc (position_or_len is_closing inside + 1) =
    omega (arith, length-prefix_len (λ b. not (is_closing b)) inside) in (
      ap Reference is ∙ sym (ap (λ r. r.0) read),
      left ∙ sym (ap₂ (λ n t. drop n t) (ap (λ r. r.1) read ∙ past) begins),
    )

no_braces : (b : ℕ) (rest : List ℕ) → HasNoBraces (b ∷ rest) → (is_opening b && list_any is_closing rest) ≡ false
no_braces b rest none = ⊎_elim
    (λ e. and_right (is_opening b) _ (none rest (ap (λ x. x ∷ rest) (eqb-true b 123 e))))
    (λ e. and_left _ (list_any is_closing rest) e) (cases_Bool (is_opening b))

word_begins : (b : ℕ) (rest : List ℕ) → length (take_while is_word_byte (b ∷ rest)) ≢ 0 → is_word_byte b ≡ true
word_begins b rest some = true_from_ne_false _ (λ e. some (ap length (take_while-cons is_word_byte b rest ∙ cond-false _ _ _ e)))

no_word : (b : ℕ) (rest : List ℕ) → length (take_while is_word_byte (b ∷ rest)) ≡ 0 → is_word_byte b ≡ false
no_word b rest none = false_from_ne_true _ (λ e.
    let some = ap length (take_while-cons is_word_byte b rest ∙ cond-true _ _ _ e) in absurd (omega (arith, none, some)))

read_word : (text : List ℕ) → ((rest : List ℕ) → text ≢ 36 ∷ rest) → HasNoBraces text → length (take_while is_word_byte text) ≢ 0 →
    dollar_token text ≡ (Reference (take_while is_word_byte text), length (take_while is_word_byte text))
read_word [] other unbraced some = absurd (some refl)
read_word (b ∷ rest) other unbraced some = rw (no_dollar b rest other, no_braces b rest unbraced, word_begins b rest some)

read_dollar : (text : List ℕ) → ((rest : List ℕ) → text ≢ 36 ∷ rest) → HasNoBraces text → length (take_while is_word_byte text) ≡ 0 →
    dollar_token text ≡ (Literal (codes "$"), 0)
read_dollar [] other unbraced none = refl
read_dollar (b ∷ rest) other unbraced none = rw (no_dollar b rest other, no_braces b rest unbraced, no_word b rest none)

-- no braces were passed over, so the same text is left
module _ (text left word : List ℕ) (other : (rest : List ℕ) → text ≢ 36 ∷ rest) (unbraced : TakesBraces text None left)
    (is : word ≡ take_while is_word_byte left) where
  word_is : word ≡ take_while is_word_byte text
  word_is = is ∙ ap (take_while is_word_byte) unbraced.1

  pub longest_word : (rest : List ℕ) → rest ≡ drop (length (take_while is_word_byte left)) left → length word ≢ 0 →
      PassesToken (dollar_token text) text (Reference word) rest
  longest_word rest behind some =
      let read = read_word text other unbraced.0 (λ none. some (ap length word_is ∙ none)) in (
        ap Reference word_is ∙ sym (ap (λ r. r.0) read),
        behind ∙ ap (λ t. drop (length (take_while is_word_byte t)) t) unbraced.1 ∙ sym (ap (λ r. drop r.1 text) read),
      )

  pub lone_dollar : length word ≡ 0 → PassesToken (dollar_token text) text (Literal (codes "$")) left
  lone_dollar none =
      let read = read_dollar text other unbraced.0 (sym (ap length word_is) ∙ none) in
      (sym (ap (λ r. r.0) read), unbraced.1 ∙ sym (ap (λ r. drop r.1 text) read))

-- ---- where a word ends

word_byte_is_ascii : (b : ℕ) → is_word_byte b ≡ true → b < 128
word_byte_is_ascii b h = grind (arith, nat_tests)

pub word_ends_at_boundary : (text : List ℕ) → IsUtf8 text → IsCharBoundary text (length (take_while is_word_byte text))
word_ends_at_boundary text utf8 = rw (length-prefix_len is_word_byte text) (at_end (prefix_len is_word_byte text) refl)
  where
    at_end : (n : ℕ) → n ≡ prefix_len is_word_byte text → IsCharBoundary text n
    at_end zero e = IsCharBoundary-start text utf8
    at_end (suc n) e =
        let last : get_or text n 0 < 128 = word_byte_is_ascii _ (prefix_len_passes is_word_byte text n 0 (omega (arith, e))) in
        let more : n + 1 ≡ suc n = omega arith in
        subst (IsCharBoundary text) more (IsCharBoundary-after_ascii text n utf8 (omega (arith, e, prefix_len-le-length is_word_byte text)) last)

-- ---- a text with no dollar

no_position : (p : ℕ → Bool) (xs : List ℕ) → list_any p xs ≡ false → position_or_len p xs ≡ length xs
no_position p [] e = refl
no_position p (x ∷ xs) e =
    let parts = or_parts (p x) (list_any p xs) e in
    rw (parts.0, no_position p xs parts.1) (omega arith)

module _ (text : List ℕ) (some : length text ≢ 0) (none : HasNoDollar text) where
  no_dollar_first : (rest : List ℕ) → text ≢ 36 ∷ rest
  no_dollar_first rest e = true≢false (sym (ap (list_any is_dollar) e) ∙ none)

  whole : before_first is_dollar text ≡ text
  whole = ap (λ n. take n text) (no_position is_dollar text none) ∙ take_all (length text) text (omega arith)

  plain_tokens : tokens text ≡ Literal text ∷ []
  unfolding tokens_after
  plain_tokens =
      literal_first text some no_dollar_first
      ∙ ap₂ (λ literal rest. Literal literal ∷ tokens rest) whole (drop_all (length (before_first is_dollar text)) text (omega (arith, ap length whole)))

pub plain_text : (names : Names) (template : List ℕ) → HasNoDollar template → expansion names template ≡ (λ text numbers. template)
unfolding tokens_after
plain_text names [] none = refl
plain_text names (b ∷ rest) none =
    ap (λ ts. segments_text (map (segment_for names) ts)) (plain_tokens (b ∷ rest) (λ e. absurd (omega (arith, e))) none)
    ∙ (λ i. λ text numbers. append-nil (b ∷ rest) i)
