-- One more character of a text.
use Rattle.std.proofs.Common.{◌≡◌, ℕ, ◌+◌, ◌<◌, ◌≤◌, List, [], ◌∷◌, ◌++◌, length, get_or, drop, chars, encode_utf8, encode_utf8_all, sym, ap, ◌∙◌, arith, append_assoc, length-append}
use Rattle.std.specs.Char.{len_utf8}
use Rattle.std.specs.Str.{IsUtf8, chars}
use Rattle.std.proofs.lemmas.List.{at_drop_more, at_drop_all}
use Rattle.std.proofs.lemmas.Str.{encodes-chars, length-encode}
use Rattle.fancy_notation.specs.declared.lexer.Lexer.{Lexer}
use Rattle.fancy_notation.specs.Lexing.{step, ended, lexed, tokens_of, at_start}
use Rattle.fancy_notation.specs.NotationViews.{lexing_of, all_placed}

-- so much of the text is read, and the rest gives the other tokens
pub record Lexed (text : List ℕ) (lexer : Lexer) (at count : ℕ) : Type 0 where
  pub tokens : all_placed lexer.tokens.items ++ lexed (lexing_of lexer) at (drop count (chars text)) ≡ tokens_of text
  pub place : at + length (encode_utf8_all (drop count (chars text))) ≡ length text

pub lexed_begin : (text : List ℕ) (lexer : Lexer) → IsUtf8 text → lexing_of lexer ≡ at_start → lexer.tokens.items ≡ [] → Lexed text lexer 0 0
unfolding tokens_of
lexed_begin text lexer u state none = record {
  tokens = ap (λ l. all_placed l ++ lexed (lexing_of lexer) 0 (chars text)) none ∙ ap (λ s. lexed s 0 (chars text)) state;
  place = omega (arith, ap length (encodes-chars text u));
}

-- what is left holds the character
pub lexed_fits : (text : List ℕ) (lexer : Lexer) (at count c : ℕ) → Lexed text lexer at count →
    (count < length (chars text)) × (c ≡ get_or (chars text) count c) → at + len_utf8 c ≤ length text
lexed_fits text lexer at count c r is =
    let e : length (encode_utf8_all (drop count (chars text))) ≡ length (encode_utf8_all (get_or (chars text) count c ∷ drop (count + 1) (chars text))) =
    at_drop_more (λ l. length (encode_utf8_all l)) (chars text) count c is.0 in
    let f : length (encode_utf8 (get_or (chars text) count c)) ≡ length (encode_utf8 c) = ap (λ d. length (encode_utf8 d)) (sym is.1) in
    omega (arith, r.place, e, f, length-encode c, length-append (encode_utf8 (get_or (chars text) count c)) (encode_utf8_all (drop (count + 1) (chars text))))

pub lexed_next : (text : List ℕ) (old new : Lexer) (at count c : ℕ) → Lexed text old at count →
    (count < length (chars text)) × (c ≡ get_or (chars text) count c) →
    (lexing_of new ≡ (step (lexing_of old) at c).next) × (all_placed new.tokens.items ≡ all_placed old.tokens.items ++ (step (lexing_of old) at c).tokens) →
    Lexed text new (at + len_utf8 c) (count + 1)
lexed_next text old new at count c r is did =
    let cs = chars text in
    let e : lexed (lexing_of old) at (drop count cs) ≡ lexed (lexing_of old) at (get_or cs count c ∷ drop (count + 1) cs) =
    at_drop_more (lexed (lexing_of old) at) cs count c is.0 in
    let same : lexed (lexing_of old) at (get_or cs count c ∷ drop (count + 1) cs) ≡ lexed (lexing_of old) at (c ∷ drop (count + 1) cs) =
    ap (λ d. lexed (lexing_of old) at (d ∷ drop (count + 1) cs)) (sym is.1) in
    let l : length (encode_utf8_all (drop count cs)) ≡ length (encode_utf8_all (get_or cs count c ∷ drop (count + 1) cs)) =
    at_drop_more (λ m. length (encode_utf8_all m)) cs count c is.0 in
    let f : length (encode_utf8 (get_or cs count c)) ≡ length (encode_utf8 c) = ap (λ d. length (encode_utf8 d)) (sym is.1) in
    record {
      tokens =
          ap (λ s. all_placed new.tokens.items ++ lexed s (at + len_utf8 c) (drop (count + 1) cs)) did.0
          ∙ ap (λ ts. ts ++ lexed (step (lexing_of old) at c).next (at + len_utf8 c) (drop (count + 1) cs)) did.1
          ∙ append_assoc (all_placed old.tokens.items) (step (lexing_of old) at c).tokens
          (lexed (step (lexing_of old) at c).next (at + len_utf8 c) (drop (count + 1) cs))
          ∙ ap (λ ts. all_placed old.tokens.items ++ ts) (sym (e ∙ same))
          ∙ r.tokens;
      place = omega (arith, r.place, l, f, length-encode c, length-append (encode_utf8 (get_or cs count c)) (encode_utf8_all (drop (count + 1) cs)));
    }

pub lexed_done : (text : List ℕ) (old new : Lexer) (at count : ℕ) → Lexed text old at count → count ≡ length (chars text) →
    (lexing_of new ≡ (ended (lexing_of old)).next) × (all_placed new.tokens.items ≡ all_placed old.tokens.items ++ (ended (lexing_of old)).tokens) →
    all_placed new.tokens.items ≡ tokens_of text
lexed_done text old new at count r all did =
    did.1 ∙ ap (λ ts. all_placed old.tokens.items ++ ts) (sym (at_drop_all (lexed (lexing_of old) at) (chars text) count (omega (arith, all)))) ∙ r.tokens
