-- The bytes where characters begin, and the spans of leaves.
use Rattle.std.proofs.Common.{◌≡◌, ℕ, zero, suc, ◌+◌, ◌<◌, ◌≤◌, List, [], ◌∷◌, ◌++◌, length, map, take, drop, get_or, replicate, IsUtf8, chars, encode_utf8, encode_utf8_all, sym, ap, ◌∙◌, arith, length-append, append_assoc, append-nil}
use Rattle.std.proofs.lemmas.Str.{encodes-chars}
use Rattle.std.proofs.lemmas.List.{map-append, drop_all, take_all}
use Rattle.fancy_meaning.specs.Places.{range_from}
use Rattle.fancy_pattern.specs.declared.atom_spans.AtomSpan.{AtomSpan}
use Rattle.fancy_info.proofs.Children.{rest_at}
use Rattle.fancy_faults.specs.Leaves.{byte_of, spans_of}

-- ---- bytes

range-more : (i n : ℕ) → range_from i (n + 1) ≡ range_from i n ++ (i + n) ∷ []
range-more i zero = ap (λ k. k ∷ []) (omega arith)
range-more i (suc n) =
    let out : suc n + 1 ≡ suc (n + 1) = omega arith in
    let shift : suc i + n ≡ i + suc n = omega arith in
    ap (range_from i) out ∙ ap (λ l. i ∷ l) (range-more (suc i) n ∙ ap (λ k. range_from (suc i) n ++ k ∷ []) shift)

pub one_byte_more : (text : List ℕ) (n : ℕ) → map (byte_of text) (range_from 0 n) ++ byte_of text n ∷ [] ≡ map (byte_of text) (range_from 0 (n + 1))
one_byte_more text n =
    sym (ap (map (byte_of text)) (range-more 0 n) ∙ map-append (byte_of text) (range_from 0 n) ((0 + n) ∷ [])
    ∙ ap (λ k. map (byte_of text) (range_from 0 n) ++ byte_of text k ∷ []) (omega arith))

pub take_bytes : (n : ℕ) (cs : List ℕ) (c : ℕ) → n < length cs → c ≡ get_or cs n c →
    length (encode_utf8_all (take (n + 1) cs)) ≡ length (encode_utf8_all (take n cs)) + length (encode_utf8 c)
take_bytes n [] c lt is = absurd (omega (arith, lt))
take_bytes zero (x ∷ cs) c lt is =
    omega (arith, length-append (encode_utf8 x) (encode_utf8_all (take 0 cs)), ap (λ y. length (encode_utf8 y)) is)
take_bytes (suc n) (x ∷ cs) c lt is =
    let out : suc n + 1 ≡ suc (n + 1) = omega arith in
    omega (
      arith,
      ap (λ k. length (encode_utf8_all (take k (x ∷ cs)))) out,
      take_bytes n cs c (omega (arith, lt)) is,
      length-append (encode_utf8 x) (encode_utf8_all (take (n + 1) cs)),
      length-append (encode_utf8 x) (encode_utf8_all (take n cs)),
    )

pub fewer_bytes : (n : ℕ) (cs : List ℕ) → length (encode_utf8_all (take n cs)) ≤ length (encode_utf8_all cs)
fewer_bytes zero cs = omega arith
fewer_bytes (suc n) [] = omega arith
fewer_bytes (suc n) (c ∷ cs) =
    omega (arith, fewer_bytes n cs, length-append (encode_utf8 c) (encode_utf8_all (take n cs)), length-append (encode_utf8 c) (encode_utf8_all cs))

pub next_byte : (text l : List ℕ) (n c : ℕ) → l ≡ chars text → n < length l → c ≡ get_or l n c →
    byte_of text (n + 1) ≡ byte_of text n + length (encode_utf8 c)
next_byte text l n c are lt is = take_bytes n (chars text) c (omega (arith, lt, ap length are)) (is ∙ ap (λ m. get_or m n c) are)

pub byte_fits : (text : List ℕ) (n : ℕ) → IsUtf8 text → byte_of text n ≤ length text
byte_fits text n utf8 = omega (arith, fewer_bytes n (chars text), ap length (encodes-chars text utf8))

indexed : (f : ℕ → ℕ) (s n i d : ℕ) → (n ≤ i → d ≡ f (s + i)) → get_or (map f (range_from s n)) i d ≡ f (s + i)
indexed f s zero i d past = past (omega arith)
indexed f s (suc n) zero d past = ap f (omega arith)
indexed f s (suc n) (suc i) d past =
    let shift : s + suc i ≡ suc s + i = omega arith in
    indexed f (suc s) n i d (λ le. past (omega (arith, le)) ∙ ap f shift) ∙ ap f (omega arith)

-- the bytes of all characters, and the end past the last
pub byte_at_index : (text : List ℕ) (i : ℕ) → IsUtf8 text →
    get_or (map (byte_of text) (range_from 0 (length (chars text)))) i (length text) ≡ byte_of text i
byte_at_index text i utf8 =
    indexed (byte_of text) 0 (length (chars text)) i (length text)
    (λ le. sym (ap (λ l. length (encode_utf8_all l)) (take_all (0 + i) (chars text) (omega (arith, le))) ∙ ap length (encodes-chars text utf8)))
    ∙ ap (byte_of text) (omega arith)

-- ---- spans

pub more_spans : (text : List ℕ) (before new all : List (ℕ × ℕ)) (atoms : List AtomSpan) (i : ℕ) (a : AtomSpan) →
    i < length atoms → a ≡ get_or atoms i a →
    new ≡ before ++ replicate a.leaves (byte_of text a.start, byte_of text a.end) → before ++ spans_of text (drop i atoms) ≡ all →
    new ++ spans_of text (drop (i + 1) atoms) ≡ all
more_spans text before new all atoms i a lt is added so_far =
    let own = replicate a.leaves (byte_of text a.start, byte_of text a.end) in
    let rest = spans_of text (drop (i + 1) atoms) in
    ap (λ l. l ++ rest) added ∙ append_assoc before own rest ∙ ap (λ l. before ++ spans_of text l) (sym (rest_at atoms i a lt is)) ∙ so_far

pub all_spans : (text : List ℕ) (before all : List (ℕ × ℕ)) (atoms : List AtomSpan) (i : ℕ) → length atoms ≤ i →
    before ++ spans_of text (drop i atoms) ≡ all → before ≡ all
all_spans text before all atoms i le so_far = sym (append-nil before) ∙ ap (λ l. before ++ spans_of text l) (sym (drop_all i atoms le)) ∙ so_far
