-- The characters that bytes spell, from a place on.
use Rattle.std.proofs.Common.{◌≡◌, ℕ, zero, suc, ◌+◌, ◌-◌, ◌*◌, ◌<◌, ◌≤◌, List, [], ◌∷◌, length, drop, slice_index, refl, ap, arith, drop_of_length-le, ◌∙◌}
use Rattle.std.specs.Str.{chars, chars_after, continuation_len, lead_bits}
use Rattle.fancy_characters.proofs.RestLaws.{rest_here}

-- a bound on what is known of a character's code while so many of its bytes are still to come
abbrev pub most_before : ℕ → ℕ
most_before zero = 0x1000_0000
most_before (suc zero) = 0x20_0000
most_before (suc (suc zero)) = 0x4000
most_before (suc (suc (suc n))) = 128

pub chars_past : (bs : List ℕ) (i : ℕ) → length bs ≤ i → chars (drop i bs) ≡ []
unfolding chars
chars_past bs i h = ap chars (drop_of_length-le bs {i = i} h)

pub chars_here : (bs : List ℕ) (i : ℕ) → i < length bs →
    chars (drop i bs) ≡ chars_after (continuation_len (slice_index bs i)) (lead_bits (slice_index bs i)) (drop (i + 1) bs)
unfolding chars
chars_here bs i h = ap chars (rest_here bs i 0 h)

pub after_last : (c : ℕ) (bs : List ℕ) → chars_after zero c bs ≡ c ∷ chars bs
unfolding chars
after_last c [] = refl
after_last c (b ∷ bs) = refl

pub after_past : (n c : ℕ) (bs : List ℕ) (i : ℕ) → 0 < n → length bs ≤ i → chars_after n c (drop i bs) ≡ []
after_past zero c bs i some h = absurd (omega (arith, some))
after_past (suc n) c bs i some h = ap (chars_after (suc n) c) (drop_of_length-le bs {i = i} h)

pub after_more : (n c : ℕ) (bs : List ℕ) (i : ℕ) → 0 < n → i < length bs →
    chars_after n c (drop i bs) ≡ chars_after (n - 1) (c * 64 + (slice_index bs i - 128)) (drop (i + 1) bs)
after_more zero c bs i some h = absurd (omega (arith, some))
after_more (suc n) c bs i some h =
    let back : n ≡ suc n - 1 = omega arith in
    ap (chars_after (suc n) c) (rest_here bs i 0 h)
    ∙ ap (λ m. chars_after m (c * 64 + (slice_index bs i - 128)) (drop (i + 1) bs)) back

-- the code stays small enough
pub most_more : (n c b : ℕ) → 0 < n → n ≤ 3 → c < most_before n → b < 256 → c * 64 + (b - 128) < most_before (n - 1)
most_more zero c b some few small byte = absurd (omega (arith, some))
most_more (suc zero) c b some few small byte = omega (arith, small, byte)
most_more (suc (suc zero)) c b some few small byte = omega (arith, small, byte)
most_more (suc (suc (suc zero))) c b some few small byte = omega (arith, small, byte)
most_more (suc (suc (suc (suc n)))) c b some few small byte = absurd (omega (arith, few))

pub most_fits : (n c : ℕ) → c < most_before n → c < 0x1000_0000
most_fits zero c small = small
most_fits (suc zero) c small = omega (arith, small)
most_fits (suc (suc zero)) c small = omega (arith, small)
most_fits (suc (suc (suc n))) c small = omega (arith, small)

pub most_first : (n c : ℕ) → c < 128 → c < most_before n
most_first zero c small = omega (arith, small)
most_first (suc zero) c small = omega (arith, small)
most_first (suc (suc zero)) c small = omega (arith, small)
most_first (suc (suc (suc n))) c small = small
