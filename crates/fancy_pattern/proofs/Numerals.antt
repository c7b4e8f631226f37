-- Numbers as their digits are read from left to right.
use Rattle.std.proofs.Common.{◌≡◌, ◌<◌, ◌≤◌, ◌+◌, ◌*◌, ◌∷◌, [], ℕ, List, length, get_or, drop, arith}
use Rattle.std.proofs.lemmas.List.{drop_more}
use Rattle.std.proofs.Math.Nat.{mul-le-mul_left}
use Rattle.std.specs.Char.{digit_value}
use Rattle.std.specs.Str.Parse.{digits_value_after}

-- more digits make no smaller number
pub digits_grow : (radix n : ℕ) (ds : List ℕ) → 0 < radix → n ≤ digits_value_after radix n ds
digits_grow radix n [] h = omega arith
digits_grow radix n (d ∷ ds) h =
    let one : 1 ≤ radix = omega arith in
    omega (arith, digits_grow radix (n * radix + digit_value d) ds h, mul-le-mul_left n one)

-- one more digit is read
pub next_digit : (radix n : ℕ) (ds : List ℕ) (i d : ℕ) → i < length ds → d ≡ get_or ds i 0 →
    digits_value_after radix n (drop i ds) ≡ digits_value_after radix (n * radix + digit_value d) (drop (i + 1) ds)
next_digit radix n ds i d h e = rw (e, drop_more ds i 0 h)
