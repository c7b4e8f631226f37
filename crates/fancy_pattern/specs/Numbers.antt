-- The numbers that digits write.
use Rattle.std.specs.Prelude.{ℕ, ◌^◌, ℤ, pos, neg_ℤ, Bool, List, Option, Some, None, option_and_then, if◌then◌else◌, nat_lt}
use Rattle.std.specs.Str.Parse.{digits_value}

-- below 2 ^ 64
unfoldable pub number_of : ℕ → List ℕ → Option ℕ
number_of radix digits = if nat_lt (digits_value radix digits) (2 ^ 64) then Some (digits_value radix digits) else None

abbrev pub signed : Bool → ℕ → ℤ
signed negative n = if negative then neg_ℤ (pos n) else pos n

-- a level, below 2 ^ 63
abbrev pub level_of : Bool → List ℕ → Option ℤ
level_of negative digits =
    option_and_then (λ n. if nat_lt n (2 ^ 63) then Some (signed negative n) else None) (number_of 10 digits)
