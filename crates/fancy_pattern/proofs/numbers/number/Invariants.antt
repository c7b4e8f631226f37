use Rattle.std.proofs.Common.{◌≡◌, ◌^◌, ◌<◌, drop}
use Rattle.std.specs.Str.Parse.{digits_value, digits_value_after}
use Rattle.fancy_pattern.proofs.numbers.number.Given as goal

-- what was read begins the number
abbrev pub invariant-loop-digit : goal.invariant-loop-digit
invariant-loop-digit l =
    (l.number < 2 ^ 64) × (digits_value l.radix l.digits ≡ digits_value_after l.radix l.number (drop l.digit-index l.digits))
