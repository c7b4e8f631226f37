use Rattle.std.proofs.Common.{refl, get_or, drop, ◌+◌, ◌*◌, arith, ap}
use Rattle.std.proofs.lemmas.Bool.Decides.{nat_tests}
use Rattle.std.proofs.lemmas.Grind.{common_steps}
use Rattle.std.proofs.lemmas.List.{drop_all}
use Rattle.std.specs.Char.{digit_value}
use Rattle.std.specs.Str.Parse.{digits_value_after}
use Rattle.fancy_pattern.specs.Numbers.{number_of}
use Rattle.fancy_pattern.proofs.Numerals.{digits_grow, next_digit}
use Rattle.fancy_pattern.proofs.numbers.number.Goals as goal

pub returns-in_err-checked_mul : goal.returns-in_err-checked_mul
unfolding number_of
returns-in_err-checked_mul c =
    let step = next_digit c.args.radix c.loop-digit.number c.args.digits.now c.loop-digit.digit-index _ c.loop-digit-test.true refl in
    let grows = digits_grow c.args.radix (c.loop-digit.number * c.args.radix + digit_value (get_or c.args.digits.now c.loop-digit.digit-index 0))
    (drop (c.loop-digit.digit-index + 1) c.args.digits.now) c.requires in
    rw c.from_residual.ensures (grind (arith, nat_tests, common_steps, c.in_err-checked_mul.ensures))

pub returns-in_err-number : goal.returns-in_err-number
unfolding number_of
returns-in_err-number c =
    let step = next_digit c.args.radix c.loop-digit.number c.args.digits.now c.loop-digit.digit-index _ c.loop-digit-test.true refl in
    let grows = digits_grow c.args.radix (c.loop-digit.number * c.args.radix + digit_value (get_or c.args.digits.now c.loop-digit.digit-index 0))
    (drop (c.loop-digit.digit-index + 1) c.args.digits.now) c.requires in
    rw c.from_residual-in_err-number.ensures (grind (
      arith,
      nat_tests,
      common_steps,
      c.in_ok-checked_mul.ensures,
      c.in_err-number.ensures,
    ))

pub returns : goal.returns
unfolding number_of
returns c =
    let done = ap (digits_value_after c.args.radix c.loop-digit.number) (drop_all c.loop-digit.digit-index c.args.digits.now
    (omega arith)) in grind (arith, nat_tests, common_steps)
