use Rattle.std.proofs.Common.{refl}
use Rattle.ucd_perl.specs.Perl.{is_digit_char, is_space_char}
use Rattle.fancy_characters.proofs.simple_classes.SimpleClass.takes.Goals as goal

pub returns-in-Digit : goal.returns-in-Digit
unfolding is_digit_char
returns-in-Digit c = rw (c.in-Digit.is, c.number.ensures, c.number-in-Digit.ensures, c.for_char.ensures) refl

pub returns-in-Space : goal.returns-in-Space
unfolding is_space_char
returns-in-Space c = rw c.in-Space.is c.is_white_space.ensures
