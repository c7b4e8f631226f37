use Rattle.std.proofs.Common.{arith}
use Rattle.std.proofs.lemmas.Bool.Decides.{nat_tests}
use Rattle.fancy_meaning.specs.Chars.{is_word}
use Rattle.fancy_characters.proofs.look.is_word.Goals as goal

pub returns-then-unicode : goal.returns-then-unicode
unfolding is_word
returns-then-unicode c = rw c.if-unicode.true c.is_word_code.ensures

pub returns-then-c-lt128 : goal.returns-then-c-lt128
unfolding is_word
returns-then-c-lt128 c = rw c.if-unicode.false c.is_word_byte.ensures

pub returns-else-c-lt128 : goal.returns-else-c-lt128
unfolding is_word
returns-else-c-lt128 c = rw c.if-unicode.false (grind (arith, nat_tests, c.if-c-lt128.false))
