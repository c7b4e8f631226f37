use Rattle.std.proofs.Common.{◌||◌, ◌==◌, sym, ap, ◌∙◌}
use Rattle.ucd_perl.proofs.PerlLemmas.{is_word_char-ascii}
use Rattle.fancy_characters.proofs.SimpleLaws.{digit-ascii, space-ascii}
use Rattle.fancy_characters.proofs.simple_classes.SimpleClass.takes_ascii.Goals as goal

pub returns-in-Word : goal.returns-in-Word
returns-in-Word c =
    rw c.in-Word.is (ap (λ b. b || (c.args.c == 95)) c.is_ascii_alphanumeric.ensures.value ∙ sym (is_word_char-ascii c.args.c c.requires))

pub returns-in-Digit : goal.returns-in-Digit
returns-in-Digit c = rw c.in-Digit.is (c.is_ascii_digit.ensures.value ∙ sym (digit-ascii c.args.c c.requires))

pub returns-in-Space : goal.returns-in-Space
returns-in-Space c = rw c.in-Space.is (sym (space-ascii c.args.c c.requires))
