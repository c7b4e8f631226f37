use Rattle.std.proofs.Common.{refl}
use Rattle.fancy_meaning.specs.Assertions.{holds}
use Rattle.fancy_characters.proofs.look.holds_in.Goals as goal

pub returns-in-StartText : goal.returns-in-StartText
unfolding holds
returns-in-StartText c = rw c.in-StartText.is refl

pub returns-in-EndText : goal.returns-in-EndText
unfolding holds
returns-in-EndText c = rw c.in-EndText.is refl

pub returns-in-EndTextIgnoreTrailingNewlines : goal.returns-in-EndTextIgnoreTrailingNewlines
unfolding holds
returns-in-EndTextIgnoreTrailingNewlines c = rw (c.in-EndTextIgnoreTrailingNewlines.is, c.only_newlines_left.ensures) refl

pub returns-in-StartLine : goal.returns-in-StartLine
unfolding holds
returns-in-StartLine c = rw (c.in-StartLine.is, c.is_line_start.ensures) refl

pub returns-in-StartLineOniguruma : goal.returns-in-StartLineOniguruma
unfolding holds
returns-in-StartLineOniguruma c = rw (c.in-StartLineOniguruma.is, c.is_line_start-in-StartLineOniguruma.ensures) refl

pub returns-in-EndLine : goal.returns-in-EndLine
unfolding holds
returns-in-EndLine c = rw (c.in-EndLine.is, c.is_line_end.ensures) refl

pub returns-in-LeftWordBoundary : goal.returns-in-LeftWordBoundary
unfolding holds
returns-in-LeftWordBoundary c = rw (c.in-LeftWordBoundary.is, c.word_before.ensures, c.word_after.ensures) refl

pub returns-in-RightWordBoundary : goal.returns-in-RightWordBoundary
unfolding holds
returns-in-RightWordBoundary c = rw (c.in-RightWordBoundary.is, c.word_before-in-RightWordBoundary.ensures, c.word_after-in-RightWordBoundary.ensures) refl

pub returns-in-LeftWordHalfBoundary : goal.returns-in-LeftWordHalfBoundary
unfolding holds
returns-in-LeftWordHalfBoundary c = rw (c.in-LeftWordHalfBoundary.is, c.word_before-in-LeftWordHalfBoundary.ensures) refl

pub returns-in-RightWordHalfBoundary : goal.returns-in-RightWordHalfBoundary
unfolding holds
returns-in-RightWordHalfBoundary c = rw (c.in-RightWordHalfBoundary.is, c.word_after-in-RightWordHalfBoundary.ensures) refl

pub returns-in-WordBoundary : goal.returns-in-WordBoundary
unfolding holds
returns-in-WordBoundary c = rw (c.in-WordBoundary.is, c.differ.ensures, c.word_before-in-WordBoundary.ensures, c.word_after-in-WordBoundary.ensures) refl

pub returns-in-NotWordBoundary : goal.returns-in-NotWordBoundary
unfolding holds
returns-in-NotWordBoundary c =
    rw (c.in-NotWordBoundary.is, c.differ-in-NotWordBoundary.ensures, c.word_before-in-NotWordBoundary.ensures, c.word_after-in-NotWordBoundary.ensures) refl
