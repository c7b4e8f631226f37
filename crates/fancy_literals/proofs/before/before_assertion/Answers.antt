use Rattle.std.proofs.Common.{false, refl, replicate, subst, sym, true}
use Rattle.fancy_meaning.specs.Tree.{Assert}
use Rattle.fancy_expr.specs.Views.{assertion_of}
use Rattle.fancy_literals.specs.Befores.{IsBefore}
use Rattle.fancy_literals.specs.declared.before.Before.{Before}
use Rattle.fancy_literals.proofs.BeforeLaws.{line_before, other_line_before, text_before}
use Rattle.fancy_literals.proofs.before.before_assertion.Goals as goal

pub returns-in-StartText : goal.returns-in-StartText
returns-in-StartText c unicode at_end old =
    let before : Before = record { bytes = replicate 256 false; at_start = true } in
    subst (λ a. IsBefore unicode at_end before (Assert old (assertion_of a))) (sym c.in-StartText.is) (text_before unicode at_end before old refl)

pub returns-in-StartLine : goal.returns-in-StartLine
returns-in-StartLine c unicode at_end old =
    let before = c.line.result in
    subst (λ a. IsBefore unicode at_end before (Assert old (assertion_of a))) (sym c.in-StartLine.is)
    (line_before unicode at_end before c.in-StartLine.crlf c.line.ensures.at_start c.line.ensures.feed c.line.ensures.carriage old)

pub returns-in-StartLineOniguruma : goal.returns-in-StartLineOniguruma
returns-in-StartLineOniguruma c unicode at_end old =
    let before = c.line-in-StartLineOniguruma.result in
    let told = c.line-in-StartLineOniguruma.ensures in
    subst (λ a. IsBefore unicode at_end before (Assert old (assertion_of a))) (sym c.in-StartLineOniguruma.is)
    (other_line_before unicode at_end before c.in-StartLineOniguruma.crlf told.at_start told.feed told.carriage old)
