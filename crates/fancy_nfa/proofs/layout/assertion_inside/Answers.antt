use Rattle.std.proofs.Common.{◌≡◌, Bool, true, false, refl, sym, ap, ◌∙◌}
use Rattle.fancy_meaning.specs.Tree.{Within, NoLook, InLookAhead, InLookBehind, StartLine}
use Rattle.fancy_meaning.specs.Assertions.{assertion_within}
use Rattle.fancy_expr.specs.declared.expr.Assertion.{Assertion}
use Rattle.fancy_expr.specs.declared.expr.Assertion.TheVariants as code
use Rattle.fancy_expr.specs.Views.{assertion_of}
use Rattle.fancy_info.specs.Infos.{is_look}
use Rattle.fancy_nfa.proofs.layout.assertion_inside.Goals as goal

outside : (w : Within) (a : Assertion) → is_look w ≡ false → assertion_of a ≡ assertion_within w (assertion_of a)
outside NoLook a e = refl
outside InLookAhead a e = cc
outside InLookBehind a e = cc

line_start : (w : Within) (crlf : Bool) → is_look w ≡ true → StartLine crlf ≡ assertion_within w (assertion_of (code.StartLineOniguruma crlf))
line_start NoLook crlf e = cc
line_start InLookAhead crlf e = refl
line_start InLookBehind crlf e = refl

-- each other assertion is the same everywhere
kept : (b : Assertion) → ((crlf : Bool) → ¬ (b ≡ code.StartLineOniguruma crlf)) →
    (assertion_of b ≡ assertion_within InLookAhead (assertion_of b)) × (assertion_of b ≡ assertion_within InLookBehind (assertion_of b))
kept code.StartText apart = (refl, refl)
kept code.EndText apart = (refl, refl)
kept (code.EndTextIgnoreTrailingNewlines crlf) apart = (refl, refl)
kept (code.StartLine crlf) apart = (refl, refl)
kept (code.StartLineOniguruma crlf) apart = absurd (apart crlf refl)
kept (code.EndLine crlf) apart = (refl, refl)
kept code.LeftWordBoundary apart = (refl, refl)
kept code.RightWordBoundary apart = (refl, refl)
kept code.LeftWordHalfBoundary apart = (refl, refl)
kept code.RightWordHalfBoundary apart = (refl, refl)
kept code.WordBoundary apart = (refl, refl)
kept code.NotWordBoundary apart = (refl, refl)

other : (w : Within) (a : Assertion) → ((crlf : Bool) → ¬ (a ≡ code.StartLineOniguruma crlf)) → assertion_of a ≡ assertion_within w (assertion_of a)
other NoLook a apart = refl
other InLookAhead a apart = (kept a apart).0
other InLookBehind a apart = (kept a apart).1

pub returns-then-not-in_look : goal.returns-then-not-in_look
returns-then-not-in_look c = λ w e. outside w c.args.assertion (sym e ∙ c.if-not-in_look.true)

pub returns-in-StartLineOniguruma : goal.returns-in-StartLineOniguruma
returns-in-StartLineOniguruma c = λ w e.
    line_start w c.in-StartLineOniguruma.crlf (sym e ∙ c.if-not-in_look.false)
    ∙ ap (λ a. assertion_within w (assertion_of a)) (sym c.in-StartLineOniguruma.is)

pub returns-in_default : goal.returns-in_default
returns-in_default c = λ w e. other w c.args.assertion c.in_default.not-StartLineOniguruma
