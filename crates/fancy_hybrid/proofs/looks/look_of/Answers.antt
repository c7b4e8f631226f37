use Rattle.std.proofs.Common.{refl, sym, subst}
use Rattle.regex_hir.specs.declared.look.Look.TheVariants.{WordUnicode, WordStartUnicode, WordEndUnicode}
use Rattle.fancy_expr.specs.Views.{assertion_of}
use Rattle.fancy_agreement.specs.First.{IsSameLook}
use Rattle.fancy_agreement.proofs.SameLooks.{start_text, end_text, start_line, end_line, word_boundary, left_word_boundary, right_word_boundary}
use Rattle.fancy_hybrid.proofs.LookLaws.{told}
use Rattle.fancy_hybrid.proofs.looks.look_of.Goals as goal

pub returns-in-StartText : goal.returns-in-StartText
returns-in-StartText c = told _ _ _ _ _ c.in-StartText.is refl (start_text c.args.unicode)

pub returns-in-EndText : goal.returns-in-EndText
returns-in-EndText c = told _ _ _ _ _ c.in-EndText.is refl (end_text c.args.unicode)

pub returns-in-StartLine : goal.returns-in-StartLine
returns-in-StartLine c =
    told _ _ _ _ _ c.in-StartLine.is c.start_of_line.ensures (start_line c.args.unicode c.in-StartLine.crlf)

pub returns-in-EndLine : goal.returns-in-EndLine
returns-in-EndLine c = told _ _ _ _ _ c.in-EndLine.is c.end_of_line.ensures (end_line c.args.unicode c.in-EndLine.crlf)

pub returns-in-WordBoundary : goal.returns-in-WordBoundary
returns-in-WordBoundary c =
    subst (λ u. IsSameLook u (assertion_of c.args.assertion) WordUnicode) (sym c.if-unicode.true)
    (told _ _ _ _ _ c.in-WordBoundary.is refl word_boundary)

pub returns-in-LeftWordBoundary : goal.returns-in-LeftWordBoundary
returns-in-LeftWordBoundary c =
    subst (λ u. IsSameLook u (assertion_of c.args.assertion) WordStartUnicode) (sym c.if-unicode-2.true)
    (told _ _ _ _ _ c.in-LeftWordBoundary.is refl left_word_boundary)

pub returns-in-RightWordBoundary : goal.returns-in-RightWordBoundary
returns-in-RightWordBoundary c =
    subst (λ u. IsSameLook u (assertion_of c.args.assertion) WordEndUnicode) (sym c.if-unicode-3.true)
    (told _ _ _ _ _ c.in-RightWordBoundary.is refl right_word_boundary)
