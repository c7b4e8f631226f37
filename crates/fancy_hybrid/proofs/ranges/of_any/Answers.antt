use Rattle.std.proofs.Common.{[], ◌∷◌, ap, ap₂, sym, ◌∙◌}
use Rattle.fancy_meaning.specs.Chars.{any_takes}
use Rattle.fancy_agreement.proofs.SameRanges.{any_same, crlf_line_same, line_same}
use Rattle.fancy_hybrid.proofs.RangeLaws.{made_same}
use Rattle.fancy_hybrid.proofs.ranges.of_any.Goals as goal

pub returns-then-newline : goal.returns-then-newline
returns-then-newline c =
    made_same _ ((0, 0x10_FFFF) ∷ []) _ c.from_ranges.ensures
    (λ d most. any_same c.args.crlf d most ∙ ap (λ b. any_takes b c.args.crlf d) (sym c.if-newline.true))

pub returns-then-crlf : goal.returns-then-crlf
returns-then-crlf c =
    made_same _ ((0, 9) ∷ (11, 12) ∷ (14, 0x10_FFFF) ∷ []) _ c.from_ranges-then-crlf.ensures
    (λ d most. crlf_line_same d most ∙ ap₂ (λ a b. any_takes a b d) (sym c.if-newline.false) (sym c.if-crlf.true))

pub returns : goal.returns
returns c =
    made_same _ ((0, 9) ∷ (11, 0x10_FFFF) ∷ []) _ c.from_ranges-2.ensures
    (λ d most. line_same d most ∙ ap₂ (λ a b. any_takes a b d) (sym c.if-newline.false) (sym c.if-crlf.false))
