use Rattle.std.proofs.Common.{◌≡◌, ◌-◌, ◌+◌, arith, ap, sym, ◌∙◌}
use Rattle.fancy_characters.proofs.LookLaws.{newline_first, none_left, other_first}
use Rattle.fancy_meaning.specs.Assertions.{only_newlines_left}
use Rattle.fancy_steps.proofs.TrailingNewlinesLaws.{newlines_here, newlines_at_start}
use Rattle.fancy_steps.proofs.trailing_newlines.newlines_start.Goals as goal

pub newlines-init : goal.newlines-init
newlines-init c = record { inside = omega arith; all = none_left c.args.text.now c.args.crlf _ (omega arith) }

pub returns-then-not-is_newline : goal.returns-then-not-is_newline
returns-then-not-is_newline c =
    newlines_here c.args.text.now c.args.crlf c.newlines.from c.newlines.invariant.inside c.newlines.invariant.all
    (λ pos. other_first c.args.text.now c.args.crlf (c.newlines.from - 1) (omega (arith, pos, c.newlines.invariant.inside)) (sym c.if-not-is_newline.ensures))

pub newlines-preserved : goal.newlines-preserved
newlines-preserved c =
    let next : c.newlines.from - 1 + 1 ≡ c.newlines.from = omega (arith, c.newlines-test.true) in
    record {
      inside = omega (arith, c.newlines.invariant.inside);
      all =
          newline_first c.args.text.now c.args.crlf (c.newlines.from - 1) (omega (arith, c.newlines-test.true, c.newlines.invariant.inside))
          (sym c.if-not-is_newline.ensures)
          ∙ ap (λ n. only_newlines_left c.args.text.now n c.args.crlf) next
          ∙ c.newlines.invariant.all;
    }

pub returns : goal.returns
returns c =
    let none : 0 ≡ c.newlines.from = omega (arith, c.newlines-test.false) in
    newlines_at_start c.args.text.now c.args.crlf (ap (λ n. only_newlines_left c.args.text.now n c.args.crlf) none ∙ c.newlines.invariant.all)
