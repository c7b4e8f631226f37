use Rattle.std.proofs.Common.{◌+◌, ◌-◌, ◌∷◌, length, sym, ap, ◌∙◌, ap₂, arith, eqb-true}
use Rattle.std.proofs.lemmas.Bool.{eqb-false}
use Rattle.fancy_grep.specs.Lines.{lines, numbered}
use Rattle.fancy_grep.proofs.LineLaws.{none_left, numbered_step}
use Rattle.fancy_grep.proofs.lines.LinesIterator.next.Goals as goal

pub returns-then-is_empty-clause-steps : goal.returns-then-is_empty-clause-steps
returns-then-is_empty-clause-steps c =
    let s = c.args.self.now in
    let none = none_left s.number s.start s.rest.now (eqb-true _ 0 (sym c.is_empty.ensures ∙ c.if-is_empty.true)) in
    (none, none)

pub returns-clause-steps : goal.returns-clause-steps
returns-clause-steps c =
    let s = c.args.self.now in
    let some = eqb-false (length s.rest.now) 0 (sym c.is_empty.ensures ∙ c.if-is_empty.false) in
    numbered_step s.number s.start (s.start + (length s.rest.now - length c.first_line.result.1.now)) s.rest.now (omega (arith, some))
    (ap (λ l. s.start + (length s.rest.now - length l)) c.first_line.ensures.rest)
    ∙ ap₂ (λ line rest. record { number = s.number; start = s.start; text = line }
    ∷ numbered (s.number + 1) (s.start + (length s.rest.now - length c.first_line.result.1.now)) (lines rest))
    (sym c.first_line.ensures.line) (sym c.first_line.ensures.rest)
