use Rattle.std.proofs.Common.{sym, ap, subst, arith}
use Rattle.std.proofs.lemmas.Bool.{leb-false}
use Rattle.fancy_literals.specs.Required.{Lacks}
use Rattle.fancy_grep.specs.Lines.{line_of}
use Rattle.fancy_grep.specs.Needles.{needle_of}
use Rattle.fancy_grep.specs.Standing.{IsLineIn}
use Rattle.fancy_grep.proofs.StandingLaws.{line_lacks}
use Rattle.fancy_grep.proofs.occurrences.Occurrences.may_stand_in.Goals as goal

pub returns-clause-lacks : goal.returns-clause-lacks
returns-clause-lacks c = λ is e.
    let s = c.come_to.new.self in
    subst (λ r. Lacks r c.args.line.text.now) (ap (λ p. p.0) c.come_to.ensures.same)
    (line_lacks (needle_of s.needle) s.text.now s.from s.next (line_of c.args.line) s.passed
    (subst (λ text. IsLineIn text (line_of c.args.line)) (sym (ap (λ p. p.1) c.come_to.ensures.same)) is) c.come_to.ensures.from
    (omega (arith, leb-false c.saturating_sub.result _ e, c.saturating_sub.ensures)))
