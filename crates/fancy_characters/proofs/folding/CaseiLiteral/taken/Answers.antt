use Rattle.std.proofs.Common.{arith, sym, ap, ◌∙◌}
use Rattle.regex_hir.proofs.TextLemmas.{char_at_fits}
use Rattle.fancy_meaning.specs.Chars.{literal_takes}
use Rattle.fancy_characters.proofs.FoldingLaws.{none_there, other_there, taken_there}
use Rattle.fancy_characters.proofs.folding.CaseiLiteral.taken.Goals as goal

pub returns-in_err-d-clause-taken : goal.returns-in_err-d-clause-taken
returns-in_err-d-clause-taken c =
    let unicode = c.args.self.now.unicode in
    let nothing = none_there c.args.text.now (λ d. literal_takes unicode d.0 d.1) c.args.self.now.chars.items c.index.result.now c.take.i c.take.at
    (omega arith) (sym c.in_err-d.ensures) in
    rw c.from_residual.ensures (sym nothing ∙ c.take.invariant.0)

pub returns-then-not-literal_takes-clause-taken : goal.returns-then-not-literal_takes-clause-taken
returns-then-not-literal_takes-clause-taken c =
    let unicode = c.args.self.now.unicode in
    let other = other_there c.args.text.now (λ d. literal_takes unicode d.0 d.1) c.args.self.now.chars.items c.index.result.now c.take.i c.take.at
    (omega arith) c.in_ok-d.d
    (sym c.in_ok-d.ensures) (ap (λ d. literal_takes unicode d.0 d.1 c.in_ok-d.d) (sym c.index.ensures) ∙ sym c.if-not-literal_takes.ensures) in
    sym other ∙ c.take.invariant.0

pub overflow_add-at : goal.overflow_add-at
overflow_add-at c = omega (arith, c.len_utf8-at.ensures, char_at_fits c.args.text.now c.take.at c.in_ok-d.d (sym c.in_ok-d.ensures))

pub take-preserved : goal.take-preserved
take-preserved c =
    let unicode = c.args.self.now.unicode in
    let more = taken_there c.args.text.now (λ d. literal_takes unicode d.0 d.1) c.args.self.now.chars.items c.index.result.now c.take.i c.take.at
    (omega arith) c.in_ok-d.d
    (sym c.in_ok-d.ensures) (ap (λ d. literal_takes unicode d.0 d.1 c.in_ok-d.d) (sym c.index.ensures) ∙ sym c.if-not-literal_takes.ensures) in (
      rw c.len_utf8-at.ensures (sym more ∙ c.take.invariant.0),
      omega (arith, c.take.invariant.1),
      omega (arith, c.take.invariant.2, c.len_utf8-at.ensures, char_at_fits c.args.text.now c.take.at c.in_ok-d.d (sym c.in_ok-d.ensures)),
    )
