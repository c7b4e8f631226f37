use Rattle.std.proofs.Common.{◌≡◌, ◌+◌, ◌∙◌, sym, subst, arith}
use Rattle.std.proofs.lemmas.Bool.{false≢true}
use Rattle.memchr.specs.Find.{Nowhere}
use Rattle.fancy_literals.specs.Starts.{IsNextStart}
use Rattle.fancy_literals.proofs.StartLaws.{MayBegin, found_before, none_before, one_further}
use Rattle.fancy_literals.proofs.starts.Starts.next_preceded.Goals as goal

pub returns-in_err-at : goal.returns-in_err-at
returns-in_err-at c =
    let starts = c.args.self.now in
    let text = c.args.text.now in
    subst (IsNextStart starts text c.args.from) (sym c.from_residual.ensures)
    (none_before starts text c.as_bytes-bytes.result.now (λ k. let fits = c.type_inv.text k in omega (arith, fits)) c.args.from c.seek.at
    c.as_bytes-bytes.ensures.value (omega arith)
    (one_further starts text c.args.from c.seek.at c.seek.invariant.0 (λ is. false≢true (sym c.if-passes.false ∙ c.passes.ensures is)))
    c.in_err-at.ensures)

pub seek-preserved : goal.seek-preserved
seek-preserved c =
    let starts = c.args.self.now in
    let text = c.args.text.now in
    let skip = c.in_ok-at.field-0 in
    let same : c.seek.at + skip + 1 ≡ c.seek.at + (skip + 1) = omega arith in
    let low = c.seek.invariant.1 in (
      subst (Nowhere (MayBegin starts text) c.args.from) same
          (found_before starts text c.as_bytes-bytes.result.now (λ k. let fits = c.type_inv.text k in omega (arith, fits)) c.args.from c.seek.at skip
          c.as_bytes-bytes.ensures.value (omega arith)
          (one_further starts text c.args.from c.seek.at c.seek.invariant.0 (λ is. false≢true (sym c.if-passes.false ∙ c.passes.ensures is)))
          c.in_ok-at.ensures),
      omega (arith, low),
    )
