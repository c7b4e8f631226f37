use Rattle.std.proofs.Common.{◌+◌, ◌∙◌, sym, subst, arith}
use Rattle.std.proofs.lemmas.Bool.{false≢true}
use Rattle.fancy_literals.specs.Starts.{IsNextStart}
use Rattle.fancy_literals.proofs.StartLaws.{found_in_rest, none_in_rest, one_further}
use Rattle.fancy_literals.proofs.starts.Starts.next_sought.Goals as goal

pub returns-in_err-found : goal.returns-in_err-found
returns-in_err-found c =
    subst (IsNextStart c.args.self.now c.args.text.now c.args.from) (sym c.from_residual.ensures)
    (none_in_rest c.args.self.now c.args.text.now c.as_bytes-bytes.result.now c.args.from c.seek.at c.as_bytes-bytes.ensures.value (omega arith)
    c.seek.invariant.0 c.in_err-found.ensures)

pub returns-then-passes : goal.returns-then-passes
returns-then-passes c =
    found_in_rest c.args.self.now c.args.text.now c.as_bytes-bytes.result.now c.args.from c.seek.at c.in_ok-found.field-0 c.as_bytes-bytes.ensures.value
    (omega arith) c.seek.invariant.0 c.seek.invariant.1 c.in_ok-found.ensures

pub seek-preserved : goal.seek-preserved
seek-preserved c =
    let starts = c.args.self.now in
    let text = c.args.text.now in
    let found = c.seek.at + c.in_ok-found.field-0 in
    let next =
    found_in_rest starts text c.as_bytes-bytes.result.now c.args.from c.seek.at c.in_ok-found.field-0 c.as_bytes-bytes.ensures.value (omega arith)
    c.seek.invariant.0 c.seek.invariant.1 c.in_ok-found.ensures in
    let low = next.low in
    (one_further starts text c.args.from found next.before (λ is. false≢true (sym c.if-passes.false ∙ c.passes.ensures is)), omega (arith, low))
