use Rattle.std.proofs.Common.{◌+◌, ◌-◌, ◌∙◌, List, None, Some, drop, length, sym, subst, take, ℕ, arith}
use Rattle.std.proofs.lemmas.Bool.{false≢true}
use Rattle.memchr.specs.Find.{FindsNeedle}
use Rattle.fancy_literals.specs.Starts.{IsNextStart}
use Rattle.fancy_literals.proofs.StartLaws.{next_literal, one_further}
use Rattle.fancy_literals.proofs.starts.Starts.next_literal.Goals as goal

pub returns-in_err-found : goal.returns-in_err-found
returns-in_err-found c =
    let starts = c.args.self.now in
    let text = c.args.text.now in
    let bytes = c.as_bytes-bytes.result.now in
    let at = c.seek.at in
    let rest : List ℕ = take (length bytes - at) (drop at bytes) in
    subst (IsNextStart starts text c.args.from) (sym c.from_residual.ensures)
    (next_literal starts text bytes c.args.from at None c.as_bytes-bytes.ensures.value (omega arith) c.seek.invariant.0
    (subst (λ l. FindsNeedle rest l 0 None) c.as_bytes.ensures.value c.in_err-found.ensures))

pub returns-then-passes : goal.returns-then-passes
returns-then-passes c =
    let starts = c.args.self.now in
    let text = c.args.text.now in
    let bytes = c.as_bytes-bytes.result.now in
    let at = c.seek.at in
    let rest : List ℕ = take (length bytes - at) (drop at bytes) in
    let skip = c.in_ok-found.field-0 in
    let told =
    next_literal starts text bytes c.args.from at (Some skip) c.as_bytes-bytes.ensures.value (omega arith) c.seek.invariant.0
    (subst (λ l. FindsNeedle rest l 0 (Some skip)) c.as_bytes.ensures.value c.in_ok-found.ensures) in
    let low = c.seek.invariant.1 in
    let fits = told.0 in
    record {
      low = omega (arith, low);
      high = omega (arith, fits);
      before = told.1;
    }

pub seek-preserved : goal.seek-preserved
seek-preserved c =
    let starts = c.args.self.now in
    let text = c.args.text.now in
    let bytes = c.as_bytes-bytes.result.now in
    let at = c.seek.at in
    let rest : List ℕ = take (length bytes - at) (drop at bytes) in
    let skip = c.in_ok-found.field-0 in
    let told =
    next_literal starts text bytes c.args.from at (Some skip) c.as_bytes-bytes.ensures.value (omega arith) c.seek.invariant.0
    (subst (λ l. FindsNeedle rest l 0 (Some skip)) c.as_bytes.ensures.value c.in_ok-found.ensures) in
    let low = c.seek.invariant.1 in
    (one_further starts text c.args.from (at + skip) told.1 (λ is. false≢true (sym c.if-passes.false ∙ c.passes.ensures is)), omega (arith, low))
