use Rattle.std.proofs.Common.{◌∙◌, ap, get_or, length, sym, arith}
use Rattle.std.proofs.lemmas.Bool.{and_from, false≢true}
use Rattle.fancy_literals.specs.ByteSets.{is_in}
use Rattle.fancy_literals.proofs.StartLaws.{assertion_holds, byte_is_in, one_further, preceded_after, what_is_before}
use Rattle.fancy_literals.proofs.starts.Starts.next_by_byte.Goals.{else-is_preceded-self-via-else-is_preceded-self, else-is_preceded-self-via-then-is_preceded-self+else-allows}
use Rattle.fancy_literals.proofs.starts.Starts.next_by_byte.Goals as goal

pub bytes-preserved : goal.bytes-preserved
bytes-preserved c =
    let starts = c.args.self.now in
    let text = c.args.text.now in
    let at = c.bytes.at in
    let same = c.as_bytes-bytes.ensures.value in (
      one_further starts text c.args.from at c.bytes.invariant.0
          (λ is. elim c.else-is_preceded-self.branch [
            | else-is_preceded-self-via-then-is_preceded-self+else-allows w ↦ false≢true (w.if-allows.ensures ∙ assertion_holds starts text at is)
            | else-is_preceded-self-via-else-is_preceded-self w ↦
                false≢true (sym w.if-is_preceded-self.false
                ∙ and_from c.bytes.is_preceded _ (c.bytes.invariant.1 ∙ what_is_before starts text at is)
                (ap (λ l. is_in starts.first.bytes (get_or l at 0)) same ∙ byte_is_in starts text at (omega (arith, ap length same)) is))
          ]),
      ap (λ l. is_in starts.before.bytes (get_or l at 0)) same ∙ preceded_after starts text at (omega (arith, ap length same)) (let fits = c.type_inv.text at in omega (arith, fits)),
    )
