use Rattle.std.proofs.Common.{string_bytes, sym, ap, ap₂, subst, ◌∙◌}
use Rattle.fancy_literals.specs.Takes.{AreRead}
use Rattle.fancy_literals.specs.declared.required.Literals.{Literals}
use Rattle.fancy_literals.proofs.TakenLaws.{longer_taken, row_ends}
use Rattle.fancy_literals.proofs.required.Literals.end_row.Goals as goal

pub returns : goal.returns
returns c = λ behind es e read takes.
    let was : AreRead behind (record { longest = c.take.result; row = c.replace-row.result }) es =
    subst (λ (r : Literals). AreRead behind r es)
    (ap₂ (λ o s. record { longest = o; row = s }) (sym c.take.ensures.value) (sym c.replace-row.ensures.value)) read in
    row_ends behind c.longer-longest.result c.args.taken c.longer_of_both.result c.replace-row.new.dest es e
    (longer_taken behind c.take.result c.replace-row.result es was c.longer-longest.result c.longer-longest.ensures) takes
    c.longer_of_both.ensures (ap string_bytes c.replace-row.ensures.after ∙ c.new.ensures.bytes)
