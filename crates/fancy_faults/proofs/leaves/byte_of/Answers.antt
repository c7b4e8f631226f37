use Rattle.std.proofs.Common.{ap, ◌∙◌, length, arith}
use Rattle.std.specs.Prelude.{slice_index_or, unwrap_or}
use Rattle.fancy_faults.proofs.Spans.{byte_at_index}
use Rattle.fancy_faults.proofs.leaves.byte_of.Goals as goal

pub returns : goal.returns
returns c =
    let end = length c.args.text.now in
    c.unwrap_or.ensures ∙ ap (λ o. unwrap_or o end) c.copied.ensures ∙ c.get.ensures.lookup.4 (omega arith) end
    ∙ ap (λ l. slice_index_or l c.args.i end) c.requires ∙ byte_at_index c.args.text.now c.args.i c.utf8.text
