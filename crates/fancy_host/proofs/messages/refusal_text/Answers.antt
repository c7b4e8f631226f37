use Rattle.std.proofs.Common.{◌++◌, ap, ◌∙◌}
use Rattle.std.specs.Prelude.{unwrap_or}
use Rattle.fancy_meaning.specs.Numbers.{usize_max}
use Rattle.fancy_host.specs.Messages.{at_byte}
use Rattle.fancy_host.proofs.Said.{fault_by}
use Rattle.fancy_host.proofs.messages.refusal_text.Goals as goal

pub returns : goal.returns
returns c =
    let fault = c.in_ok-fault.fault in
    record {
      fault = fault;
      is = fault_by c.args.options.now c.parsing.ensures c.analysis-context.ensures c.request.ensures c.in_ok-fault.ensures;
      whole = c.in_ok-push_str.ensures.bytes
          ∙ ap (λ b. b ++ c.as_str.result.now) (c.in_ok-text.ensures ∙ ap at_byte c.unwrap_or.ensures)
          ∙ ap (λ b. at_byte (unwrap_or fault.at usize_max) ++ b) c.as_str.ensures.value;
    }
