use Rattle.std.proofs.Common.{string_bytes}
use Rattle.fancy_faults.specs.Words.{IsInvalid}
use Rattle.fancy_faults.proofs.Told.{ok_so}
use Rattle.fancy_faults.proofs.words.invalid_class.Goals as goal

pub returns : goal.returns
returns c =
    ok_so c.format.result _ (λ text. IsInvalid c.args.class.now (string_bytes text)) c.format.ensures.ok
    (λ text is. (c.in_ok-why.why.now, is))
