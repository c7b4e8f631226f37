use Rattle.std.proofs.Common.{false, refl, replicate, true}
use Rattle.std.proofs.lemmas.List.{get_or-replicate}
use Rattle.fancy_literals.proofs.BeforeLaws.{all_follow, may_be_by}
use Rattle.fancy_literals.proofs.before.Before.anything.Goals as goal

pub returns : goal.returns
returns c text at =
    all_follow (record { bytes = replicate 256 true; at_start = true }) refl
    (λ byte. may_be_by (replicate 256 true) byte (λ below. get_or-replicate 256 byte true false below)) text at
