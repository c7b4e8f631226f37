use Rattle.std.proofs.Common.{true, false, refl, slice_index_or}
use Rattle.std.proofs.lemmas.Bool.{or_left, or_right}
use Rattle.std.proofs.lemmas.List.{get_or-replicate}
use Rattle.fancy_literals.proofs.bytes.both.Goals as goal

pub bytes-init : goal.bytes-init
bytes-init c = ((λ byte below either. get_or-replicate 256 byte true false below), refl)

pub returns-clause-first : goal.returns-clause-first
returns-clause-first c = λ byte below is.
    c.bytes.invariant.0 byte below (or_left (slice_index_or c.args.first.now byte false) (slice_index_or c.args.second.now byte false) is)

pub returns-clause-second : goal.returns-clause-second
returns-clause-second c = λ byte below is.
    c.bytes.invariant.0 byte below (or_right (slice_index_or c.args.first.now byte false) (slice_index_or c.args.second.now byte false) is)
