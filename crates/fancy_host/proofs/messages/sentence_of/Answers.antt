use Rattle.std.proofs.Common.{◌≤◌, length, sym, arith, codes}
use Rattle.std.proofs.lemmas.List.{get_or_past}
use Rattle.fancy_host.specs.Messages.{sentences}
use Rattle.fancy_host.proofs.messages.sentence_of.Goals as goal

pub returns-in_default : goal.returns-in_default
returns-in_default c =
    let past : length sentences ≤ c.args.code = omega (arith, c.in_default) in
    sym (get_or_past sentences c.args.code (codes "no error has this code") past)
