use Rattle.std.proofs.Common.{◌≤◌, length, [], sym, arith}
use Rattle.std.proofs.lemmas.List.{get_or_past}
use Rattle.fancy_host.specs.Codes.{names}
use Rattle.fancy_host.proofs.outcome.name_of.Goals as goal

pub returns-in_default : goal.returns-in_default
returns-in_default c =
    let past : length names ≤ c.args.code = omega (arith, c.in_default) in
    sym (get_or_past names c.args.code [] past)
