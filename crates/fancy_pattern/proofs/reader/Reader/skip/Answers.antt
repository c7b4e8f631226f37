use Rattle.std.proofs.Common.{◌-◌, length, drop, arith, length-drop}
use Rattle.std.proofs.lemmas.List.{take_all}
use Rattle.fancy_pattern.proofs.Points.{skipped}
use Rattle.fancy_pattern.proofs.reader.Reader.skip.Goals as goal

pub returns-clause-skips : goal.returns-clause-skips
returns-clause-skips c =
    let rest = c.args.self.now.rest.now in
    skipped c.args.self.now _ c.requires (take_all (length rest - 1) (drop 1 rest) (omega (arith, length-drop 1 rest)))
