use Rattle.std.proofs.Common.{sym}
use Rattle.fancy_pattern.specs.Grammar.{closing}
use Rattle.fancy_pattern.proofs.Points.{takes_at}
use Rattle.fancy_pattern.proofs.reader.Reader.read_close.Goals as goal

pub returns-clause-takes : goal.returns-clause-takes
returns-clause-takes c =
    takes_at closing c.args.self.now c.skip.new.self (sym c.if-not-is_at_close.ensures.value) c.skip.ensures.skips
