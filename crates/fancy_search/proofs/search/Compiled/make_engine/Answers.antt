use Rattle.std.proofs.Common.{is_some, ap}
use Rattle.fancy_search.proofs.GearLaws.{gear_made}
use Rattle.fancy_search.proofs.search.Compiled.make_engine.Goals as goal

pub returns-in-Ok-clause-suits : goal.returns-in-Ok-clause-suits
returns-in-Ok-clause-suits c = gear_made c.args.self.now c.in-Some.common c.in-Some.is c.in-Ok.made c.in-Ok.ensures

pub returns-in-Ok-clause-common : goal.returns-in-Ok-clause-common
returns-in-Ok-clause-common c = ap is_some c.in-Some.is

pub returns-else-is_none-clause-common : goal.returns-else-is_none-clause-common
returns-else-is_none-clause-common c = ap is_some c.in-Some.is
