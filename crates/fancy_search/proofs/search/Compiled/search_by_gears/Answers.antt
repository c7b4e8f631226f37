use Rattle.std.proofs.Common.{◌∙◌}
use Rattle.fancy_search.proofs.search.Compiled.search_by_gears.Goals as goal

pub returns-in-None-clause-limits : goal.returns-in-None-clause-limits
returns-in-None-clause-limits c = c.search_in_second_gear-in-None.ensures.limits ∙ c.search_in_first_gear.ensures.limits
