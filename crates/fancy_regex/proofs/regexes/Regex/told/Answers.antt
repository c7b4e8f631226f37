use Rattle.std.proofs.Common.{sym, subst, ◌∙◌}
use Rattle.fancy_steps.specs.SearchLimits.{EndsBy}
use Rattle.fancy_regex.proofs.regexes.Regex.told.Goals as goal

pub returns-clause-limit : goal.returns-clause-limit
returns-clause-limit c h = c.of_search.ensures.limit (subst (EndsBy c.args.error) (sym c.passed.ensures) h) ∙ c.passed.ensures
