use Rattle.std.proofs.Common.{◌∙◌, sym, subst}
use Rattle.fancy_matches.specs.Matchers as engine
use Rattle.fancy_matches.specs.Matchers.{shown_match, with_span}
use Rattle.fancy_regex.proofs.Replies.{easy_error, search_fails}
use Rattle.fancy_regex.proofs.regexes.Regex.matched.Goals as goal

pub returns-in-Ok-clause-promise : goal.returns-in-Ok-clause-promise
returns-in-Ok-clause-promise c i text o h = subst (engine.FindsMatch i text o) c.in-Ok.is h

pub returns-in-Err-clause-promise : goal.returns-in-Err-clause-promise
returns-in-Err-clause-promise c i text o h =
    search_fails shown_match (with_span text) shown_match (with_span text) i text o c.in-Err.error c.told.result c.told.ensures.engine
    (subst (engine.FindsMatch i text o) c.in-Err.is h)

pub returns-in-Err-clause-easy : goal.returns-in-Err-clause-easy
returns-in-Err-clause-easy c r text = easy_error r text c.in-Err.error c.told.result c.args.found c.told.ensures.engine c.in-Err.is

pub returns-in-Ok-clause-limits : goal.returns-in-Ok-clause-limits
returns-in-Ok-clause-limits c h = sym (subst (λ found. engine.StaysIn found c.args.self.now.engine) c.in-Ok.is h)

pub returns-in-Err-clause-limits : goal.returns-in-Err-clause-limits
returns-in-Err-clause-limits c h = c.told.ensures.limit (subst (λ found. engine.StaysIn found c.args.self.now.engine) c.in-Err.is h)
