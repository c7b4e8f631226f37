use Rattle.std.proofs.Common.{subst}
use Rattle.fancy_matches.specs.Matchers as engine
use Rattle.fancy_matches.specs.Matchers.{with_numbers}
use Rattle.fancy_regex.specs.Found.{shown_captures}
use Rattle.fancy_regex.proofs.Replies.{captures_found, easy_error, easy_names, names_told, search_fails}
use Rattle.fancy_regex.proofs.regexes.Regex.captured.Goals as goal

pub returns-in-Ok-clause-promise : goal.returns-in-Ok-clause-promise
returns-in-Ok-clause-promise c i text o h =
    captures_found i text o c.in-Ok.found c.found_with_names.result c.found_with_names.ensures.shown (subst (engine.FindsCaptures i text o) c.in-Ok.is h)

pub returns-in-Err-clause-promise : goal.returns-in-Err-clause-promise
returns-in-Err-clause-promise c i text o h =
    search_fails engine.shown_captures (with_numbers text) shown_captures (with_numbers text) i text o c.in-Err.error c.told.result c.told.ensures.engine
    (subst (engine.FindsCaptures i text o) c.in-Err.is h)

pub returns-in-Ok-clause-easy : goal.returns-in-Ok-clause-easy
returns-in-Ok-clause-easy c r text h = easy_names r text _ c.found_with_names.result c.found_with_names.ensures.shown

pub returns-in-Err-clause-easy : goal.returns-in-Err-clause-easy
returns-in-Err-clause-easy c r text = easy_error r text c.in-Err.error c.told.result c.args.found c.told.ensures.engine c.in-Err.is

pub returns-in-Ok-clause-limits : goal.returns-in-Ok-clause-limits
returns-in-Ok-clause-limits c h =
    names_told _ c.found_with_names.result c.found_with_names.ensures.shown (engine.passed_in c.args.self.now.engine)
    (subst (λ found. engine.StaysIn found c.args.self.now.engine) c.in-Ok.is h)

pub returns-in-Err-clause-limits : goal.returns-in-Err-clause-limits
returns-in-Err-clause-limits c h = c.told.ensures.limit (subst (λ found. engine.StaysIn found c.args.self.now.engine) c.in-Err.is h)
