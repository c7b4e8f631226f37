use Rattle.std.proofs.Common.{◌∙◌, sym}
use Rattle.fancy_search.proofs.GearLaws.{stays_after}
use Rattle.fancy_search.proofs.search.Compiled.search_in_first_gear.Goals as goal

pub search_by_run-answer-requires-clause-suits : goal.search_by_run-answer-requires-clause-suits
search_by_run-answer-requires-clause-suits c = c.limit.ensures.suits c.args.self.now c.requires.suits

pub returns-in-None-clause-limits : goal.returns-in-None-clause-limits
returns-in-None-clause-limits c = c.limit-2.ensures.limits ∙ c.limits-limits.ensures

pub returns-in-None-clause-suits : goal.returns-in-None-clause-suits
returns-in-None-clause-suits c = c.limit-2.ensures.suits c.args.self.now c.search_by_run-answer.ensures.suits

pub returns-in-None-clause-stays : goal.returns-in-None-clause-stays
returns-in-None-clause-stays c =
    stays_after c.search_by_run-answer.result _ _ c.search_by_run-answer.ensures.stays (sym c.passed-passed.ensures ∙ c.in-None.is) c.limit-2.ensures.passed

pub returns-in-Some-Visits-clause-limits : goal.returns-in-Some-Visits-clause-limits
returns-in-Some-Visits-clause-limits c = c.limit-2.ensures.limits ∙ c.limits-limits.ensures

pub returns-in-Some-Visits-clause-suits : goal.returns-in-Some-Visits-clause-suits
returns-in-Some-Visits-clause-suits c = c.limit-2.ensures.suits c.args.self.now c.search_by_run-answer.ensures.suits

pub search_by_run-requires-in-Some-Bytes-clause-suits : goal.search_by_run-requires-in-Some-Bytes-clause-suits
search_by_run-requires-in-Some-Bytes-clause-suits c = c.limit-2.ensures.suits c.args.self.now c.search_by_run-answer.ensures.suits

pub returns-clause-limits : goal.returns-clause-limits
returns-clause-limits c = c.search_by_run-in-Some-Bytes.ensures.limits ∙ (c.limit-2.ensures.limits ∙ c.limits-limits.ensures)
