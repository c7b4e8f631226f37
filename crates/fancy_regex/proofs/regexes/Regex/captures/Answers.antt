use Rattle.fancy_matches.specs.Listing.{begun_at}
use Rattle.fancy_regex.proofs.regexes.Regex.captures.Goals as goal

pub returns-clause-promise : goal.returns-clause-promise
returns-clause-promise c i o h = c.captured.ensures.promise i c.args.text.now (begun_at o 0) (c.captures-found.ensures.promise i o h)

pub returns-clause-easy : goal.returns-clause-easy
returns-clause-easy c = c.captured.ensures.easy c.args.self.now.engine c.args.text.now c.captures-found.ensures.easy

pub returns-clause-limits : goal.returns-clause-limits
returns-clause-limits c = c.captured.ensures.limits c.captures-found.ensures.stays
