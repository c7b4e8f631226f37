use Rattle.fancy_matches.specs.Listing.{begun_at}
use Rattle.fancy_regex.proofs.regexes.Regex.find_from_pos.Goals as goal

pub returns-clause-promise : goal.returns-clause-promise
returns-clause-promise c i o h = c.matched.ensures.promise i c.args.text.now (begun_at o c.args.pos) (c.find_from-found.ensures.promise i o h)

pub returns-clause-easy : goal.returns-clause-easy
returns-clause-easy c = c.matched.ensures.easy c.args.self.now.engine c.args.text.now c.find_from-found.ensures.easy

pub returns-clause-limits : goal.returns-clause-limits
returns-clause-limits c = c.matched.ensures.limits c.find_from-found.ensures.stays
