use Rattle.std.proofs.Common.{Err, sym, subst}
use Rattle.fancy_matches.specs.Listing.{begun_at}
use Rattle.fancy_matches.specs.Matchers as engine
use Rattle.fancy_regex.proofs.Replies.{easy_error}
use Rattle.fancy_regex.proofs.regexes.Regex.is_match.Goals as goal

pub returns-in-Ok-clause-promise : goal.returns-in-Ok-clause-promise
returns-in-Ok-clause-promise c i o h = subst (engine.FindsWhether i c.args.text.now (begun_at o 0)) c.in-Ok.is (c.is_match.ensures.promise i o h)

pub returns-in-Err-clause-promise : goal.returns-in-Err-clause-promise
returns-in-Err-clause-promise c i o h =
    subst (λ e. engine.FindsWhether i c.args.text.now (begun_at o 0) (Err e)) (sym c.told.ensures.engine)
    (subst (engine.FindsWhether i c.args.text.now (begun_at o 0)) c.in-Err.is (c.is_match.ensures.promise i o h))

pub returns-in-Err-clause-easy : goal.returns-in-Err-clause-easy
returns-in-Err-clause-easy c =
    easy_error c.args.self.now.engine c.args.text.now c.in-Err.error c.told.result c.is_match.result c.told.ensures.engine c.in-Err.is c.is_match.ensures.easy

pub returns-in-Ok-clause-limits : goal.returns-in-Ok-clause-limits
returns-in-Ok-clause-limits c = sym (subst (λ found. engine.StaysIn found c.is_match.new.self) c.in-Ok.is c.is_match.ensures.stays)

pub returns-in-Err-clause-limits : goal.returns-in-Err-clause-limits
returns-in-Err-clause-limits c = c.told.ensures.limit (subst (λ found. engine.StaysIn found c.is_match.new.self) c.in-Err.is c.is_match.ensures.stays)
