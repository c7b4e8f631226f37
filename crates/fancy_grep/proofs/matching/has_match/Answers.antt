use Rattle.std.proofs.Common.{Ok, false, sym, subst}
use Rattle.fancy_grep.specs.Matching.{TellsMatch}
use Rattle.fancy_grep.proofs.MatchingLaws.{helps_part, tells_match}
use Rattle.fancy_grep.proofs.matching.has_match.Goals as goal

pub returns-then-may_match-clause-promise : goal.returns-then-may_match-clause-promise
returns-then-may_match-clause-promise c i o is helps =
    let part = c.searched-part.result.text.now in
    subst (λ text. TellsMatch i o text c.is_match-found.result) c.searched-part.ensures.text
    (tells_match i o part c.is_match-found.result (c.is_match-found.ensures.promise i (o part) (is part)))

pub returns-else-may_match-clause-promise : goal.returns-else-may_match-clause-promise
returns-else-may_match-clause-promise c i o is helps =
    let part = helps_part i c.args.line c.searched-part.result c.args.sought.now c.searched-part.ensures.stands helps in
    subst (λ text. TellsMatch i o text (Ok false)) c.searched-part.ensures.text (sym (c.may_match.ensures.none i o part c.if-may_match.false))
