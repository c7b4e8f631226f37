use Rattle.std.proofs.Common.{◌∙◌, subst}
use Rattle.fancy_meaning.specs.Answer.{answer, search_of}
use Rattle.fancy_meaning.specs.Premises.{plan}
use Rattle.fancy_matches.specs.Listing.{begun_at}
use Rattle.fancy_matches.specs.Matchers.{FindsMatch}
use Rattle.fancy_matches.proofs.Searching.{told}
use Rattle.fancy_matches.proofs.matcher.Matcher.is_match.Goals as goal

pub returns-in-Ok-clause-promise : goal.returns-in-Ok-clause-promise
returns-in-Ok-clause-promise c i o h =
    let text = c.args.text.now in
    let found = subst (FindsMatch i text (begun_at o 0)) c.in-Ok.is (c.find.ensures.promise i o h) in
    (found.0, c.is_some.ensures ∙ told text (answer (search_of (plan i) text (begun_at o 0))) c.in-Ok.found found.1)
