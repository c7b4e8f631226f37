use Rattle.std.proofs.Common.{subst}
use Rattle.fancy_grep.specs.Matching.{Helps}
use Rattle.fancy_grep.specs.Needles.{needle_of}
use Rattle.fancy_grep.proofs.MatchingLaws.{has_no_match}
use Rattle.fancy_grep.proofs.matching.may_match.Goals as goal

pub returns-in-Some-clause-none : goal.returns-in-Some-clause-none
returns-in-Some-clause-none c = λ i o h e.
    let both = subst (Helps i c.args.line) c.in-Some.is h in
    has_no_match i o (needle_of c.in-Some.occurrences.needle) c.args.line.text.now both.0 (c.may_stand_in.ensures.lacks both.1 e)
