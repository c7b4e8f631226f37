use Rattle.fancy_hybrid.proofs.RangeLaws.{letters_made}
use Rattle.fancy_hybrid.proofs.ranges.both_cases.Goals as goal

pub returns : goal.returns
returns c =
    letters_made _ c.args.c _ _ c.to_ascii_lowercase-small.ensures.value c.to_ascii_uppercase-capital.ensures.value c.from_ranges.ensures
