use Rattle.std.proofs.Common.{◌<◌, length, arith}
use Rattle.fancy_meaning.specs.Numbers.{usize_max}
use Rattle.fancy_meaning.specs.Premises.{plan}
use Rattle.fancy_matches.proofs.Lists.{matches_apart}
use Rattle.fancy_matches.proofs.matcher.Matcher.captures_iter.Goals as goal

pub returns-clause-apart : goal.returns-clause-apart
returns-clause-apart c i o h =
    let text = c.args.text.now in
    let small : length text < usize_max = omega arith in
    matches_apart (plan i) text o (record { utf8 = c.utf8.text; fits = small })
