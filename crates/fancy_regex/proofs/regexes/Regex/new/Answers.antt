use Rattle.std.proofs.Common.{MatchResult, subst}
use Rattle.fancy_regex.specs.Builders.{IsBuilt, IsRefused, options}
use Rattle.fancy_regex.proofs.regexes.Regex.new.Goals as goal

pub returns : goal.returns
returns c =
    subst (λ b. MatchResult c.build.result (IsBuilt b.pattern.now (options b)) (IsRefused b.pattern.now (options b))) c.new.ensures c.build.ensures
