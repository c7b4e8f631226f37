use Rattle.std.proofs.Common.{ap}
use Rattle.fancy_rewriting.proofs.Rules.{rule_keeps_ways}
use Rattle.fancy_rewriting.proofs.rules_keep_ways.Goals as goal

pub returns : goal.returns
returns c = λ q call e f s rule. ap (λ w. w s) (rule_keeps_ways q call rule)
