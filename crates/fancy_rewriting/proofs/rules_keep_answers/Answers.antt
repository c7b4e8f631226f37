use Rattle.std.proofs.Common.{ap}
use Rattle.fancy_rewriting.proofs.Rules.{rule_keeps_ways, rule_keeps_behind, rule_keeps_groups}
use Rattle.fancy_rewriting.proofs.Wholes.{answers_kept}
use Rattle.fancy_rewriting.proofs.rules_keep_answers.Goals as goal

pub returns : goal.returns
returns c = λ q d e f rule none.
    answers_kept q d e f (rule_keeps_groups rule)
    (λ call. record {
      alone = λ s. ap (λ w. w s) (rule_keeps_ways q.setting call rule);
      behind = λ is s. ap (λ w. w s) (rule_keeps_behind q.setting call rule (none is));
    })
